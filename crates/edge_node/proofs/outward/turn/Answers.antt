use Rattle.std.proofs.Common.{inl, inr, arith, ap, ℕ, List}
use Rattle.octets.specs.declared.cause.Cause.TheVariants.{TtlSpent}
use Rattle.hops.specs.declared.exit.Exit.TheVariants.{ToItself}
use Rattle.hops.specs.Hop.{sends}
use Rattle.hops.proofs.Gained.{gained, widened}
use Rattle.turned_packets.specs.Turned.{turned_out}
use Rattle.edge_node.specs.Hop.{IsRefusedToLan, Turns}
use Rattle.edge_node.proofs.Refused.{lan_drops}
use Rattle.edge_node.proofs.outward.turn.Goals as goal

pub returns-then-packet-le1 : goal.returns-then-packet-le1
returns-then-packet-le1 c =
    let node = c.args.node.now in
    let octets = c.args.octets.now in
    let p = c.args.packet.now in
    let refuses = rw (c.in_hand.ensures.from, c.in_hand.ensures.head, c.in_hand.ensures.octets) at c.refuse.ensures in
    widened c.refuse.result (IsRefusedToLan node octets p.head TtlSpent) (Turns node octets p (turned_out c.args.source.0 c.args.source.1 p octets)) c.args.hop.now c.refuse.new.hop
    (λ hop refused. inl (c.if-packet-le1.true, lan_drops node octets p TtlSpent hop c.requires refused)) refuses

pub returns : goal.returns
returns c =
    let octets = c.args.octets.now in
    let p = c.args.packet.now in
    let turned = c.in_ok-turned.turned in
    gained c.send.result (Turns c.args.node.now octets p (turned_out c.args.source.0 c.args.source.1 p octets)) c.args.hop.now c.send.new.self (sends ToItself turned)
    (inr (omega (arith, c.if-packet-le1.false), ap (λ (o : List ℕ). sends ToItself o) c.in_ok-turned.ensures)) c.send.ensures
