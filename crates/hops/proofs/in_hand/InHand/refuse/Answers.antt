use Rattle.std.proofs.Common.{refl}
use Rattle.hops.specs.Hop.{drops, IsRefused}
use Rattle.hops.proofs.Gained.{gained}
use Rattle.hops.proofs.in_hand.InHand.refuse.Goals as goal

pub returns : goal.returns
returns g c =
    let self = c.args.self.now in
    let reply = c.in_ok-reply.reply in
    gained c.drop_packet.result (IsRefused (g.S.Side.IsReply self.from self.head.now self.octets.now) self.from.exit c.args.cause)
    c.args.hop.now c.drop_packet.new.self (drops c.args.cause self.from.exit reply) (reply, c.in_ok-reply.ensures, refl) c.drop_packet.ensures
