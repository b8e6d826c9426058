use Rattle.std.specs.Prelude.{Option}
use Rattle.octets.specs.declared.cause.Cause.{Cause}
use Rattle.frag_table.specs.declared.ask.FragAsk.{FragAsk}
use Rattle.packets.proofs.Settled.{taken_alone, dropped_alone}
use Rattle.relay_node.specs.Asked.{AsksFrom, IsDroppedFrom}
use Rattle.relay_node.proofs.OneHop.{one_ask}
use Rattle.relay_node.proofs.taken.frag_of.Goals as goal

pub returns-clause-only : goal.returns-clause-only
returns-clause-only c =
    let six = c.in_ok-taken.ensures.six in
    let octets = c.args.packet.now in
    taken_alone (λ (ask : Option FragAsk). AsksFrom c.args.six octets ask) (λ (cause : Cause). IsDroppedFrom c.args.six cause octets) c.ask.result (one_ask c.args.six octets)
    (rw six at c.ask.ensures.asked) (rw six at c.ask.ensures.refused)

pub returns-clause-cause : goal.returns-clause-cause
returns-clause-cause c =
    let six = c.in_ok-taken.ensures.six in
    let octets = c.args.packet.now in
    dropped_alone (λ (ask : Option FragAsk). AsksFrom c.args.six octets ask) (λ (cause : Cause). IsDroppedFrom c.args.six cause octets) c.ask.result (one_ask c.args.six octets)
    (rw six at c.ask.ensures.asked) (rw six at c.ask.ensures.refused)
