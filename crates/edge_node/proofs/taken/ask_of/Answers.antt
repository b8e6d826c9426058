use Rattle.octets.specs.declared.cause.Cause.{Cause}
use Rattle.nat_model.specs.declared.ask.Ask.{Ask}
use Rattle.packets.proofs.Settled.{taken_alone, dropped_alone}
use Rattle.edge_node.specs.Asked.{IsAsk, IsDroppedAt}
use Rattle.edge_node.proofs.OneHop.{one_ask}
use Rattle.edge_node.proofs.taken.ask_of.Goals as goal

pub returns-clause-only : goal.returns-clause-only
returns-clause-only c =
    let way = c.in_ok-taken.ensures.way in
    let octets = c.args.packet.now in
    taken_alone (λ (ask : Ask). IsAsk c.args.way octets ask) (λ (cause : Cause). IsDroppedAt c.args.way cause octets) c.ask.result (one_ask c.args.way octets)
    (rw way at c.ask.ensures.found) (rw way at c.ask.ensures.refused)

pub returns-clause-cause : goal.returns-clause-cause
returns-clause-cause c =
    let way = c.in_ok-taken.ensures.way in
    let octets = c.args.packet.now in
    dropped_alone (λ (ask : Ask). IsAsk c.args.way octets ask) (λ (cause : Cause). IsDroppedAt c.args.way cause octets) c.ask.result (one_ask c.args.way octets)
    (rw way at c.ask.ensures.found) (rw way at c.ask.ensures.refused)
