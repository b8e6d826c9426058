use Rattle.std.proofs.Common.{subst, Bor}
use Rattle.std.specs.Prelude.{Bool, IfOk}
use Rattle.std.specs.Option.{option_map}
use Rattle.frag_table.specs.declared.answer.FragAnswer.{FragAnswer}
use Rattle.relay_node.specs.Relay.{Relay, relay_at}
use Rattle.relay_node.specs.Hop.{IsRelayHop}
use Rattle.relay_node.proofs.hop.relay_hop.Goals as goal

pub returns : goal.returns
returns g c =
    let octets = c.args.packet.now in
    let told = option_map (λ (a : Bor FragAnswer). a.now) c.args.frag in
    let relay : Relay = relay_at (g.V.RuleView.rules c.args.view.now) (g.V.RuleView.default_rule c.args.view.now) c.args.params.now c.args.id in
    subst (λ (six : Bool). IfOk c.hop.result (λ hop. IsRelayHop relay six octets told hop)) c.in_ok-taken.ensures.six
    (rw c.new-relay.ensures at c.hop.ensures)
