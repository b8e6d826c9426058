use Rattle.std.proofs.Common.{◌≡◌, ◌∙◌, refl, sym, ap, subst}
use Rattle.std.specs.Prelude.{OnOk}
use Rattle.l4_headers.specs.declared.ends.Ends.{Ends}
use Rattle.octets.specs.declared.address.Addr6.{Addr6}
use Rattle.nat_model.specs.declared.answer.Answer.{Answer}
use Rattle.packets.specs.declared.asked.Flow.{Flow}
use Rattle.packets.specs.Asked.{flow_of4}
use Rattle.hops.specs.Gains.{Gains}
use Rattle.hops.specs.Hop.{nothing}
use Rattle.hops.proofs.Gained.{unmoved}
use Rattle.edge_node.specs.Ends.{ends_out}
use Rattle.edge_node.specs.Hop.{FromLan, GoesOut}
use Rattle.edge_node.proofs.outward.FromLanCarriesIpv4.carry.Goals as goal

pub returns-in-Out : goal.returns-in-Out
returns-in-Out c =
    let node = c.args.self.now.node.now in
    let octets = c.args.octets.now in
    let p = c.args.packet.now in
    let ends : c.ends_out-ends.result ≡ ends_out (flow_of4 p.content) c.in-Out.port c.in-Out.src6 c.in-Out.dst6 = c.ends_out-ends.ensures ∙ ap (λ (f : Flow). ends_out f c.in-Out.port c.in-Out.src6 c.in-Out.dst6) c.flow.ensures in
    subst (λ (a : Answer). OnOk c.go_out.result (Gains (FromLan node a octets p) c.args.hop.now c.go_out.new.hop)) (sym c.in-Out.is)
    (subst (λ (e : Ends Addr6). OnOk c.go_out.result (Gains (GoesOut node octets e p) c.args.hop.now c.go_out.new.hop)) ends c.go_out.ensures)

pub returns-in-Held : goal.returns-in-Held
returns-in-Held c =
    let self = c.args.self.now in
    let octets = c.args.octets.now in
    let p = c.args.packet.now in
    unmoved (FromLan self.node.now self.answer.now octets p) c.args.hop.now (subst (λ (a : Answer). FromLan self.node.now a octets p nothing) (sym c.in-Held.is) refl)
