use Rattle.std.proofs.Common.{◌≡◌, ◌∙◌, refl, sym, ap, subst, ⊎_elim}
use Rattle.std.specs.Prelude.{OnOk}
use Rattle.std.proofs.Math.Logic.{∥∥₁_elim}
use Rattle.edge_node.specs.declared.way.Way.TheVariants.{Access}
use Rattle.l4_headers.specs.declared.ends.Ends.{Ends}
use Rattle.octets.specs.declared.address.Addr4.{Addr4}
use Rattle.nat_model.specs.declared.answer.Answer.{Answer}
use Rattle.packets.specs.declared.asked.Flow.{Flow}
use Rattle.packets.specs.Asked.{flow_of6}
use Rattle.hops.specs.Gains.{Gains}
use Rattle.hops.specs.Hop.{nothing}
use Rattle.hops.proofs.Gained.{unmoved}
use Rattle.edge_node.specs.Ends.{ends_in}
use Rattle.edge_node.specs.Hop.{FromAccess, ComesIn, IsAnswerAt}
use Rattle.edge_node.proofs.inward.FromAccessCarriesIpv6false.carry.Goals as goal

pub returns-in-In : goal.returns-in-In
returns-in-In c =
    let node = c.args.self.now.node.now in
    let octets = c.args.octets.now in
    let p = c.args.packet.now in
    let ends : c.ends_in-ends.result ≡ ends_in (flow_of6 p.content) c.in-In.to c.in-In.port c.in-In.from c.in-In.peer = c.ends_in-ends.ensures ∙ ap (λ (f : Flow). ends_in f c.in-In.to c.in-In.port c.in-In.from c.in-In.peer) c.flow.ensures in
    subst (λ (a : Answer). OnOk c.come_in.result (Gains (FromAccess node a octets p) c.args.hop.now c.come_in.new.hop)) (sym c.in-In.is)
    (subst (λ (e : Ends Addr4). OnOk c.come_in.result (Gains (ComesIn node octets e p) c.args.hop.now c.come_in.new.hop)) ends c.come_in.ensures)

pub returns-in-Held : goal.returns-in-Held
returns-in-Held c =
    let self = c.args.self.now in
    let octets = c.args.octets.now in
    let p = c.args.packet.now in
    unmoved (FromAccess self.node.now self.answer.now octets p) c.args.hop.now (subst (λ (a : Answer). FromAccess self.node.now a octets p nothing) (sym c.in-Held.is) refl)

bottom : (a b : ⊥) → a ≡ b
bottom a b = absurd a

pub unreachable-requires : goal.unreachable-requires
unreachable-requires c = ∥∥₁_elim c.args.self.now.fits bottom (λ at. ⊎_elim
    (λ w. absurd (subst (IsAnswerAt Access) w.5 at))
    (⊎_elim (λ w. absurd (subst (IsAnswerAt Access) w.3 at)) (λ w. absurd (subst (IsAnswerAt Access) w.2 at))) c.in-Out.is)
