use Rattle.std.proofs.Common.{◌≡◌, refl, sym, ap, subst, ⊎_elim, List, ℕ}
use Rattle.std.proofs.Math.Logic.{∥∥₁_elim}
use Rattle.nat_model.specs.declared.answer.Answer.{Answer}
use Rattle.hops.specs.declared.exit.Exit.TheVariants.{ToLan}
use Rattle.hops.specs.Hop.{nothing, sends, lost}
use Rattle.hops.proofs.Gained.{gained, unmoved}
use Rattle.edge_node.specs.declared.way.Way.TheVariants.{Turned}
use Rattle.edge_node.specs.Hop.{FromItself, IsAnswerAt}
use Rattle.edge_node.proofs.inward.FromItselfCarriesIpv4.carry.Goals as goal

pub returns-in_ok-turned-in-In : goal.returns-in_ok-turned-in-In
returns-in_ok-turned-in-In c =
    let self = c.args.self.now in
    let octets = c.args.octets.now in
    let p = c.args.packet.now in
    let turned = c.in_ok-turned-in-In.turned in
    gained c.send.result (FromItself self.answer.now octets p) c.args.hop.now c.send.new.self (sends ToLan turned)
    (subst (λ (a : Answer). FromItself a octets p (sends ToLan turned)) (sym c.in-In.is) (ap (λ (o : List ℕ). sends ToLan o) c.in_ok-turned-in-In.ensures)) c.send.ensures

pub returns-in-Held : goal.returns-in-Held
returns-in-Held c =
    let self = c.args.self.now in
    let octets = c.args.octets.now in
    let p = c.args.packet.now in
    unmoved (FromItself self.answer.now octets p) c.args.hop.now (subst (λ (a : Answer). FromItself a octets p nothing) (sym c.in-Held.is) refl)

pub returns-in-Refused : goal.returns-in-Refused
returns-in-Refused c =
    let self = c.args.self.now in
    let octets = c.args.octets.now in
    let p = c.args.packet.now in
    gained c.lose.result (FromItself self.answer.now octets p) c.args.hop.now c.lose.new.self (lost c.in-Refused.cause)
    (subst (λ (a : Answer). FromItself a octets p (lost c.in-Refused.cause)) (sym c.in-Refused.is) refl) c.lose.ensures

bottom : (a b : ⊥) → a ≡ b
bottom a b = absurd a

pub unreachable-requires : goal.unreachable-requires
unreachable-requires c = ∥∥₁_elim c.args.self.now.fits bottom (λ at. ⊎_elim
    (λ w. absurd (subst (IsAnswerAt Turned) w.5 at))
    (⊎_elim (λ w. absurd (subst (IsAnswerAt Turned) w.3 at)) (λ w. absurd (subst (IsAnswerAt Turned) w.2 at))) c.in-Out.is)
