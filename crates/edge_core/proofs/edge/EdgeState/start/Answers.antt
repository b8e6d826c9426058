use Rattle.std.proofs.Common.{◌≡◌, [], length, sym, ap, ◌∙◌, subst}
use Rattle.octets.specs.declared.prefix.Prefix6.{Prefix6}
use Rattle.nat_model.specs.State.{Generation, NatMachine, generation_in}
use Rattle.nat_model.specs.Sound.{IsSound}
use Rattle.edge_core.specs.Used.{started, used_books}
use Rattle.edge_core.proofs.Entries.{kept-begun, edge-kept}
use Rattle.edge_core.proofs.edge.EdgeState.start.Goals as goal

pub invariant_of-result : goal.invariant_of-result
invariant_of-result g c =
    let view : Generation = record { rules = g.V.RuleView.rules c.args.view.now; dmr = g.V.RuleView.default_rule c.args.view.now; number = g.V.RuleView.number c.args.view.now } in
    let first = c.in_ok-of_view.field-0 in
    let kept = c.in_ok-of.field-0 in
    let made = c.in_ok-start.ensures.start in
    let state_of = λ (m : NatMachine). m.state in
    let same : generation_in first ≡ view = λ i. record { rules = c.in_ok-of_view.ensures.rules i; dmr = c.in_ok-of_view.ensures.dmr i; number = c.in_ok-of_view.ensures.generation i } in
    let books = ap (used_books first) c.new.ensures.items in
    let used = c.generation.ensures ∙ sym c.in_ok-of_view.ensures.generation in
    let begun : c.in_ok-start.field-0.state ≡ record { book = generation_in first; clock = 0; bindings = kept; notes = [] } = ap state_of made ∙ (λ i. record { book = sym same i; clock = 0; bindings = sym c.in_ok-of.ensures i; notes = [] }) in
    let all = kept-begun (started c.args.prefix first kept) (used_books first c.new.result.items) c.generation.result c.in_ok-start.field-0.state c.new-2.result.items books used begun c.new-2.ensures.items in
    let prefix = ap (λ (m : NatMachine). m.prefix) made in
    let P : Prefix6 → Type 0 = λ p. IsSound p c.in_ok-start.field-0.state in
    let number = ap (λ (m : NatMachine). m.state.book.number) made ∙ sym c.generation.ensures in
    record {
      keeps = edge-kept (started c.args.prefix first kept) (used_books first c.new.result.items) c.generation.result c.in_ok-start.field-0.state c.new-2.result.items all (subst P prefix c.in_ok-start.ensures.sound) number;
      used = number;
      prefix = prefix;
      counted = ap (λ (m : NatMachine). m.steps) made ∙ ap length (sym c.new-2.ensures.items);
    }
