use Rattle.std.proofs.Common.{◌≡◌, ◌≤◌, length, sym, subst, ◌∙◌, ap, List}
use Rattle.std.specs.Prelude.{None}
use Rattle.map_rules.specs.declared.rule.Rule.{Rule}
use Rattle.rule_book.specs.Valid.{IsValid}
use Rattle.rule_book.specs.Refusal.{overlap_of}
use Rattle.rule_book.specs.Change.{rules_after}
use Rattle.rule_book.proofs.Sound.{valid-unless_overlap}
use Rattle.rule_book.proofs.book.Book.changed.Goals as goal

pub invariant_of-result : goal.invariant_of-result
invariant_of-result c =
    let rules : List Rule = c.args.self.now.rules in
    let change = c.args.change.now in
    let dmr = c.args.self.now.dmr in
    let after : c.in_ok-rules.rules ≡ rules_after change rules = c.in_ok-rules.ensures ∙ ap (λ xs. rules_after change xs) c.as_slice-2.ensures in
    let IsFew : List Rule → Type 0 = λ xs. length (rules_after change xs) ≤ 256 in
    let few : length (rules_after change rules) ≤ 256 = subst IsFew c.as_slice.ensures c.in_default.ensures.few in
    let apart : overlap_of (rules_after change rules) dmr ≡ None = ap (λ xs. overlap_of xs dmr) (sym (c.as_slice-3.ensures ∙ after)) ∙ sym c.overlap.ensures ∙ c.in_default-overlap.is in
    let Valid : List Rule → Type 0 = λ xs. IsValid xs dmr in
    record { valid = subst Valid (sym after) (valid-unless_overlap (rules_after change rules) dmr few apart) }
