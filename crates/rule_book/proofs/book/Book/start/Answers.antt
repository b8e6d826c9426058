use Rattle.std.proofs.Common.{sym, subst, ◌∙◌, List}
use Rattle.map_rules.specs.declared.rule.Rule.{Rule}
use Rattle.rule_book.specs.Valid.{IsValid}
use Rattle.rule_book.proofs.Sound.{valid-unless_refused}
use Rattle.rule_book.proofs.book.Book.start.Goals as goal

pub invariant_of-result : goal.invariant_of-result
invariant_of-result c =
    let fits : List Rule → Type 0 = λ rules. IsValid rules c.args.dmr in
    record { valid = subst fits (sym c.in_ok-of.ensures) (valid-unless_refused c.args.rules.now c.args.dmr (sym c.refusal.ensures ∙ c.in_default.is)) }
