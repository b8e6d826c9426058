use Rattle.std.proofs.Common.{◌∷◌, [], ◌++◌, sym, ◌∙◌, ap, arith}
use Rattle.rule_book.proofs.Places.{take-read, none-within}
use Rattle.rule_book.proofs.book.Book.of_view.Goals as goal
use Rattle.rule_book.proofs.book.Book.of_view.Goals.{in-Some+in_ok-push, in_default}

pub loop-i-preserved : goal.loop-i-preserved
loop-i-preserved g c =
    elim c.match-rule.branch [
      | in-Some+in_ok-push w ↦
          w.rules-is ∙ w.in_ok-push.ensures.ok ∙ ap (λ rules. rules ++ w.in-Some.rule ∷ []) c.loop-i.invariant ∙ sym (take-read _ c.loop-i.i w.in-Some.rule (sym c.rule.ensures ∙ w.in-Some.is))
      | in_default w ↦
          absurd (none-within _ c.loop-i.i (omega (arith, c.count-i-end.ensures, c.loop-i-test)) (sym c.rule.ensures ∙ w.in_default.is))
    ]
