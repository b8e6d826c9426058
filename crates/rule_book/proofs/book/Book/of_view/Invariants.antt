use Rattle.std.proofs.Common.{◌≡◌, take}
use Rattle.rule_book.proofs.book.Book.of_view.Given as goal

-- the rules so far
abbrev pub invariant-loop-i : goal.invariant-loop-i
invariant-loop-i g l = l.rules ≡ take l.i (g.V.RuleView.rules l.view)
