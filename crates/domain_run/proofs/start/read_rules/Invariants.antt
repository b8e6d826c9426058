use Rattle.std.specs.Prelude.{◌≡◌, ℕ, ◌<◌, slice_get, Some}
use Rattle.map_rules.specs.declared.rule.Rule.{Rule}
use Rattle.rule_book.specs.Valid.{FitsRule}
use Rattle.domain_run.proofs.start.read_rules.Given as goal

abbrev pub invariant-loop-i : goal.invariant-loop-i
invariant-loop-i g l = (k : ℕ) (rule : Rule) → k < l.i → slice_get (g.V.RuleView.rules l.view) k ≡ Some rule → FitsRule rule
