use Rattle.std.proofs.Common.{◌≡◌, take, drop}
use Rattle.rule_book.specs.Valid.{clash4}
use Rattle.rule_book.specs.Refusal.{pair_after, first_pair}
use Rattle.rule_book.proofs.refusal.first_pair4.Given as goal

-- no pair is at or before an earlier later rule
abbrev pub invariant-loop-later : goal.invariant-loop-later
invariant-loop-later l = pair_after clash4 (take l.later l.rules) (drop l.later l.rules) ≡ first_pair clash4 l.rules
