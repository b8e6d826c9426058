use Rattle.std.proofs.Common.{◌≡◌, ◌++◌}
use Rattle.journeys.proofs.journey.put_behind.Given as goal

-- what is put and what is left are what there was
abbrev pub invariant-loop-made : goal.invariant-loop-made
invariant-loop-made l = l.done.items ++ l.made-iterator.rest.items ≡ l.fn.done.items ++ l.fn.level.items
