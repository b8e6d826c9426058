use Rattle.std.proofs.Common.{◌≡◌, ◌++◌, ◌+◌, drop}
use Rattle.mapt_setup.specs.Script.{move_items}
use Rattle.mapt_setup.proofs.items.add_changes.Given as goal

abbrev pub invariant-loop-i : goal.invariant-loop-i
invariant-loop-i l = l.items.items ++ move_items (l.i + 1) (drop l.i l.changes) ≡ l.fn.items.items ++ move_items 1 l.changes
