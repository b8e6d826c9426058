use Rattle.std.proofs.Common.{◌≡◌, length}
use Rattle.icmp_messages.specs.Table.{pointer_of}
use Rattle.icmp_messages.proofs.table.pointer_of.Given as goal

abbrev pub invariant-loop-left : goal.invariant-loop-left
invariant-loop-left l = pointer_of l.left l.pointer ≡ pointer_of l.rows l.pointer

abbrev pub decreases-loop-left : goal.decreases-loop-left
decreases-loop-left l = length l.left
