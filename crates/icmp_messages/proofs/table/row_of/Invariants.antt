use Rattle.std.proofs.Common.{◌≡◌, length}
use Rattle.icmp_messages.specs.Table.{row_of}
use Rattle.icmp_messages.proofs.table.row_of.Given as goal

abbrev pub invariant-loop-left : goal.invariant-loop-left
invariant-loop-left l = row_of l.left l.kind l.code ≡ row_of l.rows l.kind l.code

abbrev pub decreases-loop-left : goal.decreases-loop-left
decreases-loop-left l = length l.left
