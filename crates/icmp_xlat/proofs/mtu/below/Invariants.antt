use Rattle.std.proofs.Common.{◌≡◌, length}
use Rattle.icmp_xlat.specs.Mtu.{plateau_below}
use Rattle.icmp_xlat.proofs.mtu.below.Given as goal

abbrev pub invariant-loop-left : goal.invariant-loop-left
invariant-loop-left l = plateau_below l.left l.total ≡ plateau_below l.plateaus l.total

abbrev pub decreases-loop-left : goal.decreases-loop-left
decreases-loop-left l = length l.left
