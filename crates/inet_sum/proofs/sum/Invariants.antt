-- The total so far and the words of the octets left are the words of all; a pair adds less than 2 ^ 16.
use Rattle.std.proofs.Common.{◌≡◌, ◌+◌, ◌*◌, ◌≤◌, length}
use Rattle.inet_sum.specs.Sum.{words}
use Rattle.inet_sum.proofs.sum.Given as goal

abbrev pub invariant-loop-left : goal.invariant-loop-left
invariant-loop-left l = record {
  summed : l.total + words l.left ≡ words l.octets;
  small : l.total + 32768 * length l.left ≤ 32768 * length l.octets;
}

abbrev pub decreases-loop-left : goal.decreases-loop-left
decreases-loop-left l = length l.left
