use Rattle.std.proofs.Common.{length}
use Rattle.icmp_messages.proofs.check.+folded_behind.Given as goal

abbrev pub decreases-folded_behind : goal.decreases-folded_behind
decreases-folded_behind l = length l.octets.now
