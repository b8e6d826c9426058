use Rattle.std.proofs.Common.{◌≡◌, length}
use Rattle.ip4_packet.specs.Options.{beside, routed_in}
use Rattle.ip4_packet.proofs.options.routed.Given as goal

-- what was found beside what the rest gives is what all gives
abbrev pub invariant-loop-left : goal.invariant-loop-left
invariant-loop-left l = beside l.found (routed_in 0 l.left) ≡ routed_in 0 l.octets

abbrev pub decreases-loop-left : goal.decreases-loop-left
decreases-loop-left l = length l.left
