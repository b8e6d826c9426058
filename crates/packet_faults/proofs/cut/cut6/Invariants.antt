use Rattle.std.proofs.Common.{length, ◌-◌, ◌≡◌, ◌*◌}
use Rattle.packet_faults.proofs.CutLemmas.{Upto}
use Rattle.packet_faults.proofs.cut.cut6.Given as goal

-- the pieces up to here
abbrev pub invariant-loop-at : goal.invariant-loop-at
invariant-loop-at l = record {
  counted : l.at ≡ length l.pieces * l.step;
  upto : Upto (record { head = l.head; payload = l.payload; step = l.step; id = l.id }) l.pieces;
}

abbrev pub decreases-loop-at : goal.decreases-loop-at
decreases-loop-at l = length l.payload - l.at
