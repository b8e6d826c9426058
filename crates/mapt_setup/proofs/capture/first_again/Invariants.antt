use Rattle.std.proofs.Common.{◌≡◌, take, drop}
use Rattle.mapt_setup.specs.Beside.{first_after, first_from}
use Rattle.mapt_setup.specs.Fit.{has_side_of}
use Rattle.mapt_setup.proofs.capture.first_again.Given as goal

abbrev pub invariant-loop-i : goal.invariant-loop-i
invariant-loop-i l = first_from has_side_of (take l.i l.captures) (drop l.i l.captures) ≡ first_after has_side_of l.captures
