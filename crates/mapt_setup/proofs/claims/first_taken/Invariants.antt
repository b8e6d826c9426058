use Rattle.std.proofs.Common.{◌≡◌, take, drop}
use Rattle.mapt_setup.specs.Beside.{first_after, first_from}
use Rattle.mapt_setup.specs.Claims.{is_taken}
use Rattle.mapt_setup.proofs.claims.first_taken.Given as goal

abbrev pub invariant-loop-i : goal.invariant-loop-i
invariant-loop-i l = first_from is_taken (take l.i l.forwards) (drop l.i l.forwards) ≡ first_after is_taken l.forwards
