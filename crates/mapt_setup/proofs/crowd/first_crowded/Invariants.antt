use Rattle.std.proofs.Common.{◌≡◌, take, drop}
use Rattle.mapt_setup.specs.Beside.{first_after, first_from}
use Rattle.mapt_setup.specs.Crowd.{is_crowded}
use Rattle.mapt_setup.proofs.crowd.first_crowded.Given as goal

abbrev pub invariant-loop-i : goal.invariant-loop-i
invariant-loop-i l = first_from is_crowded (take l.i l.edges) (drop l.i l.edges) ≡ first_after is_crowded l.edges
