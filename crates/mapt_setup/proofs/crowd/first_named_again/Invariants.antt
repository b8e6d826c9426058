use Rattle.std.proofs.Common.{◌≡◌, take, drop}
use Rattle.mapt_setup.specs.Beside.{first_after, first_from}
use Rattle.mapt_setup.specs.Crowd.{has_name_of}
use Rattle.mapt_setup.proofs.crowd.first_named_again.Given as goal

abbrev pub invariant-loop-i : goal.invariant-loop-i
invariant-loop-i l = first_from has_name_of (take l.i l.edges) (drop l.i l.edges) ≡ first_after has_name_of l.edges
