use Rattle.std.proofs.Common.{◌≡◌, take, drop}
use Rattle.mapt_setup.specs.Beside.{first_after, first_from}
use Rattle.mapt_setup.specs.Moves.{is_early}
use Rattle.mapt_setup.proofs.moves.first_early.Given as goal

abbrev pub invariant-loop-i : goal.invariant-loop-i
invariant-loop-i l = first_from is_early (take l.i l.texts) (drop l.i l.texts) ≡ first_after is_early l.texts
