use Rattle.std.proofs.Common.{sym}
use Rattle.mapt_setup.proofs.SetupStages.{bad_order, ordered}
use Rattle.mapt_setup.proofs.moves.changes_of.Goals as goal

pub returns-in-Some : goal.returns-in-Some
returns-in-Some c = bad_order _ _ _ _ (sym c.in-Some.ensures)

pub returns : goal.returns
returns c = ordered _ _ _ _ (sym c.in_default.ensures) c.moved.ensures
