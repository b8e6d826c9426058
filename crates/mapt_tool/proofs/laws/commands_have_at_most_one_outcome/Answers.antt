use Rattle.mapt_tool.proofs.Ending.{one_outcome}
use Rattle.mapt_tool.proofs.laws.commands_have_at_most_one_outcome.Goals as goal

pub returns : goal.returns
returns c = one_outcome
