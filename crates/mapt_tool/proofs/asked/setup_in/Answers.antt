use Rattle.mapt_tool.proofs.Configured.{setup_refused}
use Rattle.mapt_tool.proofs.asked.setup_in.Goals as goal

pub returns-in-Err-clause-given : goal.returns-in-Err-clause-given
returns-in-Err-clause-given c = rw c.status_of.ensures (setup_refused c.args.text.now c.in-Err.fault c.in-Err.ensures.exact)
