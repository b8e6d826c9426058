use Rattle.journeys.proofs.RunKept.{run_is_kept}
use Rattle.journeys.proofs.laws.what_one_worker_keeps_is_what_its_trace_says.Goals as goal

pub returns : goal.returns
returns k = λ setup script trace run. run_is_kept setup script trace run
