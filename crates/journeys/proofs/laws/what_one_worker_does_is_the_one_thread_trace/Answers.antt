use Rattle.journeys.proofs.RunIsTrace.{run_is_one_thread}
use Rattle.journeys.proofs.laws.what_one_worker_does_is_the_one_thread_trace.Goals as goal

pub returns : goal.returns
returns k = λ setup script trace run. run_is_one_thread setup script trace run
