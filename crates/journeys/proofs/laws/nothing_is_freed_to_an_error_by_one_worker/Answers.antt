use Rattle.journeys.proofs.NoneFreed.{none_freed}
use Rattle.journeys.proofs.laws.nothing_is_freed_to_an_error_by_one_worker.Goals as goal

pub returns : goal.returns
returns k = λ told journeys one are. none_freed told journeys one are
