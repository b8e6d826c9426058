use Rattle.journeys.proofs.JourneysOnce.{journeys_once, kept_once}
use Rattle.journeys.proofs.laws.the_journeys_of_a_trace_are_one.Goals as goal

pub returns-clause-journeys : goal.returns-clause-journeys
returns-clause-journeys c = λ told one other is also. journeys_once told one other is also

pub returns-clause-kept : goal.returns-clause-kept
returns-clause-kept c = λ told one other is also. kept_once told one other is also
