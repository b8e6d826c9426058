use Rattle.journeys.specs.declared.stand.Stand.TheVariants.{Edge}
use Rattle.journeys.specs.Waiting.{at_stand}
use Rattle.journeys.proofs.Ranks.{edge_sends, sends_less}
use Rattle.journeys.proofs.laws.an_edge_sends_what_goes_less_far.Goals as goal

pub returns : goal.returns
returns k = λ setup node number way answer octets hop frees is.
    sends_less setup (at_stand octets (Edge number way)) hop (edge_sends setup node number way answer octets hop frees is)
