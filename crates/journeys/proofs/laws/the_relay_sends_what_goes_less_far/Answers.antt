use Rattle.journeys.specs.declared.stand.Stand.TheVariants.{Relay}
use Rattle.journeys.specs.Waiting.{at_stand}
use Rattle.journeys.proofs.Ranks.{relay_sends, sends_less}
use Rattle.journeys.proofs.laws.the_relay_sends_what_goes_less_far.Goals as goal

pub returns : goal.returns
returns k = λ setup relay six octets told hop same book frees is.
    sends_less setup (at_stand octets (Relay six)) hop (relay_sends setup relay six octets told hop same book frees is)
