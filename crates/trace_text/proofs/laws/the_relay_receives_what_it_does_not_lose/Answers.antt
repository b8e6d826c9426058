use Rattle.trace_text.proofs.Relayed.{relayed6}
use Rattle.trace_text.proofs.laws.the_relay_receives_what_it_does_not_lose.Goals as goal

pub returns : goal.returns
returns k = λ relay q six ports hop flow is. relayed6 relay q six ports hop flow is
