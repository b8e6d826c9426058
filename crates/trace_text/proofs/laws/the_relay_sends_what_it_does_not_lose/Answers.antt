use Rattle.trace_text.proofs.Relayed.{relayed4}
use Rattle.trace_text.proofs.laws.the_relay_sends_what_it_does_not_lose.Goals as goal

pub returns : goal.returns
returns k = λ relay p octets ports hop flow is. relayed4 relay p octets ports hop flow is
