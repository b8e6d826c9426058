use Rattle.trace_text.proofs.Onward.{relay_delivers}
use Rattle.trace_text.proofs.laws.what_the_relay_delivers_is_of_its_hop.Goals as goal

pub returns : goal.returns
returns k = λ relay told octets four hop k out may is e on. relay_delivers relay told octets four hop k out may is e on
