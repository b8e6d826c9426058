use Rattle.trace_text.proofs.Onward.{relay_emits}
use Rattle.trace_text.proofs.laws.what_the_relay_sends_out_is_of_its_hop.Goals as goal

pub returns : goal.returns
returns k = λ relay told octets six hop k may is e. relay_emits relay told octets six hop k may is e
