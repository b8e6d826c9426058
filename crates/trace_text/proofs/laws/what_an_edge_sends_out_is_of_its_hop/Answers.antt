use Rattle.trace_text.proofs.Onward.{edge_emits}
use Rattle.trace_text.proofs.laws.what_an_edge_sends_out_is_of_its_hop.Goals as goal

pub returns : goal.returns
returns k = λ params id answer octets six hop k is e. edge_emits params id answer octets six hop k is e
