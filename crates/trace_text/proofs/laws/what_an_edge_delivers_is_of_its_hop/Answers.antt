use Rattle.trace_text.proofs.Onward.{edge_delivers}
use Rattle.trace_text.proofs.laws.what_an_edge_delivers_is_of_its_hop.Goals as goal

pub returns : goal.returns
returns k = λ params id answer octets four hop k is e. edge_delivers params id answer octets four hop k is e
