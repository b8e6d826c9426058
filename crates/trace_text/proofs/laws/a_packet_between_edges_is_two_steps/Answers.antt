use Rattle.trace_text.proofs.Directions.{edge_to_edge}
use Rattle.trace_text.proofs.laws.a_packet_between_edges_is_two_steps.Goals as goal

pub returns : goal.returns
returns k = λ setting one other c is. edge_to_edge setting one other c is
