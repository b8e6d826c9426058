use Rattle.trace_text.proofs.Whole.{pieces_between_edges}
use Rattle.trace_text.proofs.laws.pieces_between_edges_arrive_whole.Goals as goal

pub returns : goal.returns
returns k = λ setting edge sent_as c is. pieces_between_edges setting edge sent_as c is
