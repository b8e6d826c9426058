use Rattle.trace_text.proofs.Whole.{pieces_to_relay}
use Rattle.trace_text.proofs.laws.pieces_to_the_relay_arrive_whole.Goals as goal

pub returns : goal.returns
returns k = λ setting edge sent_as c is. pieces_to_relay setting edge sent_as c is
