use Rattle.trace_text.proofs.Whole.{pieces_from_relay}
use Rattle.trace_text.proofs.laws.pieces_from_the_relay_arrive_whole.Goals as goal

pub returns : goal.returns
returns k = λ setting relay c is. pieces_from_relay setting relay c is
