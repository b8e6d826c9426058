use Rattle.crossing.proofs.Together.{comes_together}
use Rattle.crossing.proofs.laws.pieces_come_back_as_the_whole_payload.Goals as goal

pub returns : goal.returns
returns k = λ t octets at_relay pieces backs taken small cut back. comes_together t octets at_relay pieces backs taken small cut back
