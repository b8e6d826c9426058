use Rattle.trace_text.proofs.Directions.{from_relay}
use Rattle.trace_text.proofs.laws.a_packet_from_the_relay_is_one_step.Goals as goal

pub returns : goal.returns
returns k = λ setting relay step answer c is. from_relay setting relay step answer c is
