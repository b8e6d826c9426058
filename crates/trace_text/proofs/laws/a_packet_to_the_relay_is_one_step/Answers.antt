use Rattle.trace_text.proofs.Directions.{to_relay}
use Rattle.trace_text.proofs.laws.a_packet_to_the_relay_is_one_step.Goals as goal

pub returns : goal.returns
returns k = λ setting step answer relay c is. to_relay setting step answer relay c is
