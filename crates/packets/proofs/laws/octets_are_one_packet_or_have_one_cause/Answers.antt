use Rattle.packets.proofs.TakenOnce.{taken4, taken6}
use Rattle.packets.proofs.laws.octets_are_one_packet_or_have_one_cause.Goals as goal

pub returns-clause-four : goal.returns-clause-four
returns-clause-four c = taken4

pub returns-clause-six : goal.returns-clause-six
returns-clause-six c = taken6
