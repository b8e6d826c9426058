use Rattle.hops.proofs.OneWay.{one_answer4, one_answer6}
use Rattle.hops.proofs.laws.a_dropped_packet_has_one_answer.Goals as goal

pub returns-clause-four : goal.returns-clause-four
returns-clause-four c = one_answer4

pub returns-clause-six : goal.returns-clause-six
returns-clause-six c = one_answer6
