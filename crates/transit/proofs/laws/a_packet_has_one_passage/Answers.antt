use Rattle.transit.proofs.OneWay.{one_passage46, one_passage64}
use Rattle.transit.proofs.laws.a_packet_has_one_passage.Goals as goal

pub returns-clause-four : goal.returns-clause-four
returns-clause-four c = one_passage46

pub returns-clause-six : goal.returns-clause-six
returns-clause-six c = one_passage64
