use Rattle.packets.proofs.FoundOnce.{found4, found6}
use Rattle.packets.proofs.laws.one_thing_is_found_in_octets.Goals as goal

pub returns-clause-four : goal.returns-clause-four
returns-clause-four c = found4

pub returns-clause-six : goal.returns-clause-six
returns-clause-six c = found6
