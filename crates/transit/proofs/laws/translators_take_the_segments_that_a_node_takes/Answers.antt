use Rattle.transit.proofs.Accepted4.{segments4}
use Rattle.transit.proofs.Accepted6.{segments6}
use Rattle.transit.proofs.laws.translators_take_the_segments_that_a_node_takes.Goals as goal

pub returns-clause-four : goal.returns-clause-four
returns-clause-four c = segments4

pub returns-clause-six : goal.returns-clause-six
returns-clause-six c = segments6
