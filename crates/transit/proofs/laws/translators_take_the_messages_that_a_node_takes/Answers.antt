use Rattle.transit.proofs.Accepted4.{messages4, found4}
use Rattle.transit.proofs.Accepted6.{messages6, found6}
use Rattle.transit.proofs.laws.translators_take_the_messages_that_a_node_takes.Goals as goal

pub returns-clause-taken4 : goal.returns-clause-taken4
returns-clause-taken4 c = messages4

pub returns-clause-found4 : goal.returns-clause-found4
returns-clause-found4 c = found4

pub returns-clause-taken6 : goal.returns-clause-taken6
returns-clause-taken6 c = messages6

pub returns-clause-found6 : goal.returns-clause-found6
returns-clause-found6 c = found6
