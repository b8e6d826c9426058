use Rattle.port_set.proofs.Same.{set_told}
use Rattle.port_set.proofs.equal.equal_values_are_the_same.Goals as goal

pub returns-clause-port_set : goal.returns-clause-port_set
returns-clause-port_set c = set_told
