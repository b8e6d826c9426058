use Rattle.octets.proofs.Same.{prefix4_told, prefix6_told, mtus_told}
use Rattle.octets.proofs.equal.equal_values_are_the_same.Goals as goal

pub returns-clause-prefix4 : goal.returns-clause-prefix4
returns-clause-prefix4 c = prefix4_told

pub returns-clause-prefix6 : goal.returns-clause-prefix6
returns-clause-prefix6 c = prefix6_told

pub returns-clause-mtus : goal.returns-clause-mtus
returns-clause-mtus c = mtus_told
