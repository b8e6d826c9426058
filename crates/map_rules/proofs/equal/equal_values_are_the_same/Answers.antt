use Rattle.map_rules.proofs.Same.{rule_told, dmr_told, edge_told}
use Rattle.map_rules.proofs.equal.equal_values_are_the_same.Goals as goal

pub returns-clause-rule : goal.returns-clause-rule
returns-clause-rule c = rule_told

pub returns-clause-dmr : goal.returns-clause-dmr
returns-clause-dmr c = dmr_told

pub returns-clause-edge : goal.returns-clause-edge
returns-clause-edge c = edge_told
