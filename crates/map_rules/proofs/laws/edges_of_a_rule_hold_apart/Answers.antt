use Rattle.map_rules.proofs.Rules.{edges-apart}
use Rattle.map_rules.proofs.laws.edges_of_a_rule_hold_apart.Goals as goal

pub returns : goal.returns
returns c = edges-apart
