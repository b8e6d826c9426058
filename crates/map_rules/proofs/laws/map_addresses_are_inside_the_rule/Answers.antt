use Rattle.map_rules.proofs.Rules.{address-inside}
use Rattle.map_rules.proofs.laws.map_addresses_are_inside_the_rule.Goals as goal

pub returns : goal.returns
returns c = address-inside
