use Rattle.map_rules.proofs.Rules.{source-one}
use Rattle.map_rules.proofs.laws.a_map_address_has_one_source.Goals as goal

pub returns : goal.returns
returns c = source-one
