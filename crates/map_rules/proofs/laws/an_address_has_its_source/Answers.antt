use Rattle.map_rules.proofs.Rules.{source-ce6}
use Rattle.map_rules.proofs.laws.an_address_has_its_source.Goals as goal

pub returns : goal.returns
returns c = source-ce6
