use Rattle.map_rules.proofs.Rules.{ce6-source}
use Rattle.map_rules.proofs.laws.a_source_has_its_address.Goals as goal

pub returns : goal.returns
returns c = ce6-source
