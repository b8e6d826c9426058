use Rattle.map_rules.proofs.Embedded.{embedded-one}
use Rattle.map_rules.proofs.laws.embedding_is_one_to_one.Goals as goal

pub returns : goal.returns
returns c = embedded-one
