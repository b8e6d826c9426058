use Rattle.map_rules.proofs.Embedded.{embedded-inside}
use Rattle.map_rules.proofs.laws.embedded_addresses_are_inside_the_prefix.Goals as goal

pub returns : goal.returns
returns c = embedded-inside
