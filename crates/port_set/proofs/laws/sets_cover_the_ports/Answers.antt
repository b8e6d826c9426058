use Rattle.port_set.proofs.Places.{in-some-set}
use Rattle.port_set.proofs.laws.sets_cover_the_ports.Goals as goal

pub returns : goal.returns
returns c = in-some-set
