use Rattle.port_set.specs.PortSet.{in_set}
use Rattle.port_set.proofs.Runs.{runs-cover}
use Rattle.port_set.proofs.laws.runs_cover_the_set.Goals as goal

pub returns : goal.returns
returns c a k v = runs-cover (in_set a k v)
