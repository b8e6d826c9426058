use Rattle.port_set.specs.PortSet.{in_set}
use Rattle.port_set.proofs.Runs.{runs-told}
use Rattle.port_set.proofs.laws.runs_are_told_by_number.Goals as goal

pub returns : goal.returns
returns c a k v = runs-told (in_set a k v)
