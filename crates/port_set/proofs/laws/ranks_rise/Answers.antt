use Rattle.port_set.proofs.Ranks.{ranks-rise}
use Rattle.port_set.proofs.laws.ranks_rise.Goals as goal

pub returns : goal.returns
returns c = ranks-rise
