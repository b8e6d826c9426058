use Rattle.port_set.proofs.Ranks.{rank-below}
use Rattle.port_set.proofs.laws.ranks_are_below_the_count.Goals as goal

pub returns : goal.returns
returns c = rank-below
