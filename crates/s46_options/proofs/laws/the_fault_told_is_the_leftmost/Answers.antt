use Rattle.s46_options.proofs.Leftmost.{told_least}
use Rattle.s46_options.proofs.laws.the_fault_told_is_the_leftmost.Goals as goal

pub returns : goal.returns
returns c = told_least
