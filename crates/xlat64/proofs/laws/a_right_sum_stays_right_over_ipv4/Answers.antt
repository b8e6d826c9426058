use Rattle.xlat64.proofs.RightSums.{changed}
use Rattle.xlat64.proofs.laws.a_right_sum_stays_right_over_ipv4.Goals as goal

pub returns : goal.returns
returns c = changed
