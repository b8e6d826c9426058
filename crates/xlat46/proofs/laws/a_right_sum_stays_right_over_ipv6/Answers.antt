use Rattle.xlat46.proofs.RightSums.{changed, computed}
use Rattle.xlat46.proofs.laws.a_right_sum_stays_right_over_ipv6.Goals as goal

pub returns-clause-changed : goal.returns-clause-changed
returns-clause-changed c = changed

pub returns-clause-computed : goal.returns-clause-computed
returns-clause-computed c = computed
