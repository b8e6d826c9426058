use Rattle.icmp_xlat.proofs.RightSums.{right46, right64, zero64, missing46, missing64}
use Rattle.icmp_xlat.proofs.laws.a_right_embedded_sum_stays_right_when_translated.Goals as goal

pub returns-clause-to_ipv6 : goal.returns-clause-to_ipv6
returns-clause-to_ipv6 c = right46

pub returns-clause-to_ipv4 : goal.returns-clause-to_ipv4
returns-clause-to_ipv4 c = right64

pub returns-clause-zero_echo : goal.returns-clause-zero_echo
returns-clause-zero_echo c = zero64

pub returns-clause-missing_to_ipv6 : goal.returns-clause-missing_to_ipv6
returns-clause-missing_to_ipv6 c = missing46

pub returns-clause-missing_to_ipv4 : goal.returns-clause-missing_to_ipv4
returns-clause-missing_to_ipv4 c = missing64
