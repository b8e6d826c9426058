use Rattle.turned_packets.proofs.EmbeddedSums.{right_embedded, zero_embedded, missing_embedded}
use Rattle.turned_packets.proofs.laws.a_right_embedded_sum_stays_right_when_turned.Goals as goal

pub returns-clause-right : goal.returns-clause-right
returns-clause-right c = right_embedded

pub returns-clause-zero_echo : goal.returns-clause-zero_echo
returns-clause-zero_echo c = zero_embedded

pub returns-clause-missing : goal.returns-clause-missing
returns-clause-missing c = missing_embedded
