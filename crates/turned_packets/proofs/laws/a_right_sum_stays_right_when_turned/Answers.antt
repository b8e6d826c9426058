use Rattle.turned_packets.proofs.RightSums.{segment_right}
use Rattle.turned_packets.proofs.laws.a_right_sum_stays_right_when_turned.Goals as goal

pub returns : goal.returns
returns c = segment_right
