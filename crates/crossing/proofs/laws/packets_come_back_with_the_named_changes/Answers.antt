use Rattle.crossing.proofs.Over.{over_crosses}
use Rattle.crossing.proofs.laws.packets_come_back_with_the_named_changes.Goals as goal

pub returns : goal.returns
returns k = λ t octets six four portion at_relay q taken there back. over_crosses t octets six four portion at_relay q taken there back
