use Rattle.relay_node.proofs.OneHop.{one_ask}
use Rattle.relay_node.proofs.laws.each_packet_asks_the_relay_or_is_dropped.Goals as goal

pub returns : goal.returns
returns c = one_ask
