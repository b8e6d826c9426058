use Rattle.edge_node.proofs.OneHop.{one_ask}
use Rattle.edge_node.proofs.laws.each_packet_asks_the_edge_or_is_dropped.Goals as goal

pub returns : goal.returns
returns c = one_ask
