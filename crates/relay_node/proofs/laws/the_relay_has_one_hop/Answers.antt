use Rattle.relay_node.proofs.OneHop.{one_hop}
use Rattle.relay_node.proofs.laws.the_relay_has_one_hop.Goals as goal

pub returns : goal.returns
returns c = one_hop
