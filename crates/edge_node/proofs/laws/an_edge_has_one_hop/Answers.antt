use Rattle.edge_node.proofs.OneHop.{one_hop}
use Rattle.edge_node.proofs.laws.an_edge_has_one_hop.Goals as goal

pub returns : goal.returns
returns c = one_hop
