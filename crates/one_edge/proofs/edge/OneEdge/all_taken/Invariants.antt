use Rattle.std.proofs.Common.{take}
use Rattle.one_edge.specs.Edge.{edge_in}
use Rattle.one_edge.specs.Served.{AreServed}
use Rattle.one_edge.proofs.edge.OneEdge.all_taken.Given as goal

abbrev pub invariant-loop-record : goal.invariant-loop-record
invariant-loop-record l = AreServed (edge_in l.self) (take l.record-index l.records) l.packets.items
