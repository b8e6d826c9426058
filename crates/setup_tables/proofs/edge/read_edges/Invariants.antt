use Rattle.std.proofs.Common.{map, take}
use Rattle.std.specs.List.{AllZip}
use Rattle.toml.specs.View.{view}
use Rattle.setup_tables.specs.Edge.{IsEdge}
use Rattle.setup_tables.proofs.edge.read_edges.Given as goal

abbrev pub invariant-loop-i : goal.invariant-loop-i
invariant-loop-i l = AllZip IsEdge (map view (take l.i l.values)) l.edges
