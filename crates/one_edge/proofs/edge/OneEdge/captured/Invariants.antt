use Rattle.std.proofs.Common.{◌≡◌, List, take}
use Rattle.pcap_files.specs.declared.records.Record.{Record}
use Rattle.pcap_files.specs.Written.{written}
use Rattle.one_edge.specs.Edge.{edge_in}
use Rattle.one_edge.specs.Crossed.{AreCrossed}
use Rattle.one_edge.proofs.edge.OneEdge.captured.Given as goal

abbrev pub invariant-loop-i : goal.invariant-loop-i
invariant-loop-i l =
    (accesses : List Record) × (cores : List Record) × AreCrossed (edge_in l.self) 0 (take l.i l.records) accesses cores
    × (l.access ≡ written accesses) × (l.core ≡ written cores)
