use Rattle.std.proofs.Common.{map, take}
use Rattle.std.specs.List.{AllZip}
use Rattle.toml.specs.View.{view}
use Rattle.setup_tables.specs.Forward.{IsForward}
use Rattle.setup_tables.proofs.forward.read_forwards.Given as goal

abbrev pub invariant-loop-i : goal.invariant-loop-i
invariant-loop-i l = AllZip IsForward (map view (take l.i l.values)) l.texts
