use Rattle.std.proofs.Common.{map, take}
use Rattle.std.specs.List.{AllZip}
use Rattle.toml.specs.View.{view}
use Rattle.setup_tables.specs.Change.{IsChange}
use Rattle.setup_tables.proofs.change.read_changes.Given as goal

abbrev pub invariant-loop-i : goal.invariant-loop-i
invariant-loop-i l = AllZip IsChange (map view (take l.i l.values)) l.texts
