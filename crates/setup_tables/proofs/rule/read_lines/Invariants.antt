use Rattle.std.proofs.Common.{map, take}
use Rattle.std.specs.List.{AllZip}
use Rattle.toml.specs.View.{view}
use Rattle.setup_tables.specs.Rule.{IsRule}
use Rattle.setup_tables.proofs.rule.read_lines.Given as goal

abbrev pub invariant-loop-i : goal.invariant-loop-i
invariant-loop-i l = AllZip IsRule (map view (take l.i l.values)) l.lines
