use Rattle.std.proofs.Common.{map, take}
use Rattle.std.specs.List.{AllZip}
use Rattle.setup_tables.specs.declared.rule.RuleLine.{RuleLine}
use Rattle.mapt_setup.specs.Shapes.{HasParts}
use Rattle.mapt_setup.proofs.shapes.shaped.Given as goal

abbrev pub invariant-loop-i : goal.invariant-loop-i
invariant-loop-i l = AllZip HasParts (map (λ (line : RuleLine). line) (take l.i l.lines)) l.rules.items
