use Rattle.std.proofs.Common.{◌≡◌, take}
use Rattle.setup_tables.specs.Lines.{lines_in}
use Rattle.setup_tables.proofs.origin.lines_of.Given as goal

-- the lines so far
abbrev pub invariant-loop-item : goal.invariant-loop-item
invariant-loop-item l = l.lines ≡ lines_in (take l.item-index l.items)
