use Rattle.std.proofs.Common.{◌≡◌, drop}
use Rattle.setup_tables.specs.Lines.{dmr_in}
use Rattle.setup_tables.proofs.origin.dmr_of.Given as goal

-- those so far are no default mapping rule
abbrev pub invariant-loop-item : goal.invariant-loop-item
invariant-loop-item l = dmr_in l.items ≡ dmr_in (drop l.item-index l.items)
