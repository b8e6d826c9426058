use Rattle.std.proofs.Common.{◌≡◌, ◌++◌, take}
use Rattle.std.specs.List.{flat_map}
use Rattle.s46_options.specs.Text.{dmr_lines, rule_lines}
use Rattle.s46_options.proofs.text.options_text.Given as goal

-- the lines so far
abbrev pub invariant-loop-item : goal.invariant-loop-item
invariant-loop-item l = l.text ≡ flat_map dmr_lines (take l.item-index l.items)

abbrev pub invariant-loop-item-2 : goal.invariant-loop-item-2
invariant-loop-item-2 l = l.text ≡ flat_map dmr_lines l.items ++ flat_map rule_lines (take l.item-index l.items)
