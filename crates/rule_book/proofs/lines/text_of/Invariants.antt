use Rattle.std.proofs.Common.{◌≡◌, ◌++◌, take}
use Rattle.std.specs.List.{flat_map}
use Rattle.rule_book.specs.Text.{dmr_line, rule_line}
use Rattle.rule_book.proofs.lines.text_of.Given as goal

-- the lines so far
abbrev pub invariant-loop-rule : goal.invariant-loop-rule
invariant-loop-rule l = l.text ≡ dmr_line l.dmr ++ flat_map rule_line (take l.rule-index l.rules)
