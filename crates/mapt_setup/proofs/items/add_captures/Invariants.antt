use Rattle.std.proofs.Common.{◌≡◌, ◌++◌, drop}
use Rattle.mapt_setup.specs.Script.{capture_items}
use Rattle.mapt_setup.proofs.items.add_captures.Given as goal

abbrev pub invariant-loop-capture : goal.invariant-loop-capture
invariant-loop-capture l = l.items.items ++ capture_items (drop l.capture-index l.captures) ≡ l.fn.items.items ++ capture_items l.captures
