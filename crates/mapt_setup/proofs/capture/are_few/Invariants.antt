use Rattle.std.proofs.Common.{◌≡◌, ◌+◌, take}
use Rattle.mapt_setup.specs.Fit.{records_count, most_records}
use Rattle.mapt_setup.proofs.capture.are_few.Given as goal

-- what is left of the most
abbrev pub invariant-loop-capture : goal.invariant-loop-capture
invariant-loop-capture l = l.left + records_count (take l.capture-index l.captures) ≡ most_records
