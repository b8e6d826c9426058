use Rattle.std.proofs.Common.{◌≡◌, ◌++◌, drop}
use Rattle.mapt_setup.specs.Script.{record_items}
use Rattle.mapt_setup.proofs.items.add_records.Given as goal

abbrev pub invariant-loop-record : goal.invariant-loop-record
invariant-loop-record l = l.items.items ++ record_items l.side (drop l.record-index l.records) ≡ l.fn.items.items ++ record_items l.side l.records
