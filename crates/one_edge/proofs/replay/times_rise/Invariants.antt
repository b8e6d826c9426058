use Rattle.std.proofs.Common.{◌≡◌, drop}
use Rattle.one_edge.specs.Served.{times_rise}
use Rattle.one_edge.proofs.replay.times_rise.Given as goal

abbrev pub invariant-loop-record : goal.invariant-loop-record
invariant-loop-record l = times_rise l.last (drop l.record-index l.records) ≡ times_rise 0 l.records
