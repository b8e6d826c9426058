use Rattle.std.proofs.Common.{◌≡◌, Some, drop}
use Rattle.one_edge.specs.Served.{follow}
use Rattle.one_edge.proofs.replay.all_follow.Given as goal

abbrev pub invariant-loop-packet : goal.invariant-loop-packet
invariant-loop-packet l = follow l.proto (Some l.first) (drop l.packet-index l.packets) ≡ follow l.proto (Some l.first) l.packets
