use Rattle.std.proofs.Common.{◌≡◌, drop}
use Rattle.one_edge.specs.Served.{first_of}
use Rattle.one_edge.proofs.replay.first_of.Given as goal

abbrev pub invariant-loop-packet : goal.invariant-loop-packet
invariant-loop-packet l = first_of l.proto (drop l.packet-index l.packets) ≡ first_of l.proto l.packets
