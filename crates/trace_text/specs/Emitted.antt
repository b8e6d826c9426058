-- What becomes of a packet at an edge, by its machine's answer: it is sent or received as the crossings say, and leaves or is dropped
-- with an answer.
use Rattle.std.specs.Prelude.{ℕ, List}
use Rattle.nat_model.specs.declared.answer.Answer.{Answer}
use Rattle.hops.specs.declared.hop.Hop.{Hop}
use Rattle.packets.specs.declared.packet4.Packet4.{Packet4}
use Rattle.packets.specs.declared.packet6.Packet6.{Packet6}
use Rattle.hops.specs.declared.exit.Exit.TheVariants.{ToAccess, ToLan}
use Rattle.transit.specs.declared.passage.Passage.{Passage}
use Rattle.hops.specs.Hop.{IsCarried}
use Rattle.edge_node.specs.declared.way.Node.{Node}
use Rattle.edge_node.specs.declared.way.Way.TheVariants.{Lan, Access}
use Rattle.edge_node.specs.Hop.{Drops}
use Rattle.trace_text.specs.Hops.{EdgeSends, EdgeReceives}

-- from the LAN
abbrev pub IsSentOut : Node → Answer → Packet4 → List ℕ → Hop → Type 0
IsSentOut node answer p octets hop =
    (passage : Passage)
    × EdgeSends node.params.mtus answer p octets passage
    × IsCarried (Drops node Lan octets) ToAccess passage hop

-- from the access network
abbrev pub IsTakenIn : Node → Answer → Packet6 → List ℕ → Hop → Type 0
IsTakenIn node answer q six hop =
    (passage : Passage)
    × EdgeReceives (record { mtus = node.params.mtus; id = node.id }) answer q six passage
    × IsCarried (Drops node Access six) ToLan passage hop
