-- The hop of an edge: what it sends and drops, by the packet that it took and its machine's answer. A translated packet goes
-- to the access network or to the LAN, a turned one to the edge itself and then to the LAN. A packet that is dropped is
-- answered to where it came from; one that the edge turned isn't answered.
use Rattle.std.specs.Prelude.{◌≡◌, ℕ, ◌<◌, ◌≤◌, ◌⊎◌, false, List, []}
use Rattle.octets.specs.declared.cause.Cause.{Cause}
use Rattle.octets.specs.declared.cause.Cause.TheVariants.{TtlSpent}
use Rattle.octets.specs.declared.address.Addr4.{Addr4}
use Rattle.octets.specs.declared.address.Addr6.{Addr6}
use Rattle.octets.specs.Cause.{number_of}
use Rattle.ip4_packet.specs.declared.head.Head4.{Head4}
use Rattle.ip4_packet.specs.Grammar.{payload_of4, Is4}
use Rattle.ip6_packet.specs.declared.head.Head6.{Head6}
use Rattle.ip6_packet.specs.Grammar.{payload_of6, Is6}
use Rattle.nat_model.specs.declared.answer.Answer.{Answer}
use Rattle.nat_model.specs.declared.answer.Answer.TheVariants.{Out, Turn, In, Kept, Held, Refused}
use Rattle.nat_model.specs.Waiting.{freed_of}
use Rattle.hops.specs.declared.hop.Hop.{Hop}
use Rattle.packets.specs.declared.packet4.Packet4.{Packet4}
use Rattle.packets.specs.declared.packet6.Packet6.{Packet6}
use Rattle.packets.specs.Asked.{flow_of4, flow_of6, extent_of4, extent_of6}
use Rattle.packets.specs.Packet4.{IsPacket4}
use Rattle.packets.specs.Packet6.{IsPacket6}
use Rattle.hops.specs.declared.exit.Exit.TheVariants.{ToLan, ToAccess, ToItself}
use Rattle.transit.specs.declared.passage.Passage.{Passage}
use Rattle.transit.specs.Passage46.{IsPassage46}
use Rattle.transit.specs.Passage64.{IsPassage64}
use Rattle.hops.specs.declared.answering.Answering.{Answering}
use Rattle.hops.specs.Reply.{IsReply4, IsReply6}
use Rattle.hops.specs.Hop.{nothing, sends, lost, IsRefused, IsDroppedFor, IsCarried, IsLaterFragment, IsOne, AreFreed, AreBoth}
use Rattle.l4_headers.specs.declared.ends.Ends.{Ends}
use Rattle.turned_packets.specs.Turned.{turned_out, turned_in}
use Rattle.edge_node.specs.declared.way.Way.{Way}
use Rattle.edge_node.specs.declared.way.Way.TheVariants.{Lan, Access, Turned}
use Rattle.edge_node.specs.declared.way.Node.{Node}
use Rattle.edge_node.specs.Asked.{IsDroppedAt}
use Rattle.edge_node.specs.Ends.{ends_out, ends_in}

-- how it answers a packet from the LAN: from its own address there
abbrev pub lan_answering : Node → Answering Addr4
lan_answering node = record { mtus = node.params.mtus; src = node.params.lan; id = node.id; exit = ToLan }

-- and one from the access network: from the address that the packet was sent to
abbrev pub access_answering : Node → Head6 → Answering Addr6
access_answering node h = record { mtus = node.params.mtus; src = h.dst; id = node.id; exit = ToAccess }

-- a packet of this header is dropped for this cause, and answered
abbrev pub IsRefusedToLan : Node → List ℕ → Head4 → Cause → Hop → Type 0
IsRefusedToLan node octets h cause hop = IsRefused (IsReply4 (lan_answering node) h octets) ToLan cause hop

abbrev pub IsRefusedToAccess : Node → List ℕ → Head6 → Cause → Hop → Type 0
IsRefusedToAccess node octets h cause hop = IsRefused (IsReply6 (access_answering node h) h octets) ToAccess cause hop

-- the packet is dropped for this cause
abbrev pub Drops : Node → Way → List ℕ → Cause → Hop → Type 0
Drops node Lan octets cause hop = IsDroppedFor (λ h. Is4 h (payload_of4 h octets) octets) (IsRefusedToLan node octets) cause hop
Drops node Access octets cause hop = IsDroppedFor (λ h. Is6 h (payload_of6 h octets) octets) (IsRefusedToAccess node octets) cause hop
Drops node Turned octets cause hop = hop ≡ lost cause

-- it goes out, between these ends
abbrev pub GoesOut : Node → List ℕ → Ends Addr6 → Packet4 → Hop → Type 0
GoesOut node octets ends p hop =
    (passage : Passage)
    × IsPassage46 node.params.mtus p (payload_of4 p.head octets) ends passage
    × IsCarried (Drops node Lan octets) ToAccess passage hop

-- it is turned, and sent as this
abbrev pub Turns : Node → List ℕ → Packet4 → List ℕ → Hop → Type 0
Turns node octets p turned hop =
    ((p.head.ttl ≤ 1) × Drops node Lan octets TtlSpent hop) ⊎ ((1 < p.head.ttl) × (hop ≡ sends ToItself turned))

-- it comes in from the access network, between these ends
abbrev pub ComesIn : Node → List ℕ → Ends Addr4 → Packet6 → Hop → Type 0
ComesIn node octets ends p hop =
    (passage : Passage)
    × IsPassage64 (record { mtus = node.params.mtus; ends = ends; id = node.id }) p (payload_of6 p.head octets) passage
    × IsCarried (Drops node Access octets) ToLan passage hop

-- what becomes of a packet from the LAN, from the access network, and of one that the edge turned
abbrev pub FromLan : Node → Answer → List ℕ → Packet4 → Hop → Type 0
FromLan node (Out from port src6 dst6 freed) octets p hop = GoesOut node octets (ends_out (flow_of4 p.content) port src6 dst6) p hop
FromLan node (Turn from port freed) octets p hop = Turns node octets p (turned_out from port p octets) hop
FromLan node (In to port from peer freed) octets p hop = ⊥
FromLan node (Kept port until) octets p hop = ⊥
FromLan node Held octets p hop = hop ≡ nothing
FromLan node (Refused cause freed) octets p hop = Drops node Lan octets cause hop

abbrev pub FromAccess : Node → Answer → List ℕ → Packet6 → Hop → Type 0
FromAccess node (Out from port src6 dst6 freed) octets p hop = ⊥
FromAccess node (Turn from port freed) octets p hop = ⊥
FromAccess node (In to port from peer freed) octets p hop = ComesIn node octets (ends_in (flow_of6 p.content) to port from peer) p hop
FromAccess node (Kept port until) octets p hop = ⊥
FromAccess node Held octets p hop = hop ≡ nothing
FromAccess node (Refused cause freed) octets p hop = Drops node Access octets cause hop

abbrev pub FromItself : Answer → List ℕ → Packet4 → Hop → Type 0
FromItself (Out from port src6 dst6 freed) octets p hop = ⊥
FromItself (Turn from port freed) octets p hop = ⊥
FromItself (In to port from peer freed) octets p hop = hop ≡ sends ToLan (turned_in to port p octets)
FromItself (Kept port until) octets p hop = ⊥
FromItself Held octets p hop = hop ≡ nothing
FromItself (Refused cause freed) octets p hop = hop ≡ lost cause

-- what becomes of the octets that are taken on this way
abbrev pub Becomes : Node → Way → Answer → List ℕ → Hop → Type 0
Becomes node Lan answer octets hop = IsOne IsPacket4 (λ p octets hop. FromLan node answer octets p hop) octets hop
Becomes node Access answer octets hop = IsOne (IsPacket6 false) (λ p octets hop. FromAccess node answer octets p hop) octets hop
Becomes node Turned answer octets hop = IsOne IsPacket4 (λ p octets hop. FromItself answer octets p hop) octets hop

-- they are a later fragment
abbrev pub IsLaterAt : Way → List ℕ → Type 0
IsLaterAt Access octets = IsLaterFragment (IsPacket6 false) (λ p. extent_of6 p.head) octets
IsLaterAt Lan octets = IsLaterFragment IsPacket4 (λ p. extent_of4 p.head) octets
IsLaterAt Turned octets = IsLaterFragment IsPacket4 (λ p. extent_of4 p.head) octets

-- The packet's own part of the hop. One that is dropped before anything is asked counts as refused.
abbrev pub Own : Node → Way → Answer → List ℕ → Hop → Type 0
Own node way answer octets hop =
    Becomes node way answer octets hop
    ⊎ ((cause : Cause) × IsDroppedAt way cause octets × (answer ≡ Refused cause []) × Drops node way octets cause hop)

-- The hop: the packet's own part, and then what becomes of the fragments that the answer freed, each with the same answer.
abbrev pub IsEdgeHop : Node → Way → Answer → List ℕ → Hop → Type 0
IsEdgeHop node way answer octets hop =
    AreBoth (Own node way answer octets) (AreFreed (IsLaterAt way) (Becomes node way answer) (freed_of answer)) hop

-- A refusal by the machine has a cause from NoBasicRule to NoPort.
abbrev pub IsRefusal : Cause → Type 0
IsRefusal cause = (14 ≤ number_of cause) × (number_of cause ≤ 21)

-- the answers that a packet may have that is taken on this way
abbrev pub IsAnswerAt : Way → Answer → Type 0
IsAnswerAt Lan (Out from port src6 dst6 freed) = Unit {0}
IsAnswerAt Lan (Turn from port freed) = Unit {0}
IsAnswerAt Access (In to port from peer freed) = Unit {0}
IsAnswerAt Turned (In to port from peer freed) = Unit {0}
IsAnswerAt way Held = Unit {0}
IsAnswerAt way (Refused cause freed) = IsRefusal cause
IsAnswerAt way _ = ⊥

-- a packet that a node takes
abbrev pub IsTaken : Way → List ℕ → Type 0
IsTaken Access octets = (p : Packet6) × IsPacket6 false p octets
IsTaken Lan octets = (p : Packet4) × IsPacket4 p octets
IsTaken Turned octets = (p : Packet4) × IsPacket4 p octets

-- what may be emitted: a packet that is taken, by an answer of its way, or one that is dropped before anything is asked
abbrev pub IsEmittable : Way → Answer → List ℕ → Type 0
IsEmittable way answer octets =
    (IsTaken way octets × IsAnswerAt way answer) ⊎ ((cause : Cause) × IsDroppedAt way cause octets × (answer ≡ Refused cause []))
