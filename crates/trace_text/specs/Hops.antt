-- What each of two nodes does with a packet that crosses: the first takes it over IPv4, from its LAN or from the core, and sends it
-- over the access network; the second takes it there and sends it on over IPv4.
use Rattle.std.specs.Prelude.{◌≡◌, ℕ, ◌*◌, ◌<◌, List, slice_get, Some}
use Rattle.octets.specs.Field.{octet}
use Rattle.octets.specs.declared.address.Addr4.{Addr4}
use Rattle.octets.specs.declared.address.Addr6.{Addr6}
use Rattle.octets.specs.declared.mtus.Mtus.{Mtus}
use Rattle.octets.specs.declared.parcel.Parcel.{Parcel}
use Rattle.octets.specs.declared.proto.Proto.{Proto}
use Rattle.ip4_packet.specs.Grammar.{payload_of4}
use Rattle.ip6_packet.specs.Grammar.{payload_of6}
use Rattle.l4_headers.specs.declared.ports.Ports.{Ports}
use Rattle.nat_model.specs.declared.answer.Answer.{Answer}
use Rattle.nat_model.specs.declared.answer.Answer.TheVariants.{Out, In}
use Rattle.packet_faults.specs.Cut.{step_of}
use Rattle.packets.specs.declared.packet4.Content4.{Content4}
use Rattle.packets.specs.declared.packet4.Content4.TheVariants.{Later as Later4}
use Rattle.packets.specs.declared.packet4.Packet4.{Packet4}
use Rattle.packets.specs.declared.packet6.Content6.{Content6}
use Rattle.packets.specs.declared.packet6.Content6.TheVariants.{Later as Later6}
use Rattle.packets.specs.declared.packet6.Packet6.{Packet6}
use Rattle.packets.specs.Asked.{flow_of4, flow_of6}
use Rattle.packets.specs.Packet4.{IsPacket4}
use Rattle.transit.specs.declared.passage.Passage.{Passage}
use Rattle.transit.specs.declared.passage.Passage.TheVariants.{Sent, Cut}
use Rattle.transit.specs.Passage46.{IsPassage46}
use Rattle.transit.specs.Passage64.{IsPassage64}
use Rattle.edge_node.specs.Ends.{ends_out, ends_in}
use Rattle.relay_node.specs.Relay.{Relay, source_port, destination_port, source_addr, own_of, extracted}
use Rattle.relay_node.specs.FromAccess.{ends64}
use Rattle.relay_node.specs.FromIpv4.{ends46}
use Rattle.crossing.specs.Named.{Portion, uncut, piece_at}

-- octets of a packet
abbrev pub AreOctets : List ℕ → Type 0
AreOctets octets = (k : ℕ) → octet octets k < 256

-- the packet as a node takes it over IPv4
pub record IsTaken4 (p : Packet4) (octets : List ℕ) : Type 0 where
  pub is : IsPacket4 p octets
  pub are : AreOctets octets

-- The ports of the flow that a packet belongs to: its own, and those of the first fragment where it is a later one.
abbrev pub ArePortsOf4 : Content4 → Ports → Type 0
ArePortsOf4 content ports = ((proto : Proto) → content ≡ Later4 proto → ⊥) → ports ≡ (flow_of4 content).ports

abbrev pub ArePortsOf6 : Content6 → Ports → Type 0
ArePortsOf6 content ports = ((proto : Proto) → content ≡ Later6 proto → ⊥) → ports ≡ (flow_of6 content).ports

-- by the answer of its machine an edge sends the packet out, or takes one in
abbrev pub EdgeSends : Mtus → Answer → Packet4 → List ℕ → Passage → Type 0
EdgeSends mtus (Out from port src6 dst6 freed) p octets passage =
    IsPassage46 mtus p (payload_of4 p.head octets) (ends_out (flow_of4 p.content) port src6 dst6) passage
EdgeSends mtus _ p octets passage = ⊥

-- an edge, which gives packets that have none this identification
pub record Station : Type 0 where
  pub mtus : Mtus
  pub id : ℕ

abbrev pub EdgeReceives : Station → Answer → Packet6 → List ℕ → Passage → Type 0
EdgeReceives at (In to port from peer freed) q six passage =
    IsPassage64 (record { mtus = at.mtus; ends = ends_in (flow_of6 q.content) to port from peer; id = at.id }) q
    (payload_of6 q.head six) passage
EdgeReceives at _ q six passage = ⊥

-- What goes over the access network: the translation, or one of the pieces into which it is cut, which begins so many octets
-- behind the start of the payload.
abbrev pub IsEmitted : Mtus → Passage → Portion → List ℕ → Type 0
IsEmitted mtus (Sent octets) uncut six = octets ≡ six
IsEmitted mtus (Cut pieces) (piece_at at) six =
    (k : ℕ) × (piece : Parcel) × (slice_get pieces k ≡ Some piece) × (piece.bytes ≡ six) × (at ≡ k * step_of mtus.mtu6)
IsEmitted mtus _ _ six = ⊥

-- By the addresses of its rules the relay sends a packet of the core to an edge, and one of an edge to the core.
pub record RelaySends (relay : Relay) (p : Packet4) (octets : List ℕ) (passage : Passage) : Type 0 where
  pub ports : Ports
  pub flow : ArePortsOf4 p.content ports
  pub own : Addr6
  pub owned : own_of relay p.head.dst (destination_port (flow_of4 p.content).fault ports) ≡ Some own.0
  pub is : IsPassage46 relay.params.mtus p (payload_of4 p.head octets) (ends46 relay p own ports) passage

pub record RelayReceives (relay : Relay) (q : Packet6) (six : List ℕ) (passage : Passage) : Type 0 where
  pub ports : Ports
  pub flow : ArePortsOf6 q.content ports
  pub src : Addr4
  pub dst : Addr4
  pub source : source_addr relay q.head.src (source_port (flow_of6 q.content).fault ports) ≡ Some src
  pub destination : extracted relay.dmr q.head.dst ≡ Some dst.0
  pub is : IsPassage64 (record { mtus = relay.params.mtus; ends = ends64 src dst ports; id = relay.id }) q (payload_of6 q.head six) passage
