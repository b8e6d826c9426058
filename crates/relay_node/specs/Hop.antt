-- A hop of the relay (RFC 7599, sections 8.3 and 8.4): what it sends, and what it drops.
use Rattle.std.specs.Prelude.{◌≡◌, ℕ, Bool, true, false, List, Option, Some, None}
use Rattle.octets.specs.declared.cause.Cause.TheVariants.{FragmentsFull}
use Rattle.octets.specs.declared.parcel.Parcel.{Parcel}
use Rattle.ip4_packet.specs.declared.head.Head4.{Head4}
use Rattle.ip6_packet.specs.declared.head.Head6.{Head6}
use Rattle.l4_headers.specs.declared.ports.Ports.{Ports}
use Rattle.frag_table.specs.declared.answer.FragAnswer.{FragAnswer}
use Rattle.frag_table.specs.declared.answer.FragAnswer.TheVariants.{Noted, Known, Held, Released, Full}
use Rattle.hops.specs.declared.hop.Hop.{Hop}
use Rattle.packets.specs.declared.packet4.Packet4.{Packet4}
use Rattle.packets.specs.declared.packet6.Packet6.{Packet6}
use Rattle.packets.specs.Asked.{flow_of4, flow_of6}
use Rattle.packets.specs.declared.found.Found.{Found}
use Rattle.packets.specs.Found.{IsFound4, IsFound6}
use Rattle.hops.specs.Hop.{nothing, lost, AreBoth, IsMade}
use Rattle.relay_node.specs.Relay.{Relay}
use Rattle.relay_node.specs.FromAccess.{IsRefused6, Becomes6, AreFreed6}
use Rattle.relay_node.specs.FromIpv4.{IsRefused4, Becomes4, AreFreed4}

-- What becomes of a packet by what the notes told of it, where the first says what becomes of it in a flow with these ports,
-- the second what becomes of the fragments that it frees, and the ports are its own.
abbrev pub IsAnswered : (Ports → Hop → Type 0) → (Ports → List Parcel → Hop → Type 0) → Ports → Option FragAnswer → Hop → Type 0
IsAnswered Becomes Frees ports None hop = Becomes ports hop
IsAnswered Becomes Frees ports (Some Noted) hop = Becomes ports hop
IsAnswered Becomes Frees ports (Some (Known first)) hop = Becomes first hop
IsAnswered Becomes Frees ports (Some Held) hop = hop ≡ nothing
IsAnswered Becomes Frees ports (Some (Released parcels)) hop = AreBoth (Becomes ports) (Frees ports parcels) hop
IsAnswered Becomes Frees ports (Some Full) hop = hop ≡ lost FragmentsFull

-- what a packet that is taken comes to, from the access network and from IPv4
abbrev pub IsTaken6 : Relay → List ℕ → Option FragAnswer → Packet6 → Hop → Type 0
IsTaken6 relay octets told p hop = IsAnswered (Becomes6 relay p octets) (AreFreed6 relay) (flow_of6 p.content).ports told hop

abbrev pub IsTaken4 : Relay → List ℕ → Option FragAnswer → Packet4 → Hop → Type 0
IsTaken4 relay octets told p hop = IsAnswered (Becomes4 relay p octets) (AreFreed4 relay) (flow_of4 p.content).ports told hop

-- from the access network: it is dropped before any rule is looked at, or it is a packet
abbrev pub IsHop6 : Relay → List ℕ → Option FragAnswer → Hop → Type 0
IsHop6 relay octets told hop =
    (found : Found Packet6 Head6) × IsFound6 true octets found
    × IsMade (IsTaken6 relay octets told) (IsRefused6 relay octets) found hop

-- from IPv4
abbrev pub IsHop4 : Relay → List ℕ → Option FragAnswer → Hop → Type 0
IsHop4 relay octets told hop =
    (found : Found Packet4 Head4) × IsFound4 octets found
    × IsMade (IsTaken4 relay octets told) (IsRefused4 relay octets) found hop

abbrev pub IsRelayHop : Relay → Bool → List ℕ → Option FragAnswer → Hop → Type 0
IsRelayHop relay true octets told hop = IsHop6 relay octets told hop
IsRelayHop relay false octets told hop = IsHop4 relay octets told hop
