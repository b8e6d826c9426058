-- What the hops of both nodes send on: each packet that leaves by the exit of packets that cross is that of one packet of the hop,
-- translated as the crossings say. An answer to a packet that is dropped leaves by the other exit.
use Rattle.std.specs.Prelude.{◌≡◌, ◌⊎◌, ℕ, false, true, List, [], slice_get, Option, Some, None}
use Rattle.octets.specs.declared.mtus.Mtus.{Mtus}
use Rattle.octets.specs.declared.parcel.Parcel.{Parcel}
use Rattle.frag_table.specs.declared.answer.FragAnswer.{FragAnswer}
use Rattle.frag_table.specs.Frag.{freed_by}
use Rattle.nat_model.specs.declared.answer.Answer.{Answer}
use Rattle.hops.specs.declared.hop.Out.{Out}
use Rattle.hops.specs.declared.hop.Out.TheVariants.{Core, Turn}
use Rattle.packets.specs.declared.packet4.Packet4.{Packet4}
use Rattle.packets.specs.declared.packet6.Packet6.{Packet6}
use Rattle.packets.specs.Packet4.{IsPacket4}
use Rattle.packets.specs.Packet6.{IsPacket6}
use Rattle.transit.specs.declared.passage.Passage.{Passage}
use Rattle.transit.specs.declared.passage.Passage.TheVariants.{Sent}
use Rattle.relay_node.specs.Relay.{Relay}
use Rattle.crossing.specs.Named.{Portion}
use Rattle.trace_text.specs.Hops.{EdgeSends, EdgeReceives, IsEmitted, RelaySends, RelayReceives, Station}

-- these octets leave over IPv4: out into the core, or once more to the relay
abbrev pub IsOnIpv4 : List ℕ → Out → Type 0
IsOnIpv4 octets out = (out ≡ Core octets) ⊎ (out ≡ Turn octets)

-- the parcels that the notes free with a packet at the relay
abbrev pub freed_with : Option FragAnswer → List Parcel
freed_with None = []
freed_with (Some answer) = freed_by answer

-- a packet of a hop: the one that the node took, or a later fragment among those that were freed with it
abbrev pub IsOfHop : (List ℕ → Type 0) → List ℕ → List Parcel → List ℕ → Type 0
IsOfHop IsLater own freed octets =
    (octets ≡ own)
    ⊎ (IsLater octets × ((k : ℕ) × (parcel : Parcel) × (slice_get freed k ≡ Some parcel) × (parcel.bytes ≡ octets)))

-- by this answer an edge sends so of a packet of its LAN over the access network
pub record EdgeEmits (mtus : Mtus) (answer : Answer) (octets six : List ℕ) : Type 0 where
  pub taken : Packet4
  pub is : IsPacket4 taken octets
  pub passage : Passage
  pub sent : EdgeSends mtus answer taken octets passage
  pub portion : Portion
  pub emitted : IsEmitted mtus passage portion six

-- the relay sends so of a packet of the core, or of one that it turned
pub record RelayEmits (relay : Relay) (octets six : List ℕ) : Type 0 where
  pub taken : Packet4
  pub is : IsPacket4 taken octets
  pub passage : Passage
  pub sent : RelaySends relay taken octets passage
  pub portion : Portion
  pub emitted : IsEmitted relay.params.mtus passage portion six

-- by this answer an edge sends so to its LAN of a packet from the access network
pub record EdgeDelivers (station : Station) (answer : Answer) (six four : List ℕ) : Type 0 where
  pub read : Packet6
  pub arrives : IsPacket6 false read six
  pub received : EdgeReceives station answer read six (Sent four)

-- the relay sends so to the core, or to itself
pub record RelayDelivers (relay : Relay) (six four : List ℕ) : Type 0 where
  pub read : Packet6
  pub arrives : IsPacket6 true read six
  pub received : RelayReceives relay read six (Sent four)
