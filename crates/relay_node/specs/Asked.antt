-- What the relay asks of its notes about a packet, and what it may be told.
use Rattle.std.specs.Prelude.{◌≡◌, ℕ, ◌%◌, Bool, true, false, List, Option, Some, None}
use Rattle.octets.specs.declared.cause.Cause.{Cause}
use Rattle.l4_headers.specs.declared.ports.Ports.{Ports}
use Rattle.frag_table.specs.declared.key.FragKey.{FragKey}
use Rattle.frag_table.specs.declared.ask.FragAsk.{FragAsk}
use Rattle.frag_table.specs.declared.ask.FragAsk.TheVariants.{First as AsFirst, Later as AsLater}
use Rattle.frag_table.specs.declared.answer.FragAnswer.{FragAnswer}
use Rattle.frag_table.specs.declared.answer.FragAnswer.TheVariants.{Noted, Known, Held, Released, Full}
use Rattle.packets.specs.declared.asked.Extent.{Extent}
use Rattle.packets.specs.declared.asked.Extent.TheVariants.{Whole, First, Later}
use Rattle.packets.specs.declared.packet4.Packet4.{Packet4}
use Rattle.packets.specs.declared.packet6.Packet6.{Packet6}
use Rattle.packets.specs.Asked.{flow_of4, flow_of6, extent_of4, extent_of6, key_of4, key_of6}
use Rattle.packets.specs.Behind4.{IsDropped4}
use Rattle.packets.specs.Behind6.{IsDropped6}
use Rattle.packets.specs.Packet4.{IsPacket4}
use Rattle.packets.specs.Packet6.{IsPacket6}

-- the sides from which fragments come to the relay: the access network, and IPv4, which is the core or the relay itself
abbrev pub from_access : ℕ
from_access = 3

abbrev pub from_ipv4 : ℕ
from_ipv4 = 4

-- a whole packet asks nothing, a first fragment brings the ports that stand in it, and a later one its octets as they came
abbrev pub asked : Extent → FragKey → Ports → List ℕ → Option FragAsk
asked Whole key ports octets = None
asked First key ports octets = Some (AsFirst key ports)
asked Later key ports octets = Some (AsLater key octets)

-- what these octets ask: they are a packet, and this is its ask
abbrev pub Asks6 : List ℕ → Option FragAsk → Type 0
Asks6 octets ask =
    (p : Packet6)
    × IsPacket6 true p octets
    × (ask ≡ asked (extent_of6 p.head) (key_of6 from_access p.head) (flow_of6 p.content).ports octets)

abbrev pub Asks4 : List ℕ → Option FragAsk → Type 0
Asks4 octets ask =
    (p : Packet4)
    × IsPacket4 p octets
    × (ask ≡ asked (extent_of4 p.head) (key_of4 from_ipv4 p.head) (flow_of4 p.content).ports octets)

-- from the access network, or from IPv4
abbrev pub AsksFrom : Bool → List ℕ → Option FragAsk → Type 0
AsksFrom true octets ask = Asks6 octets ask
AsksFrom false octets ask = Asks4 octets ask

-- they are dropped before anything is asked, for this cause
abbrev pub IsDroppedFrom : Bool → Cause → List ℕ → Type 0
IsDroppedFrom true cause octets = IsDropped6 true cause octets
IsDroppedFrom false cause octets = IsDropped4 cause octets

-- what an ask may be told
abbrev pub MayBeTold : Option FragAsk → Option FragAnswer → Type 0
MayBeTold None None = Unit {0}
MayBeTold (Some (AsFirst key ports)) (Some Noted) = Unit {0}
MayBeTold (Some (AsFirst key ports)) (Some (Released parcels)) = Unit {0}
MayBeTold (Some (AsFirst key ports)) (Some Full) = Unit {0}
MayBeTold (Some (AsLater key octets)) (Some (Known ports)) = Unit {0}
MayBeTold (Some (AsLater key octets)) (Some Held) = Unit {0}
MayBeTold (Some (AsLater key octets)) (Some Full) = Unit {0}
MayBeTold _ _ = ⊥

-- what is told of these octets: an answer of its kind where they ask, and none where they don't
pub record IsTold (six : Bool) (octets : List ℕ) (told : Option FragAnswer) : Type 0 where
  pub kind : (ask : Option FragAsk) → AsksFrom six octets ask → MayBeTold ask told
  pub unread : (cause : Cause) → IsDroppedFrom six cause octets → told ≡ None

-- the notes stand in 16 stripes
abbrev pub stripes : ℕ
stripes = 16

abbrev pub stripe : FragKey → ℕ
stripe key = key.id % stripes
