-- Fragments at the relay: what their asks say of them, and what a hop that frees some is made of.
use Rattle.std.proofs.Common.{◌≡◌, refl, sym, ap, ◌∙◌, ℕ, Bool, true, false, List, Some, subst, arith}
use Rattle.octets.specs.declared.parcel.Parcel.{Parcel}
use Rattle.l4_headers.specs.declared.ports.Ports.{Ports}
use Rattle.frag_table.specs.declared.key.FragKey.{FragKey}
use Rattle.frag_table.specs.declared.ask.FragAsk.{FragAsk}
use Rattle.frag_table.specs.declared.ask.FragAsk.TheVariants.{First as AsFirst, Later as AsLater}
use Rattle.frag_table.specs.declared.answer.FragAnswer.{FragAnswer}
use Rattle.frag_table.specs.declared.answer.FragAnswer.TheVariants.{Noted, Known, Held, Released, Full}
use Rattle.ip4_packet.specs.declared.head.Head4.{Head4}
use Rattle.ip6_packet.specs.declared.head.Head6.{Head6}
use Rattle.nat_model.specs.declared.ask.Part.TheVariants.{First as FirstPart, Later as LaterPart}
use Rattle.nat_model.specs.Parcels.{part_in}
use Rattle.packets.specs.declared.asked.Extent.{Extent}
use Rattle.packets.specs.declared.asked.Extent.TheVariants.{Whole, First, Later}
use Rattle.packets.specs.declared.found.Found.{Found}
use Rattle.packets.specs.declared.found.Found.TheVariants.{Taken}
use Rattle.packets.specs.declared.packet4.Packet4.{Packet4}
use Rattle.packets.specs.declared.packet6.Packet6.{Packet6}
use Rattle.packets.specs.Asked.{flow_of4, flow_of6, extent_of4, extent_of6, key_of4, key_of6}
use Rattle.packets.proofs.FoundOnce.{found4, found6}
use Rattle.hops.specs.declared.hop.Hop.{Hop}
use Rattle.hops.specs.Hop.{then, AreFreed, IsMade}
use Rattle.relay_node.specs.Relay.{Relay}
use Rattle.relay_node.specs.Asked.{from_access, from_ipv4, asked, AsksFrom, MayBeTold}
use Rattle.relay_node.specs.FromAccess.{IsRefused6, IsLaterFragment6, IsOne6}
use Rattle.relay_node.specs.FromIpv4.{IsRefused4, IsLaterFragment4, IsOne4}
use Rattle.relay_node.specs.Hop.{IsTaken6, IsTaken4, IsRelayHop}
use Rattle.journeys.specs.Derived.{HasPorts, FreesFrom}
use Rattle.journeys.specs.OneThread.{told_alone}

-- ---- an answer without the octets of its parcels

pub kind_alone : (ask : FragAsk) (answer : FragAnswer) → MayBeTold (Some ask) (Some answer) → MayBeTold (Some ask) (Some (told_alone answer))
kind_alone (AsFirst key ports) Noted kind = kind
kind_alone (AsFirst key ports) (Known told) kind = kind
kind_alone (AsFirst key ports) Held kind = kind
kind_alone (AsFirst key ports) (Released parcels) kind = kind
kind_alone (AsFirst key ports) Full kind = kind
kind_alone (AsLater key octets) Noted kind = kind
kind_alone (AsLater key octets) (Known told) kind = kind
kind_alone (AsLater key octets) Held kind = kind
kind_alone (AsLater key octets) (Released parcels) kind = kind
kind_alone (AsLater key octets) Full kind = kind

-- ---- the version of a fragment, by the side in its key

abbrev pub side_of : Bool → ℕ
side_of true = from_access
side_of false = from_ipv4

pub same_side : (six other : Bool) → side_of six ≡ side_of other → six ≡ other
same_side true true same = refl
same_side true false same = absurd (omega arith)
same_side false true same = absurd (omega arith)
same_side false false same = refl

some_ask : (x y : FragAsk) → Some x ≡ Some y → x ≡ y
some_ask x y equal = cc

asked_first : (extent : Extent) (own key : FragKey) (ports : Ports) (octets : List ℕ) (ask : FragAsk) → Some ask ≡ asked extent own ports octets
    → part_in ask ≡ FirstPart key → own ≡ key
asked_first Whole own key ports octets ask is first = absurd (cc)
asked_first First own key ports octets ask is first = let same = sym (ap part_in (some_ask ask (AsFirst own ports) is)) ∙ first in cc
asked_first Later own key ports octets ask is first = let same = sym (ap part_in (some_ask ask (AsLater own octets) is)) ∙ first in absurd (cc)

asked_later : (extent : Extent) (own key : FragKey) (ports : Ports) (octets bytes : List ℕ) (ask : FragAsk) → Some ask ≡ asked extent own ports octets
    → part_in ask ≡ LaterPart key bytes → (own ≡ key) × (octets ≡ bytes)
asked_later Whole own key ports octets bytes ask is later = absurd (cc)
asked_later First own key ports octets bytes ask is later = let same = sym (ap part_in (some_ask ask (AsFirst own ports) is)) ∙ later in absurd (cc)
asked_later Later own key ports octets bytes ask is later = let same = sym (ap part_in (some_ask ask (AsLater own octets) is)) ∙ later in (cc, cc)

way_in : (own key : FragKey) → own ≡ key → key.way ≡ own.way
way_in own key same = ap (λ (k : FragKey). k.way) (sym same)

pub first_side : (six : Bool) (octets : List ℕ) (ask : FragAsk) (key : FragKey) → AsksFrom six octets (Some ask) → part_in ask ≡ FirstPart key → key.way ≡ side_of six
first_side true octets ask key (p, is, asks) first =
    way_in (key_of6 from_access p.head) key
    (asked_first (extent_of6 p.head) (key_of6 from_access p.head) key (flow_of6 p.content).ports octets ask asks first)
first_side false octets ask key (p, is, asks) first =
    way_in (key_of4 from_ipv4 p.head) key
    (asked_first (extent_of4 p.head) (key_of4 from_ipv4 p.head) key (flow_of4 p.content).ports octets ask asks first)

pub later_side : (six : Bool) (octets bytes : List ℕ) (ask : FragAsk) (key : FragKey) → AsksFrom six octets (Some ask) → part_in ask ≡ LaterPart key bytes
    → (key.way ≡ side_of six) × (octets ≡ bytes)
later_side true octets bytes ask key (p, is, asks) later =
    let same = asked_later (extent_of6 p.head) (key_of6 from_access p.head) key (flow_of6 p.content).ports octets bytes ask asks later in
    (way_in (key_of6 from_access p.head) key same.0, same.1)
later_side false octets bytes ask key (p, is, asks) later =
    let same = asked_later (extent_of4 p.head) (key_of4 from_ipv4 p.head) key (flow_of4 p.content).ports octets bytes ask asks later in
    (way_in (key_of4 from_ipv4 p.head) key same.0, same.1)

-- ---- what becomes of fragments that are freed, of both versions

abbrev pub IsLaterFrom : Bool → List ℕ → Type 0
IsLaterFrom true octets = IsLaterFragment6 octets
IsLaterFrom false octets = IsLaterFragment4 octets

abbrev pub IsOneFrom : Relay → Bool → Ports → List ℕ → Hop → Type 0
IsOneFrom relay true ports octets hop = IsOne6 relay ports octets hop
IsOneFrom relay false ports octets hop = IsOne4 relay ports octets hop

pub freed_from : (relay : Relay) (six : Bool) (ports : Ports) (parcels : List Parcel) (hop : Hop) → FreesFrom relay six ports parcels hop
    → AreFreed (IsLaterFrom six) (IsOneFrom relay six ports) parcels hop
freed_from relay true ports parcels hop freed = freed
freed_from relay false ports parcels hop freed = freed

pub frees_from : (relay : Relay) (six : Bool) (ports : Ports) (parcels : List Parcel) (hop : Hop) → AreFreed (IsLaterFrom six) (IsOneFrom relay six ports) parcels hop
    → FreesFrom relay six ports parcels hop
frees_from relay true ports parcels hop freed = freed
frees_from relay false ports parcels hop freed = freed

-- a packet that asks has ports
pub has_ports : (six : Bool) (octets : List ℕ) (ask : FragAsk) → AsksFrom six octets (Some ask) → (ports : Ports) × HasPorts six octets ports
has_ports true octets ask (p, is, asks) = ((flow_of6 p.content).ports, (p, is, refl))
has_ports false octets ask (p, is, asks) = ((flow_of4 p.content).ports, (p, is, refl))

-- A hop that frees parcels is that of a fragment that frees none, and then of these.
abbrev pub AreReleased : Relay → Bool → List ℕ → List Parcel → Hop → Type 0
AreReleased relay six octets parcels hop =
    (ports : Ports) × HasPorts six octets ports × (own : Hop) × (others : Hop) × IsRelayHop relay six octets (Some Noted) own
    × FreesFrom relay six ports parcels others × (hop ≡ then own others)

pub released : (relay : Relay) (six : Bool) (octets : List ℕ) (ask : FragAsk) (parcels : List Parcel) (hop : Hop) → AsksFrom six octets (Some ask)
    → IsRelayHop relay six octets (Some (Released parcels)) hop → AreReleased relay six octets parcels hop
released relay true octets ask parcels hop (p, is, asks) (found, is_found, is_made) =
    let taken = subst (λ (f : Found Packet6 Head6). IsMade (IsTaken6 relay octets (Some (Released parcels))) (IsRefused6 relay octets) f hop)
    (found6 true octets found (Taken p) is_found is) is_made in
    ((flow_of6 p.content).ports, (p, is, refl), taken.0, taken.1, (Taken p, is, taken.2), taken.3, taken.4)
released relay false octets ask parcels hop (p, is, asks) (found, is_found, is_made) =
    let taken = subst (λ (f : Found Packet4 Head4). IsMade (IsTaken4 relay octets (Some (Released parcels))) (IsRefused4 relay octets) f hop)
    (found4 octets found (Taken p) is_found is) is_made in
    ((flow_of4 p.content).ports, (p, is, refl), taken.0, taken.1, (Taken p, is, taken.2), taken.3, taken.4)
