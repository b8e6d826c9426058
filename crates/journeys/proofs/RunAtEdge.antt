-- At an edge: the parts of a hop as they are derived from its entry in the trace, which has no octets of parcels.
use Rattle.std.proofs.Common.{◌≡◌, refl, sym, ap, ◌∙◌, ℕ, ◌<◌, inl, inr, List, [], map, Option, Some, None, subst, arith}
use Rattle.std.specs.Prelude.{slice_get}
use Rattle.std.specs.Option.{option_map}
use Rattle.octets.specs.declared.cause.Cause.{Cause}
use Rattle.octets.specs.declared.parcel.Parcel.{Parcel}
use Rattle.frag_table.specs.declared.key.FragKey.{FragKey}
use Rattle.nat_model.specs.declared.answer.Answer.{Answer}
use Rattle.nat_model.specs.declared.answer.Answer.TheVariants.{Out, Turn, In, Kept, Held, Refused}
use Rattle.nat_model.specs.declared.ask.Ask.{Ask}
use Rattle.nat_model.specs.declared.ask.Part.TheVariants.{First as FirstPart, Later as LaterPart}
use Rattle.nat_model.specs.declared.entry.Entry.{Entry}
use Rattle.nat_model.specs.Fragment.{part_of}
use Rattle.nat_model.specs.Parcels.{edge_log, Frees, HasWaited}
use Rattle.nat_model.specs.Waiting.{freed_of}
use Rattle.packets.specs.declared.asked.Extent.{Extent}
use Rattle.packets.specs.declared.asked.Extent.TheVariants.{Whole, First, Later}
use Rattle.packets.specs.Asked.{extent_of4, extent_of6, key_of4, key_of6}
use Rattle.hops.specs.declared.hop.Hop.{Hop}
use Rattle.hops.specs.Hop.{nothing, then, IsFreed, AreFreed}
use Rattle.edge_node.specs.declared.way.Node.{Node}
use Rattle.edge_node.specs.declared.way.Way.{Way}
use Rattle.edge_node.specs.declared.way.Way.TheVariants.{Lan, Access, Turned}
use Rattle.edge_node.specs.Asked.{IsAsk, IsDroppedAt, asked_part}
use Rattle.edge_node.specs.Hop.{Own, Becomes, IsLaterAt, IsAnswerAt, IsTaken, IsEdgeHop}
use Rattle.domain_core.specs.declared.history.EdgeNote.{EdgeNote}
use Rattle.domain_core.specs.declared.journey.HopNote.{HopNote}
use Rattle.journeys.specs.declared.stand.Stand.TheVariants.{Edge}
use Rattle.journeys.specs.Answers.{edge_entry, named_at_edge}
use Rattle.journeys.specs.Came.{came_to}
use Rattle.journeys.specs.Derived.{Told, Packet, Part as HopPart, made, Freeing, EdgeAt, freeing_edge, who_at_edge, IsFreedPart, AreFreedParts, AreEntryParts, AreAtEdge, alone}
use Rattle.journeys.specs.OneThread.{place_alone, places_alone, edge_note}
use Rattle.journeys.specs.Run.{Step}
use Rattle.journeys.proofs.RunParts.{freed_parts, both_parts, IsSeen, freed_part, freed_alone}
use Rattle.journeys.proofs.RunTables.{IsEdgeEntry}

-- ---- an answer without the octets of its parcels

alone_at : (way : Way) (answer : Answer)
    → (IsAnswerAt way answer → IsAnswerAt way (places_alone answer))
    × ((node : Node) (octets : List ℕ) (hop : Hop) → Becomes node way answer octets hop → Becomes node way (places_alone answer) octets hop)
alone_at Lan (Out from port src6 dst6 freed) = (λ kind. kind, λ node octets hop is. is)
alone_at Lan (Turn from port freed) = (λ kind. kind, λ node octets hop is. is)
alone_at Lan (In to port from peer freed) = (λ kind. kind, λ node octets hop is. is)
alone_at Lan (Kept port until) = (λ kind. kind, λ node octets hop is. is)
alone_at Lan Held = (λ kind. kind, λ node octets hop is. is)
alone_at Lan (Refused cause freed) = (λ kind. kind, λ node octets hop is. is)
alone_at Access (Out from port src6 dst6 freed) = (λ kind. kind, λ node octets hop is. is)
alone_at Access (Turn from port freed) = (λ kind. kind, λ node octets hop is. is)
alone_at Access (In to port from peer freed) = (λ kind. kind, λ node octets hop is. is)
alone_at Access (Kept port until) = (λ kind. kind, λ node octets hop is. is)
alone_at Access Held = (λ kind. kind, λ node octets hop is. is)
alone_at Access (Refused cause freed) = (λ kind. kind, λ node octets hop is. is)
alone_at Turned (Out from port src6 dst6 freed) = (λ kind. kind, λ node octets hop is. is)
alone_at Turned (Turn from port freed) = (λ kind. kind, λ node octets hop is. is)
alone_at Turned (In to port from peer freed) = (λ kind. kind, λ node octets hop is. is)
alone_at Turned (Kept port until) = (λ kind. kind, λ node octets hop is. is)
alone_at Turned Held = (λ kind. kind, λ node octets hop is. is)
alone_at Turned (Refused cause freed) = (λ kind. kind, λ node octets hop is. is)

own_alone : (node : Node) (way : Way) (answer : Answer) (octets : List ℕ) (hop : Hop) → Own node way answer octets hop → Own node way (places_alone answer) octets hop
own_alone node way answer octets hop (inl is) = inl ((alone_at way answer).1 node octets hop is)
own_alone node way answer octets hop (inr (cause, dropped, is, drops)) = inr (cause, dropped, ap places_alone is, drops)

pub parcels_alone : (answer : Answer) → freed_of (places_alone answer) ≡ map place_alone (freed_of answer)
parcels_alone (Out from port src6 dst6 freed) = refl
parcels_alone (Turn from port freed) = refl
parcels_alone (In to port from peer freed) = refl
parcels_alone (Kept port until) = refl
parcels_alone Held = refl
parcels_alone (Refused cause freed) = refl

-- what becomes of one that was freed
one_alone : (node : Node) (way : Way) (answer : Answer) (octets : List ℕ) (hop : Hop) → IsFreed (IsLaterAt way) (Becomes node way answer) octets hop
    → IsFreed (IsLaterAt way) (Becomes node way (places_alone answer)) octets hop
one_alone node way answer octets hop (inl (later, is)) = inl (later, (alone_at way answer).1 node octets hop is)
one_alone node way answer octets hop (inr other) = inr other

-- ---- the way of a fragment, by the side in its key

abbrev side_of : Way → ℕ
side_of Lan = 0
side_of Access = 1
side_of Turned = 2

same_side : (way other : Way) → side_of way ≡ side_of other → way ≡ other
same_side Lan Lan same = refl
same_side Lan Access same = absurd (omega arith)
same_side Lan Turned same = absurd (omega arith)
same_side Access Lan same = absurd (omega arith)
same_side Access Access same = refl
same_side Access Turned same = absurd (omega arith)
same_side Turned Lan same = absurd (omega arith)
same_side Turned Access same = absurd (omega arith)
same_side Turned Turned same = refl

asked_first : (extent : Extent) (own key : FragKey) (octets : List ℕ) → asked_part extent own octets ≡ FirstPart key → own ≡ key
asked_first Whole own key octets is = absurd (cc)
asked_first First own key octets is = cc
asked_first Later own key octets is = absurd (cc)

asked_later : (extent : Extent) (own key : FragKey) (octets bytes : List ℕ) → asked_part extent own octets ≡ LaterPart key bytes → (own ≡ key) × (octets ≡ bytes)
asked_later Whole own key octets bytes is = absurd (cc)
asked_later First own key octets bytes is = absurd (cc)
asked_later Later own key octets bytes is = (cc, cc)

way_in : (own key : FragKey) → own ≡ key → key.way ≡ own.way
way_in own key same = ap (λ (k : FragKey). k.way) (sym same)

first_side : (way : Way) (octets : List ℕ) (ask : Ask) (key : FragKey) → IsAsk way octets ask → part_of ask ≡ FirstPart key → key.way ≡ side_of way
first_side Lan octets ask key (p, is, asks) first =
    way_in (key_of4 0 p.head) key (asked_first (extent_of4 p.head) (key_of4 0 p.head) key octets (sym (ap part_of asks) ∙ first))
first_side Access octets ask key (p, is, asks) first =
    way_in (key_of6 1 p.head) key (asked_first (extent_of6 p.head) (key_of6 1 p.head) key octets (sym (ap part_of asks) ∙ first))
first_side Turned octets ask key (p, is, asks) first =
    way_in (key_of4 2 p.head) key (asked_first (extent_of4 p.head) (key_of4 2 p.head) key octets (sym (ap part_of asks) ∙ first))

later_side : (way : Way) (octets bytes : List ℕ) (ask : Ask) (key : FragKey) → IsAsk way octets ask → part_of ask ≡ LaterPart key bytes
    → (key.way ≡ side_of way) × (octets ≡ bytes)
later_side Lan octets bytes ask key (p, is, asks) later =
    let same = asked_later (extent_of4 p.head) (key_of4 0 p.head) key octets bytes (sym (ap part_of asks) ∙ later) in
    (way_in (key_of4 0 p.head) key same.0, same.1)
later_side Access octets bytes ask key (p, is, asks) later =
    let same = asked_later (extent_of6 p.head) (key_of6 1 p.head) key octets bytes (sym (ap part_of asks) ∙ later) in
    (way_in (key_of6 1 p.head) key same.0, same.1)
later_side Turned octets bytes ask key (p, is, asks) later =
    let same = asked_later (extent_of4 p.head) (key_of4 2 p.head) key octets bytes (sym (ap part_of asks) ∙ later) in
    (way_in (key_of4 2 p.head) key same.0, same.1)

-- a packet that asks is taken
asks_taken : (way : Way) (octets : List ℕ) (ask : Ask) → IsAsk way octets ask → IsTaken way octets
asks_taken Lan octets ask (p, is, asks) = (p, is)
asks_taken Access octets ask (p, is, asks) = (p, is)
asks_taken Turned octets ask (p, is, asks) = (p, is)

-- ---- the parts

-- the steps of the entries before a place are seen
abbrev pub AreSeenBefore : Told → List Packet → ℕ → List Entry → ℕ → Type 0
AreSeenBefore told known number entries place =
    (k : ℕ) (e : Entry) → k < place → slice_get entries k ≡ Some e
    → (s : Step) × IsSeen told known e.mark.who s.made.taken s.made.note × IsEdgeEntry number s e

module _ (told : Told) (known : List Packet) (at : EdgeAt) (entries : List Entry) (place : ℕ) (entry : Entry)
    (written : (k : ℕ) (e : Entry) → slice_get entries k ≡ Some e → edge_entry told.trace at.number k ≡ Some (edge_note e))
    (there : slice_get entries place ≡ Some entry)
    (waited : (a : ℕ) (p : Parcel) → Frees edge_log entries place a p → HasWaited edge_log entries place p)
    (seen : AreSeenBefore told known at.number entries place)
    (octets : List ℕ) (ask : Ask) (asks : IsAsk at.way octets ask) (of_it : entry.ask ≡ ask)
  where
    abbrev freeing : Freeing
    freeing = freeing_edge at (places_alone entry.answer)

    -- a parcel that this entry frees
    parcel_part : (a : ℕ) (p : Parcel) (one : Hop) → slice_get (freed_of entry.answer) a ≡ Some p
        → IsFreed (IsLaterAt at.way) (Becomes at.node at.way entry.answer) p.bytes one
        → IsFreedPart told known freeing (who_at_edge told.trace at.number p.place) (made (then one nothing))
    parcel_part a p one frees is =
        let w = waited a p (record { entry = entry; at = there; parcel = frees }) in
        let s = seen p.place w.later w.before w.there in
        let same_entry : w.first ≡ entry = some w.first entry (sym w.at ∙ there) in
        let part : part_of ask ≡ FirstPart w.key = ap part_of (sym of_it) ∙ ap (λ (e : Entry). part_of e.ask) (sym same_entry) ∙ w.frees in
        let first = first_side at.way octets ask w.key asks part in
        let later = later_side s.2.way s.0.made.taken.octets p.bytes s.2.ask w.key s.2.asked (ap part_of (sym s.2.is.asked) ∙ w.waited) in
        let same_way : s.2.way ≡ at.way = same_side s.2.way at.way (sym later.0 ∙ first) in
        freed_part told known freeing (who_at_edge told.trace at.number p.place) w.later.mark.who s.0.made.taken s.0.made.note (then one nothing)
        (ap (option_map (λ (e : EdgeNote). e.mark.who)) (written p.place w.later w.there))
        s.1
        (s.2.stands ∙ ap (λ (way : Way). Edge at.number way) same_way)
        (subst (λ (bytes : List ℕ). AreFreed (IsLaterAt at.way) (Becomes at.node at.way (places_alone entry.answer)) (alone bytes) (then one nothing)) (sym later.1)
        (freed_alone (IsLaterAt at.way) (Becomes at.node at.way (places_alone entry.answer)) p.bytes one
        (one_alone at.node at.way entry.answer p.bytes one is)))
      where
        some : (x y : Entry) → Some x ≡ Some y → x ≡ y
        some x y equal = cc

    pub asked_parts : (note : HopNote) (hop : Hop) → note.stripe ≡ None → note.place ≡ Some place → IsAnswerAt at.way entry.answer
        → IsEdgeHop at.node at.way entry.answer octets hop
        → (parts : List HopPart) × AreAtEdge told known at octets note parts
        × (came_to parts ≡ Some hop)
    asked_parts note hop no_stripe at_place kind (own, others, is, freed, both) =
        let rest = freed_parts (IsLaterAt at.way) (Becomes at.node at.way entry.answer)
        (λ k part. IsFreedPart told known freeing (who_at_edge told.trace at.number k) part)
        (freed_of entry.answer) others freed parcel_part in
        let all = both_parts (Own at.node at.way (places_alone entry.answer) octets)
        (AreFreedParts (λ k part. IsFreedPart told known freeing (who_at_edge told.trace at.number k) part) (freed_of (places_alone entry.answer)))
        hop own others (own_alone at.node at.way entry.answer octets own is) both (
          rest.0,
          subst (λ (ps : List Parcel). AreFreedParts (λ k part. IsFreedPart told known freeing (who_at_edge told.trace at.number k) part) ps rest.0)
              (sym (parcels_alone entry.answer)) rest.1,
          rest.2,
        ) in (
          all.0,
          inr (
            asks_taken at.way octets ask asks,
            subst (λ (named : Option EdgeNote). AreEntryParts told known at octets named all.0) (sym (named note.stripe note.place no_stripe at_place))
                (inr ((alone_at at.way entry.answer).0 kind, all.1)),
          ),
          all.2,
        )
      where
        named : (x y : Option ℕ) → x ≡ None → y ≡ Some place → named_at_edge told.trace at.number x y ≡ Some (edge_note entry)
        named x y none some =
            ap (λ (z : Option ℕ). named_at_edge told.trace at.number z y) none ∙ ap (λ (z : Option ℕ). named_at_edge told.trace at.number None z) some
            ∙ written place entry there

-- one that is dropped before anything is asked
pub unasked_parts : (told : Told) (known : List Packet) (at : EdgeAt) (octets : List ℕ) (note : HopNote) (cause : Cause) (hop : Hop)
    → IsDroppedAt at.way cause octets → IsEdgeHop at.node at.way (Refused cause []) octets hop
    → (parts : List HopPart) × AreAtEdge told known at octets note parts
    × (came_to parts ≡ Some hop)
unasked_parts told known at octets note cause hop dropped (own, others, is, freed, both) =
    let none : AreFreedParts (λ k part. IsFreedPart told known (freeing_edge at (Refused cause [])) (who_at_edge told.trace at.number k) part) [] [] = refl in
    let all = both_parts (Own at.node at.way (Refused cause []) octets)
    (AreFreedParts (λ k part. IsFreedPart told known (freeing_edge at (Refused cause [])) (who_at_edge told.trace at.number k) part) [])
    hop own others is both
    ([], none, ap Some (sym freed)) in
    (all.0, inl (cause, dropped, all.1), all.2)
