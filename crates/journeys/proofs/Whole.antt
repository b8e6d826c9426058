-- An ICMP error that a node takes is a whole packet, so nothing is freed to one.
use Rattle.std.proofs.Common.{◌≡◌, ◌≢◌, refl, sym, ap, ◌∙◌, ℕ, zero, suc, inl, inr, Bool, true, false, cond, List, [], ◌∷◌, Option, Some, None, subst, arith}
use Rattle.std.specs.Prelude.{not, ◌||◌, ◌==◌, IsTrue}
use Rattle.std.proofs.lemmas.Bool.{eqb-true}
use Rattle.octets.specs.declared.parcel.Parcel.{Parcel}
use Rattle.ip4_packet.specs.declared.head.Head4.{Head4}
use Rattle.ip4_packet.specs.Grammar.{payload_of4}
use Rattle.ip4_packet.specs.Fragment.{is_fragment}
use Rattle.ip6_packet.specs.declared.head.Head6.{Head6}
use Rattle.ip6_packet.specs.Fragment.{fragment_offset, more_fragments, IsFragment6}
use Rattle.ip6_packet.specs.Grammar.{payload_of6}
use Rattle.l4_headers.specs.declared.ports.Ports.{Ports}
use Rattle.frag_table.specs.declared.key.FragKey.{FragKey}
use Rattle.frag_table.specs.declared.ask.FragAsk.{FragAsk}
use Rattle.frag_table.specs.declared.answer.FragAnswer.{FragAnswer}
use Rattle.frag_table.specs.Frag.{freed_by}
use Rattle.nat_model.specs.declared.answer.Answer.{Answer}
use Rattle.nat_model.specs.declared.ask.Ask.{Ask}
use Rattle.nat_model.specs.declared.ask.Part.{Part}
use Rattle.nat_model.specs.declared.ask.Part.TheVariants.{Whole as WholePart}
use Rattle.nat_model.specs.Fragment.{part_of}
use Rattle.nat_model.specs.Kind.{IsFirst}
use Rattle.nat_model.specs.Waiting.{freed_of}
use Rattle.packets.specs.declared.asked.Extent.{Extent}
use Rattle.packets.specs.declared.asked.Extent.TheVariants.{Whole}
use Rattle.packets.specs.declared.packet4.Content4.{Content4}
use Rattle.packets.specs.declared.packet4.Content4.TheVariants.{Segment as Segment4, Later as Later4, Query as Query4, Error as Error4}
use Rattle.packets.specs.declared.packet4.Packet4.{Packet4}
use Rattle.packets.specs.declared.packet6.Content6.{Content6}
use Rattle.packets.specs.declared.packet6.Content6.TheVariants.{Segment as Segment6, Later as Later6, Query as Query6, Error as Error6}
use Rattle.packets.specs.declared.packet6.Packet6.{Packet6}
use Rattle.packets.specs.Asked.{flow_of4, flow_of6, extent_of, extent_of4, extent_of6, key_of4, key_of6}
use Rattle.packets.specs.Packet4.{IsPacket4, IsContent4}
use Rattle.packets.specs.Packet6.{IsPacket6, IsContent6}
use Rattle.edge_node.specs.declared.way.Way.TheVariants.{Access}
use Rattle.edge_node.specs.Asked.{IsAsk, asked_part}
use Rattle.relay_node.specs.Asked.{from_access, from_ipv4, asked, AsksFrom}
use Rattle.journeys.specs.Rank.{is_fault4, is_fault6}
use Rattle.journeys.proofs.Faults.{is_error4, is_error6}
use Rattle.journeys.proofs.Errors.{IsErrorContent4, IsErrorContent6, fault_content4, fault_content6}

-- what is no fragment is a whole packet
whole_extent : (offset : ℕ) (more : Bool) → (offset ≡ 0) → more ≡ false → extent_of offset more ≡ Whole
whole_extent offset more none last = rw (none, last) refl

none_or : (n : ℕ) → (n ≢ 0 → ⊥) → n ≡ 0
none_or zero isnt = refl
none_or (suc n) isnt = absurd (isnt (λ is. omega (arith, is)))

no_more : (b : Bool) → (IsTrue b → ⊥) → b ≡ false
no_more true isnt = absurd (isnt refl)
no_more false isnt = refl

whole6 : (h : Head6) → (IsFragment6 h → ⊥) → extent_of6 h ≡ Whole
whole6 h isnt =
    whole_extent (fragment_offset h.frag) (more_fragments h.frag) (none_or (fragment_offset h.frag) (λ some. isnt (inr some)))
    (no_more (more_fragments h.frag) (λ more. isnt (inl more)))

content_whole6 : (at_relay : Bool) (h : Head6) (payload : List ℕ) (content : Content6) → IsContent6 at_relay h payload content → IsErrorContent6 content → extent_of6 h ≡ Whole
content_whole6 at_relay h payload (Segment6 proto l4) is never = absurd never
content_whole6 at_relay h payload (Later6 proto) is never = absurd never
content_whole6 at_relay h payload (Query6 m row) is never = absurd never
content_whole6 at_relay h payload (Error6 m row inner) is error = whole6 h is.message.whole

pub fault_whole6 : (at_relay : Bool) (p : Packet6) (octets : List ℕ) → IsPacket6 at_relay p octets → is_fault6 octets ≡ true → extent_of6 p.head ≡ Whole
fault_whole6 at_relay p octets packet fault =
    content_whole6 at_relay p.head (payload_of6 p.head octets) p.content packet.content
    (fault_content6 at_relay p.head (payload_of6 p.head octets) p.content packet.content (is_error6 p.head octets packet.is fault))

whole4 : (h : Head4) → is_fragment h ≡ false → extent_of4 h ≡ Whole
whole4 h is = whole_extent h.offset h.mf (eqb-true h.offset 0 (parts h.mf (h.offset == 0) is).1) (parts h.mf (h.offset == 0) is).0
  where
    parts : (more none : Bool) → (more || not none) ≡ false → (more ≡ false) × (none ≡ true)
    parts true none e = absurd (cc)
    parts false true e = (refl, refl)
    parts false false e = absurd (cc)

content_whole4 : (h : Head4) (payload : List ℕ) (content : Content4) → IsContent4 h payload content → IsErrorContent4 content → extent_of4 h ≡ Whole
content_whole4 h payload (Segment4 proto l4) is never = absurd never
content_whole4 h payload (Later4 proto) is never = absurd never
content_whole4 h payload (Query4 m row) is never = absurd never
content_whole4 h payload (Error4 m row inner) is error = whole4 h is.message.whole

pub fault_whole4 : (p : Packet4) (octets : List ℕ) → IsPacket4 p octets → is_fault4 octets ≡ true → extent_of4 p.head ≡ Whole
fault_whole4 p octets packet fault =
    content_whole4 p.head (payload_of4 p.head octets) p.content packet.content
    (fault_content4 p.head (payload_of4 p.head octets) p.content packet.content (is_error4 p.head octets packet.is fault))

-- ---- so nothing is freed to one

no_first : (part : Part) → part ≡ WholePart → IsFirst part → ⊥
no_first part is first = subst IsFirst is first

asked_whole : (extent : Extent) (key : FragKey) (octets : List ℕ) → extent ≡ Whole → asked_part extent key octets ≡ WholePart
asked_whole extent key octets is = rw is refl

-- at an edge: where only a first fragment frees
pub edge_frees_none : (octets : List ℕ) (ask : Ask) (answer : Answer) → IsAsk Access octets ask → ((freed_of answer ≡ [] → ⊥) → IsFirst (part_of ask))
    → is_fault6 octets ≡ true → freed_of answer ≡ []
edge_frees_none octets ask answer (p, packet, is) first fault = by (freed_of answer) refl
  where
    part : part_of ask ≡ WholePart
    part = ap part_of is ∙ asked_whole (extent_of6 p.head) (key_of6 1 p.head) octets (fault_whole6 false p octets packet fault)

    by : (parcels : List Parcel) → freed_of answer ≡ parcels → freed_of answer ≡ []
    by [] e = e
    by (parcel ∷ parcels) e = absurd (no_first (part_of ask) part (first (λ none. some_none (sym e ∙ none))))
      where
        some_none : parcel ∷ parcels ≡ [] → ⊥
        some_none x = absurd (cc)

-- at the relay: an ICMP error asks nothing
asks_none : (extent : Extent) (key : FragKey) (ports : Ports) (octets : List ℕ) → extent ≡ Whole → asked extent key ports octets ≡ None
asks_none extent key ports octets is = rw is refl

none_asked : (ask : FragAsk) → ◌≡◌ {A = Option FragAsk} (Some ask) None → ⊥
none_asked ask e = absurd (cc)

pub relay_frees_none : (six : Bool) (octets : List ℕ) (ask : FragAsk) (answer : FragAnswer) → AsksFrom six octets (Some ask)
    → cond six (is_fault6 octets) (is_fault4 octets) ≡ true → freed_by answer ≡ []
relay_frees_none true octets ask answer (p, packet, is) fault =
    absurd (none_asked ask (is ∙ asks_none (extent_of6 p.head) (key_of6 from_access p.head) (flow_of6 p.content).ports octets (fault_whole6 true p octets packet fault)))
relay_frees_none false octets ask answer (p, packet, is) fault =
    absurd (none_asked ask (is ∙ asks_none (extent_of4 p.head) (key_of4 from_ipv4 p.head) (flow_of4 p.content).ports octets (fault_whole4 p octets packet fault)))
