-- The parts of a hop are one: by more packets that are known, they are the same, but for those that were untold.
use Rattle.std.proofs.Common.{◌≡◌, refl, sym, ap, ◌∙◌, ℕ, ◌⊎◌, inl, inr, Bool, true, false, List, [], ◌∷◌, ◌++◌, Option, Some, None, subst}
use Rattle.std.specs.Prelude.{slice_get}
use Rattle.octets.specs.declared.cause.Cause.{Cause}
use Rattle.octets.specs.declared.parcel.Parcel.{Parcel}
use Rattle.l4_headers.specs.declared.ports.Ports.{Ports}
use Rattle.frag_table.specs.declared.ask.FragAsk.{FragAsk}
use Rattle.frag_table.specs.declared.answer.FragAnswer.{FragAnswer}
use Rattle.frag_table.specs.declared.answer.FragAnswer.TheVariants.{Known}
use Rattle.frag_table.specs.Frag.{freed_by}
use Rattle.nat_model.specs.declared.answer.Answer.{Answer}
use Rattle.nat_model.specs.declared.answer.Answer.TheVariants.{Out, Turn, In, Kept, Held, Refused}
use Rattle.nat_model.specs.declared.entry.Who.{Who}
use Rattle.nat_model.specs.Waiting.{freed_of}
use Rattle.packets.specs.declared.found.Found.TheVariants.{Taken}
use Rattle.packets.specs.declared.packet4.Packet4.{Packet4}
use Rattle.packets.specs.declared.packet6.Packet6.{Packet6}
use Rattle.packets.specs.Asked.{flow_of4, flow_of6}
use Rattle.packets.specs.OneOf.{IsOneAtMost}
use Rattle.packets.proofs.Taken4.{never_both4, same_packet4}
use Rattle.packets.proofs.Taken6.{never_both6, same_packet6}
use Rattle.hops.specs.declared.hop.Hop.{Hop}
use Rattle.hops.specs.Hop.{nothing, then, AreFreed}
use Rattle.hops.proofs.Gained.{then_nothing}
use Rattle.hops.proofs.OneWay.{all_freed}
use Rattle.edge_node.specs.declared.way.Node.{Node}
use Rattle.edge_node.specs.declared.way.Way.{Way}
use Rattle.edge_node.specs.declared.way.Way.TheVariants.{Lan, Access, Turned}
use Rattle.edge_node.specs.Asked.{IsDroppedAt}
use Rattle.edge_node.specs.Hop.{Own, Becomes, IsLaterAt, IsTaken, IsEdgeHop}
use Rattle.edge_node.proofs.OneHop.{one_ask as one_edge_ask, one_hop as one_edge_hop}
use Rattle.relay_node.specs.Relay.{Relay}
use Rattle.relay_node.specs.FromAccess.{IsLaterFragment6, IsOne6}
use Rattle.relay_node.specs.FromIpv4.{IsLaterFragment4, IsOne4}
use Rattle.relay_node.specs.Hop.{IsRelayHop}
use Rattle.relay_node.proofs.OneHop.{one_ask, one_hop}
use Rattle.setup_tables.specs.declared.edge.EdgeLine.{EdgeLine}
use Rattle.domain_core.specs.declared.journey.HopNote.{HopNote}
use Rattle.domain_core.specs.declared.history.EdgeNote.{EdgeNote}
use Rattle.domain_core.specs.declared.history.StripeNote.{StripeNote}
use Rattle.journeys.specs.declared.stand.Stand.{Stand}
use Rattle.journeys.specs.declared.stand.Stand.TheVariants.{Edge, Relay as AtRelay}
use Rattle.journeys.specs.Waiting.{Waiting, at_stand}
use Rattle.journeys.specs.Answers.{named_at_edge, named_at_relay}
use Rattle.journeys.specs.Derived.{Told, Packet, packets_of, edge_node, relay_node, Part, made, untold, Freeing, IsPartOf, IsFreedPart, AreFreedParts, AreParts, EdgeAt, freeing_edge, who_at_edge, AreEdgeParts, AreEntryParts, AreAtEdge, RelayAt, HasPorts, FreesFrom, freeing_relay, who_at_relay, own_answer, AreUnasked, AreStripeParts, AreToldParts, AreAtRelay, AreAtLine, AreAtStand, AreOfHop, alone}

-- ---- one after the other, each untold or the same

abbrev pub IsLess : Part → Part → Type 0
IsLess part other = (part ≡ untold) ⊎ (part ≡ other)

abbrev pub AreLess : List Part → List Part → Type 0
AreLess [] [] = Unit {0}
AreLess [] (other ∷ others) = ⊥
AreLess (part ∷ parts) [] = ⊥
AreLess (part ∷ parts) (other ∷ others) = IsLess part other × AreLess parts others

less_as : (parts others these those : List Part) → parts ≡ these → others ≡ those → AreLess these those → AreLess parts others
less_as parts others these those same equal less =
    subst (λ (ps : List Part). AreLess ps others) (sym same) (subst (λ (ps : List Part). AreLess these ps) (sym equal) less)

-- the packets of each record are known in the same order, and some more may be
abbrev pub IsWithin : List Packet → List Packet → Type 0
IsWithin known others = (rec : ℕ) → (more : List Waiting) × (packets_of rec others ≡ packets_of rec known ++ more)

-- ---- what is freed

module _ (told : Told) (known others : List Packet) (within : (rec hop : ℕ) (w : Waiting) → slice_get (packets_of rec known) hop ≡ Some w → slice_get (packets_of rec others) hop ≡ Some w)
  where
    module _ (freeing : Freeing) (once : (octets : List ℕ) → IsOneAtMost (freeing.Becomes octets)) where
      part_of : (who : Who) (w : Waiting) (part other : Part) → IsPartOf freeing who (Some w) part → IsPartOf freeing who (Some w) other → IsLess part other
      part_of who w part other (inl (elsewhere, is)) (inl (also, has)) = inr (is ∙ sym has)
      part_of who w part other (inl (elsewhere, is)) (inr (waited, has)) = absurd (elsewhere waited)
      part_of who w part other (inr (waited, is)) (inl (elsewhere, has)) = absurd (elsewhere waited)
      part_of who w part other (inr (waited, (hop, becomes, is))) (inr (also, (same, turns, has))) =
          inr (is ∙ ap (λ (h : Hop). made h) (once w.octets hop same becomes turns) ∙ sym has)

      freed_less : (who : Option Who) (part other : Part) → IsFreedPart told known freeing who part → IsFreedPart told others freeing who other → IsLess part other
      freed_less None part other is has = inr (is ∙ sym has)
      freed_less (Some who) part other (inl (isnt, is)) (inl (not_there, has)) = inr (is ∙ sym has)
      freed_less (Some who) part other (inl (isnt, is)) (inr (there, has)) = absurd (isnt there)
      freed_less (Some who) part other (inr (there, is)) (inl (isnt, has)) = absurd (isnt there)
      freed_less (Some who) part other (inr (there, is)) (inr (also, has)) = by (slice_get (packets_of who.rec known) who.hop) refl is
        where
          by : (w : Option Waiting) → slice_get (packets_of who.rec known) who.hop ≡ w → IsPartOf freeing who w part → IsLess part other
          by None e none = inl none
          by (Some w) e so =
              part_of who w part other so (subst (λ (x : Option Waiting). IsPartOf freeing who x other) (within who.rec who.hop w e) has)

      all_less : (who_at : ℕ → Option Who) (parcels : List Parcel) (parts these : List Part)
          → AreFreedParts (λ place part. IsFreedPart told known freeing (who_at place) part) parcels parts
          → AreFreedParts (λ place part. IsFreedPart told others freeing (who_at place) part) parcels these → AreLess parts these
      all_less who_at [] parts these is has = less_as parts these [] [] is has tt
      all_less who_at (parcel ∷ parcels) parts these (part, ps, one, rest, is) (other, os, same, more, has) =
          less_as parts these (part ∷ ps) (other ∷ os) is has
          (freed_less (who_at parcel.place) part other one same, all_less who_at parcels ps os rest more)

    -- the packet itself, and then what it frees
    both_less : (IsOwn : Hop → Type 0) (Freed Others : List Part → Type 0) (parts these : List Part) → IsOneAtMost IsOwn
        → ((ps os : List Part) → Freed ps → Others os → AreLess ps os) → AreParts IsOwn Freed parts → AreParts IsOwn Others these → AreLess parts these
    both_less IsOwn Freed Others parts these once so (own, ps, is, freed, all) (other, os, has, more, same) =
        less_as parts these (made own ∷ ps) (made other ∷ os) all same (inr (ap (λ (h : Hop). made h) (once own other is has)), so ps os freed more)

-- ---- at an edge

-- an answer that frees none
bare : Answer → Answer
bare (Out from port src6 dst6 freed) = Out from port src6 dst6 []
bare (Turn from port freed) = Turn from port []
bare (In to port from peer freed) = In to port from peer []
bare (Kept port until) = Kept port until
bare Held = Held
bare (Refused cause freed) = Refused cause []

bare_frees : (answer : Answer) → freed_of (bare answer) ≡ []
unfolding bare
bare_frees (Out from port src6 dst6 freed) = refl
bare_frees (Turn from port freed) = refl
bare_frees (In to port from peer freed) = refl
bare_frees (Kept port until) = refl
bare_frees Held = refl
bare_frees (Refused cause freed) = refl

bare_becomes : (node : Node) (way : Way) (answer : Answer) (octets : List ℕ) (hop : Hop) → Becomes node way answer octets hop → Becomes node way (bare answer) octets hop
unfolding bare
bare_becomes node Lan (Out from port src6 dst6 freed) octets hop is = is
bare_becomes node Lan (Turn from port freed) octets hop is = is
bare_becomes node Lan (In to port from peer freed) octets hop is = is
bare_becomes node Lan (Kept port until) octets hop is = is
bare_becomes node Lan Held octets hop is = is
bare_becomes node Lan (Refused cause freed) octets hop is = is
bare_becomes node Access (Out from port src6 dst6 freed) octets hop is = is
bare_becomes node Access (Turn from port freed) octets hop is = is
bare_becomes node Access (In to port from peer freed) octets hop is = is
bare_becomes node Access (Kept port until) octets hop is = is
bare_becomes node Access Held octets hop is = is
bare_becomes node Access (Refused cause freed) octets hop is = is
bare_becomes node Turned (Out from port src6 dst6 freed) octets hop is = is
bare_becomes node Turned (Turn from port freed) octets hop is = is
bare_becomes node Turned (In to port from peer freed) octets hop is = is
bare_becomes node Turned (Kept port until) octets hop is = is
bare_becomes node Turned Held octets hop is = is
bare_becomes node Turned (Refused cause freed) octets hop is = is

bare_own : (node : Node) (way : Way) (answer : Answer) (octets : List ℕ) (hop : Hop) → Own node way answer octets hop → Own node way (bare answer) octets hop
unfolding bare
bare_own node way answer octets hop (inl is) = inl (bare_becomes node way answer octets hop is)
bare_own node way answer octets hop (inr (cause, dropped, is, drops)) = inr (cause, dropped, ap bare is, drops)

-- so it is the packet's own part alone
own_alone : (node : Node) (way : Way) (answer : Answer) (octets : List ℕ) (hop : Hop) → Own node way answer octets hop → IsEdgeHop node way (bare answer) octets (then hop nothing)
own_alone node way answer octets hop is = (
  hop,
  nothing,
  bare_own node way answer octets hop is,
  subst (λ (ps : List Parcel). AreFreed (IsLaterAt way) (Becomes node way (bare answer)) ps nothing) (sym (bare_frees answer)) refl,
  refl,
)

own_once : (node : Node) (way : Way) (answer : Answer) (octets : List ℕ) → IsOneAtMost (Own node way answer octets)
own_once node way answer octets one other a b =
    then_nothing one
    ∙ one_edge_hop node way (bare answer) octets (then one nothing) (then other nothing) (own_alone node way answer octets one a) (own_alone node way answer octets other b)
    ∙ sym (then_nothing other)

edge_once : (at : EdgeAt) (answer : Answer) (octets : List ℕ) → IsOneAtMost ((freeing_edge at answer).Becomes octets)
edge_once at answer octets one other a b =
    all_freed (IsLaterAt at.way) (Becomes at.node at.way answer) (alone octets)
    (λ xs x y is has. own_once at.node at.way answer xs x y (inl is) (inl has)) one other a b

-- what is taken isn't dropped before anything is asked
taken_not_dropped : (way : Way) (octets : List ℕ) (cause : Cause) → IsTaken way octets → IsDroppedAt way cause octets → ⊥
taken_not_dropped Lan octets cause (p, is) dropped = never_both4 p cause octets is dropped
taken_not_dropped Access octets cause (p, is) dropped = never_both6 false p cause octets is dropped
taken_not_dropped Turned octets cause (p, is) dropped = never_both4 p cause octets is dropped

-- ---- at the relay

same_ports : (six : Bool) (octets : List ℕ) → IsOneAtMost (HasPorts six octets)
same_ports true octets one other (p, is, a) (q, has, b) = a ∙ ap (λ (x : Packet6). (flow_of6 x.content).ports) (same_packet6 true p q octets is has) ∙ sym b
same_ports false octets one other (p, is, a) (q, has, b) = a ∙ ap (λ (x : Packet4). (flow_of4 x.content).ports) (same_packet4 p q octets is has) ∙ sym b

one6 : (relay : Relay) (ports : Ports) (octets : List ℕ) → IsOneAtMost (IsOne6 relay ports octets)
one6 relay ports octets one other (p, is, a) (q, has, b) = one_hop relay true octets (Some (Known ports)) one other (Taken p, is, a) (Taken q, has, b)

one4 : (relay : Relay) (ports : Ports) (octets : List ℕ) → IsOneAtMost (IsOne4 relay ports octets)
one4 relay ports octets one other (p, is, a) (q, has, b) = one_hop relay false octets (Some (Known ports)) one other (Taken p, is, a) (Taken q, has, b)

frees_once : (relay : Relay) (six : Bool) (ports : Ports) (parcels : List Parcel) → IsOneAtMost (FreesFrom relay six ports parcels)
frees_once relay true ports parcels one other a b = all_freed IsLaterFragment6 (IsOne6 relay ports) parcels (one6 relay ports) one other a b
frees_once relay false ports parcels one other a b = all_freed IsLaterFragment4 (IsOne4 relay ports) parcels (one4 relay ports) one other a b

none_some : (ask : FragAsk) → ◌≡◌ {A = Option FragAsk} None (Some ask) → ⊥
none_some ask e = cc

same_ask : (ask other : FragAsk) → ◌≡◌ {A = Option FragAsk} (Some ask) (Some other) → ask ≡ other
same_ask ask other e = cc

-- ---- a hop

module _ (told : Told) (known others : List Packet) (within : (rec hop : ℕ) (w : Waiting) → slice_get (packets_of rec known) hop ≡ Some w → slice_get (packets_of rec others) hop ≡ Some w)
  where
    edge_parts : (at : EdgeAt) (octets : List ℕ) (answer : Answer) (parts these : List Part) → AreEdgeParts told known at octets answer parts
        → AreEdgeParts told others at octets answer these → AreLess parts these
    edge_parts at octets answer parts these is has =
        both_less told known others within (Own at.node at.way answer octets)
        (AreFreedParts (λ place part. IsFreedPart told known (freeing_edge at answer) (who_at_edge told.trace at.number place) part) (freed_of answer))
        (AreFreedParts (λ place part. IsFreedPart told others (freeing_edge at answer) (who_at_edge told.trace at.number place) part) (freed_of answer))
        parts these (own_once at.node at.way answer octets)
        (λ ps os freed more. all_less told known others within (freeing_edge at answer) (edge_once at answer) (who_at_edge told.trace at.number) (freed_of answer) ps os freed more)
        is has

    entry_parts : (at : EdgeAt) (octets : List ℕ) (entry : Option EdgeNote) (parts these : List Part) → AreEntryParts told known at octets entry parts
        → AreEntryParts told others at octets entry these → AreLess parts these
    entry_parts at octets None parts these is has = less_as parts these [] [] is has tt
    entry_parts at octets (Some entry) parts these (inl (isnt, is)) (inl (not_so, has)) = less_as parts these [] [] is has tt
    entry_parts at octets (Some entry) parts these (inl (isnt, is)) (inr (kind, has)) = absurd (isnt kind)
    entry_parts at octets (Some entry) parts these (inr (kind, is)) (inl (isnt, has)) = absurd (isnt kind)
    entry_parts at octets (Some entry) parts these (inr (kind, is)) (inr (also, has)) = edge_parts at octets entry.answer parts these is has

    at_edge : (at : EdgeAt) (octets : List ℕ) (note : HopNote) (parts these : List Part) → AreAtEdge told known at octets note parts
        → AreAtEdge told others at octets note these → AreLess parts these
    at_edge at octets note parts these (inl (cause, dropped, is)) (inl (second, also, has)) =
        edge_parts at octets (Refused second []) parts these
        (subst (λ (c : Cause). AreEdgeParts told known at octets (Refused c []) parts) ((one_edge_ask at.way octets).dropped_once cause second dropped also) is) has
    at_edge at octets note parts these (inl (cause, dropped, is)) (inr (taken, has)) = absurd (taken_not_dropped at.way octets cause taken dropped)
    at_edge at octets note parts these (inr (taken, is)) (inl (cause, dropped, has)) = absurd (taken_not_dropped at.way octets cause taken dropped)
    at_edge at octets note parts these (inr (taken, is)) (inr (also, has)) =
        entry_parts at octets (named_at_edge told.trace at.number note.stripe note.place) parts these is has

    unasked_parts : (at : RelayAt) (octets : List ℕ) (parts these : List Part) → AreUnasked at octets parts → AreUnasked at octets these → AreLess parts these
    unasked_parts at octets parts these (hop, sends, is) (other, also, has) =
        less_as parts these (made hop ∷ []) (made other ∷ []) is has (inr (ap (λ (h : Hop). made h) (one_hop at.relay at.six octets None hop other sends also)), tt)

    stripe_parts : (at : RelayAt) (octets : List ℕ) (answer : FragAnswer) (parts these : List Part) → AreStripeParts told known at octets answer parts
        → AreStripeParts told others at octets answer these → AreLess parts these
    stripe_parts at octets answer parts these (ports, ports_are, is) (same, also, has) =
        by (subst (λ (p : Ports). AreParts (IsRelayHop at.relay at.six octets (Some (own_answer answer)))
        (AreFreedParts (λ place part. IsFreedPart told known (freeing_relay told.trace at p) (who_at_relay told.trace at.stripe place) part) (freed_by answer)) parts)
        (same_ports at.six octets ports same ports_are also) is)
      where
        by : AreParts (IsRelayHop at.relay at.six octets (Some (own_answer answer)))
            (AreFreedParts (λ place part. IsFreedPart told known (freeing_relay told.trace at same) (who_at_relay told.trace at.stripe place) part) (freed_by answer)) parts
            → AreLess parts these
        by so =
            both_less told known others within (IsRelayHop at.relay at.six octets (Some (own_answer answer)))
            (AreFreedParts (λ place part. IsFreedPart told known (freeing_relay told.trace at same) (who_at_relay told.trace at.stripe place) part) (freed_by answer))
            (AreFreedParts (λ place part. IsFreedPart told others (freeing_relay told.trace at same) (who_at_relay told.trace at.stripe place) part) (freed_by answer))
            parts these (one_hop at.relay at.six octets (Some (own_answer answer)))
            (λ ps os freed more. all_less told known others within (freeing_relay told.trace at same) (λ xs. frees_once at.relay at.six same (alone xs))
            (who_at_relay told.trace at.stripe) (freed_by answer) ps os freed more) so has

    told_parts : (at : RelayAt) (octets : List ℕ) (ask : FragAsk) (entry : Option StripeNote) (parts these : List Part) → AreToldParts told known at octets ask entry parts
        → AreToldParts told others at octets ask entry these → AreLess parts these
    told_parts at octets ask None parts these is has = less_as parts these [] [] is has tt
    told_parts at octets ask (Some entry) parts these (inl (isnt, is)) (inl (not_so, has)) = less_as parts these [] [] is has tt
    told_parts at octets ask (Some entry) parts these (inl (isnt, is)) (inr (kind, has)) = absurd (isnt kind)
    told_parts at octets ask (Some entry) parts these (inr (kind, is)) (inl (isnt, has)) = absurd (isnt kind)
    told_parts at octets ask (Some entry) parts these (inr (kind, is)) (inr (also, has)) = stripe_parts at octets entry.answer parts these is has

    at_relay : (at : RelayAt) (octets : List ℕ) (note : HopNote) (parts these : List Part) → AreAtRelay told known at octets note parts
        → AreAtRelay told others at octets note these → AreLess parts these
    at_relay at octets note parts these (inl (cause, dropped, is)) (inl (second, also, has)) = unasked_parts at octets parts these is has
    at_relay at octets note parts these (inl (cause, dropped, is)) (inr (inl (asks, has))) = absurd ((one_ask at.six octets).never_both None cause asks dropped)
    at_relay at octets note parts these (inl (cause, dropped, is)) (inr (inr (ask, asks, has))) = absurd ((one_ask at.six octets).never_both (Some ask) cause asks dropped)
    at_relay at octets note parts these (inr (inl (asks, is))) (inl (cause, dropped, has)) = absurd ((one_ask at.six octets).never_both None cause asks dropped)
    at_relay at octets note parts these (inr (inl (asks, is))) (inr (inl (also, has))) = unasked_parts at octets parts these is has
    at_relay at octets note parts these (inr (inl (asks, is))) (inr (inr (ask, also, has))) = absurd (none_some ask ((one_ask at.six octets).taken_once None (Some ask) asks also))
    at_relay at octets note parts these (inr (inr (ask, asks, is))) (inl (cause, dropped, has)) = absurd ((one_ask at.six octets).never_both (Some ask) cause asks dropped)
    at_relay at octets note parts these (inr (inr (ask, asks, is))) (inr (inl (also, has))) = absurd (none_some ask ((one_ask at.six octets).taken_once None (Some ask) also asks))
    at_relay at octets note parts these (inr (inr (ask, asks, is))) (inr (inr (other, also, has))) =
        told_parts at octets other (named_at_relay told.trace note.stripe note.place) parts these
        (subst (λ (a : FragAsk). AreToldParts told known at octets a (named_at_relay told.trace note.stripe note.place) parts)
        (same_ask ask other ((one_ask at.six octets).taken_once (Some ask) (Some other) asks also)) is) has

    at_line : (rec number : ℕ) (way : Way) (line : Option EdgeLine) (octets : List ℕ) (note : HopNote) (parts these : List Part)
        → AreAtLine told known rec (number, way) line octets note parts → AreAtLine told others rec (number, way) line octets note these → AreLess parts these
    at_line rec number way None octets note parts these is has = less_as parts these [] [] is has tt
    at_line rec number way (Some line) octets note parts these is has =
        at_edge (record { number = number; way = way; node = edge_node told.setup rec line }) octets note parts these is has

    pub parts_less : (rec : ℕ) (stand : Stand) (octets : List ℕ) (note : HopNote) (parts these : List Part) → AreAtStand told known rec (at_stand octets stand) note parts
        → AreAtStand told others rec (at_stand octets stand) note these → AreLess parts these
    parts_less rec (Edge number way) octets note parts these is has =
        at_line rec number way (slice_get told.setup.edges number) octets note parts these is has
    parts_less rec (AtRelay six) octets note parts these is has =
        at_relay (record { relay = relay_node told.setup rec note.seen; six = six; stripe = note.stripe }) octets note parts these is has

    pub hop_less : (rec : ℕ) (w : Waiting) (note : Option HopNote) (parts these : List Part) → AreOfHop told known rec w note parts
        → AreOfHop told others rec w note these → AreLess parts these
    hop_less rec w None parts these is has = less_as parts these [] [] is has tt
    hop_less rec w (Some note) parts these is has = parts_less rec w.stand w.octets note parts these is has
