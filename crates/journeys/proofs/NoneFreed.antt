-- One worker's trace frees nothing to an ICMP error: the entry that a hop names is that of its own ask, and only a first fragment frees.
use Rattle.std.proofs.Common.{◌≡◌, refl, sym, ap, ◌∙◌, ℕ, zero, suc, ◌+◌, ◌⊎◌, inl, inr, Bool, true, false, cond, List, [], ◌∷◌, ◌++◌, map, Option, Some, None, subst, arith}
use Rattle.std.specs.Prelude.{slice_get, ◌==◌}
use Rattle.std.proofs.lemmas.Bool.{eqb-true}
use Rattle.octets.specs.declared.parcel.Parcel.{Parcel}
use Rattle.frag_table.specs.declared.ask.FragAsk.{FragAsk}
use Rattle.frag_table.specs.Frag.{freed_by}
use Rattle.nat_model.specs.declared.ask.Ask.{Ask}
use Rattle.nat_model.specs.declared.ask.Part.TheVariants.{First as FirstPart}
use Rattle.nat_model.specs.declared.entry.Entry.{Entry}
use Rattle.nat_model.specs.declared.stripe.StripeEntry.{StripeEntry}
use Rattle.nat_model.specs.Fragment.{part_of}
use Rattle.nat_model.specs.Kind.{IsFirst}
use Rattle.nat_model.specs.State.{Generation}
use Rattle.nat_model.specs.History.{EdgeStart, IsGood}
use Rattle.nat_model.specs.Machine.{nat}
use Rattle.nat_model.specs.Waiting.{freed_of}
use Rattle.nat_model.proofs.ParcelHistory.{edge-waited}
use Rattle.edge_node.specs.declared.way.Way.{Way}
use Rattle.edge_node.specs.declared.way.Way.TheVariants.{Lan, Access, Turned}
use Rattle.edge_node.specs.Asked.{IsAsk}
use Rattle.relay_node.specs.Asked.{AsksFrom}
use Rattle.mapt_setup.specs.declared.script.ScriptItem.{ScriptItem}
use Rattle.mapt_setup.specs.declared.script.ScriptItem.TheVariants.{Rec, Move}
use Rattle.domain_core.specs.declared.journey.HopNote.{HopNote}
use Rattle.domain_core.specs.declared.journey.Journey.{Journey}
use Rattle.domain_core.specs.declared.history.EdgeHistory.{EdgeHistory}
use Rattle.domain_core.specs.declared.history.EdgeNote.{EdgeNote}
use Rattle.domain_core.specs.declared.history.StripeHistory.{StripeHistory}
use Rattle.domain_core.specs.declared.trace.TraceItem.{TraceItem}
use Rattle.journeys.specs.declared.stand.Stand.{Stand}
use Rattle.journeys.specs.declared.stand.Stand.TheVariants.{Edge, Relay}
use Rattle.journeys.specs.Waiting.{Waiting}
use Rattle.journeys.specs.Answers.{and_then, journey_of, named_at_edge, named_at_relay}
use Rattle.journeys.specs.Derived.{Told, Packet, packets_of}
use Rattle.journeys.specs.OneThread.{place_alone, edge_start, edge_note, generations, HopMade, hops_from, all_hops, AreItems, AreEdgeEntries, AddsAtEdge, AreStripeEntries, AddsAtStripe, IsOneThread}
use Rattle.journeys.specs.Rank.{is_fault4, is_fault6}
use Rattle.journeys.specs.Walk.{Step}
use Rattle.journeys.specs.Came.{AreJourneys}
use Rattle.journeys.specs.Depth.{is_fault_at, FreesNone, FreeNoneToErrors}
use Rattle.journeys.proofs.RunLists.{get_map, get_written}
use Rattle.journeys.proofs.RunAtEdge.{parcels_alone}
use Rattle.journeys.proofs.Whole.{edge_frees_none, relay_frees_none}
use Rattle.journeys.proofs.JourneysOnce.{same_packets}

-- ---- the hops of a trace

-- one of these hops took this packet, and has this note
abbrev Takes : Waiting → HopNote → List HopMade → Type 0
Takes w note [] = ⊥
Takes w note (made ∷ hops) = ((made.taken ≡ w) × (made.note ≡ note)) ⊎ Takes w note hops

takes_front : (w : Waiting) (note : HopNote) (xs ys : List HopMade) → Takes w note xs → Takes w note (xs ++ ys)
takes_front w note [] ys takes = absurd takes
takes_front w note (x ∷ xs) ys (inl here) = inl here
takes_front w note (x ∷ xs) ys (inr later) = inr (takes_front w note xs ys later)

takes_behind : (w : Waiting) (note : HopNote) (xs ys : List HopMade) → Takes w note ys → Takes w note (xs ++ ys)
takes_behind w note [] ys takes = takes
takes_behind w note (x ∷ xs) ys takes = inr (takes_behind w note xs ys takes)

hops_take : (w : Waiting) (note : HopNote) (rec time hop k : ℕ) (ws : List Waiting) (notes : List HopNote)
    → slice_get ws k ≡ Some w → slice_get notes k ≡ Some note → Takes w note (hops_from rec time hop ws notes)
hops_take w note rec time hop k [] notes packet noted = absurd (cc)
hops_take w note rec time hop k (x ∷ ws) [] packet noted = absurd (cc)
hops_take w note rec time hop zero (x ∷ ws) (n ∷ notes) packet noted = inl (cc, cc)
hops_take w note rec time hop (suc k) (x ∷ ws) (n ∷ notes) packet noted = inr (hops_take w note rec time (suc hop) k ws notes packet noted)

module _ (packets : List Packet) (w : Waiting) (note : HopNote) (n k : ℕ) (packet : slice_get (packets_of n packets) k ≡ Some w) where
  -- its note stands in the journey of its record
  abbrev Noted : Option Journey → Type 0
  Noted journey = and_then journey (λ (j : Journey). slice_get j.hops k) ≡ Some note

  all_take : (rec changes : ℕ) (script : List ScriptItem) (items : List TraceItem) → AreItems packets rec changes script items → Noted (journey_of n items)
      → Takes w note (all_hops packets rec script items)
  all_take rec changes [] items none noted = absurd (some_none (sym (ap (λ (is : List TraceItem). and_then (journey_of n is) (λ (j : Journey). slice_get j.hops k)) none) ∙ noted))
    where
      some_none : ◌≡◌ {A = Option HopNote} None (Some note) → ⊥
      some_none e = cc
  all_take rec changes (Rec side time bytes ∷ script) items (journey, others, is_rec, worker, notes, rest, is) noted =
      subst (λ (i : List TraceItem). Takes w note (all_hops packets rec (Rec side time bytes ∷ script) i)) (sym is)
      (by (λ later. all_take (suc rec) changes script others rest later) (journey.rec == n) refl (subst (λ (i : List TraceItem). Noted (journey_of n i)) is noted))
    where
      by : (Noted (journey_of n others) → Takes w note (all_hops packets (suc rec) script others)) → (b : Bool) → (journey.rec == n) ≡ b
          → Noted (cond b (Some journey) (journey_of n others))
          → Takes w note (hops_from rec time 0 (packets_of rec packets) journey.hops ++ all_hops packets (suc rec) script others)
      by so true same here =
          takes_front w note (hops_from rec time 0 (packets_of rec packets) journey.hops) (all_hops packets (suc rec) script others)
          (hops_take w note rec time 0 k (packets_of rec packets) journey.hops
          (subst (λ (m : ℕ). slice_get (packets_of m packets) k ≡ Some w) (sym (eqb-true journey.rec n same) ∙ is_rec) packet) here)
      by so false differ later =
          takes_behind w note (hops_from rec time 0 (packets_of rec packets) journey.hops) (all_hops packets (suc rec) script others) (so later)
  all_take rec changes (Move number true ∷ script) items (others, rest, is) noted =
      subst (λ (i : List TraceItem). Takes w note (all_hops packets rec (Move number true ∷ script) i)) (sym is)
      (all_take rec (suc changes) script others rest (subst (λ (i : List TraceItem). Noted (journey_of n i)) is noted))
  all_take rec changes (Move number false ∷ script) items (others, rest, is) noted =
      subst (λ (i : List TraceItem). Takes w note (all_hops packets rec (Move number false ∷ script) i)) (sym is)
      (all_take rec (suc changes) script others rest (subst (λ (i : List TraceItem). Noted (journey_of n i)) is noted))

-- ---- at an edge

-- the entry at the place that a hop names is that of its ask; this place is counted from another on
abbrev IsAskedIn : Way → List ℕ → ℕ → ℕ → List Entry → Type 0
IsAskedIn way octets place k entries =
    (j : ℕ) × (k ≡ place + j) × ((entry : Entry) × (slice_get entries j ≡ Some entry) × IsAsk way octets entry.ask)

no_edge : (six : Bool) (number : ℕ) (way : Way) → Relay six ≡ Edge number way → ⊥
no_edge six number way e = cc

same_edge : (n m : ℕ) (way other : Way) → Edge n way ≡ Edge m other → (n ≡ m) × (way ≡ other)
same_edge n m way other e = (cc, cc)

no_place : (k : ℕ) → ◌≡◌ {A = Option ℕ} None (Some k) → ⊥
no_place k e = cc

same_place : (k j : ℕ) → ◌≡◌ {A = Option ℕ} (Some k) (Some j) → k ≡ j
same_place k j e = cc

module _ (number : ℕ) (way : Way) (w : Waiting) (note : HopNote) (k : ℕ) (at_edge : w.stand ≡ Edge number way) (at_place : note.place ≡ Some k) where
  edge_asks : (place : ℕ) (hops : List HopMade) (entries : List Entry) → AreEdgeEntries number place hops entries → Takes w note hops → IsAskedIn way w.octets place k entries
  edge_asks place [] entries are takes = absurd takes
  edge_asks place (made ∷ hops) entries are takes = by (λ n es these later. edge_asks n hops es these later) made.taken.stand refl are takes
    where
      place_is : (p : Option ℕ) → made.note.place ≡ p → made.note ≡ note → p ≡ Some k
      place_is p here same = sym here ∙ ap (λ (n : HopNote). n.place) same ∙ at_place

      by : ((n : ℕ) (es : List Entry) → AreEdgeEntries number n hops es → Takes w note hops → IsAskedIn way w.octets n k es) → (stand : Stand) → made.taken.stand ≡ stand
          → AddsAtEdge number place made (AreEdgeEntries number place hops) (AreEdgeEntries number (suc place) hops) stand entries → Takes w note (made ∷ hops)
          → IsAskedIn way w.octets place k entries
      by so (Relay six) here from (inl (same, noted)) = absurd (no_edge six number way (sym here ∙ ap (λ (v : Waiting). v.stand) same ∙ at_edge))
      by so (Relay six) here from (inr later) = so place entries from later
      by so (Edge other way_there) here (inl (differ, from)) (inl (same, noted)) =
          absurd (differ (same_edge other number way_there way (sym here ∙ ap (λ (v : Waiting). v.stand) same ∙ at_edge)).0)
      by so (Edge other way_there) here (inl (differ, from)) (inr later) = so place entries from later
      by so (Edge other way_there) here (inr (inl (equal, unasked, from))) (inl (same, noted)) = absurd (no_place k (place_is None unasked.1 noted))
      by so (Edge other way_there) here (inr (inl (equal, unasked, from))) (inr later) = so place entries from later
      by so (Edge other way_there) here (inr (inr (equal, (others, behind, asked)))) (inl (same, noted)) =
          let ask = asked.2.0 in
          let entry = asked.2.1 in
          let of_way = (same_edge other number way_there way (sym here ∙ ap (λ (v : Waiting). v.stand) same ∙ at_edge)).1 in (
            0,
            sym (same_place place k (place_is (Some place) asked.1 noted)) ∙ zero_more place,
            (
              entry,
              ap (λ (es : List Entry). slice_get es 0) asked.2.4,
              subst (λ (a : Ask). IsAsk way w.octets a) (sym asked.2.3.asked)
                  (subst (λ (v : Waiting). IsAsk way v.octets ask) same (subst (λ (x : Way). IsAsk x made.taken.octets ask) of_way asked.2.2)),
            ),
          )
        where
          zero_more : (n : ℕ) → n ≡ n + 0
          zero_more n = omega arith
      by so (Edge other way_there) here (inr (inr (equal, (others, behind, asked)))) (inr later) =
          let rest = so (suc place) others behind later in
          (suc rest.0, omega (arith, rest.1), (rest.2.0, ap (λ (es : List Entry). slice_get es (suc rest.0)) asked.2.4 ∙ rest.2.1, rest.2.2))

some_entry : (x y : Entry) → ◌≡◌ {A = Option Entry} (Some x) (Some y) → x ≡ y
some_entry x y e = cc

-- one that frees something is about a first fragment
first_frees : (start : EdgeStart) (books : List Generation) (entries : List Entry) (k : ℕ) (entry : Entry) → IsGood nat start books entries → slice_get entries k ≡ Some entry
    → (parcels : List Parcel) → freed_of entry.answer ≡ parcels → (freed_of entry.answer ≡ [] → ⊥) → IsFirst (part_of entry.ask)
first_frees start books entries k entry good here [] freed some = absurd (some freed)
first_frees start books entries k entry good here (p ∷ parcels) freed some =
    let waited = edge-waited start books entries k 0 p good (record { entry = entry; at = here; parcel = ap (λ (ps : List Parcel). slice_get ps 0) freed }) in
    let same : waited.first ≡ entry = some_entry waited.first entry (sym waited.at ∙ here) in
    let part : part_of entry.ask ≡ FirstPart waited.key = ap (λ (e : Entry). part_of e.ask) (sym same) ∙ waited.frees in
    subst IsFirst (sym part) tt

-- ---- at the relay: an ICMP error asks nothing

no_relay : (six : Bool) (number : ℕ) (way : Way) → Edge number way ≡ Relay six → ⊥
no_relay six number way e = cc

same_relay : (six other : Bool) → Relay six ≡ Relay other → six ≡ other
same_relay six other e = cc

module _ (six : Bool) (w : Waiting) (note : HopNote) (stripe : ℕ) (at_relay : w.stand ≡ Relay six) (at_stripe : note.stripe ≡ Some stripe) where
  relay_asks : (number place : ℕ) (hops : List HopMade) (entries : List StripeEntry) → AreStripeEntries number place hops entries → Takes w note hops
      → (ask : FragAsk) × AsksFrom six w.octets (Some ask)
  relay_asks number place [] entries are takes = absurd takes
  relay_asks number place (made ∷ hops) entries are takes = by (λ n es these later. relay_asks number n hops es these later) made.taken.stand refl are takes
    where
      by : ((n : ℕ) (es : List StripeEntry) → AreStripeEntries number n hops es → Takes w note hops → (ask : FragAsk) × AsksFrom six w.octets (Some ask))
          → (stand : Stand) → made.taken.stand ≡ stand
          → AddsAtStripe number place made (AreStripeEntries number place hops) (AreStripeEntries number (suc place) hops) stand entries → Takes w note (made ∷ hops)
          → (ask : FragAsk) × AsksFrom six w.octets (Some ask)
      by so (Edge other way) here from (inl (same, noted)) = absurd (no_relay six other way (sym here ∙ ap (λ (v : Waiting). v.stand) same ∙ at_relay))
      by so (Edge other way) here from (inr later) = so place entries from later
      by so (Relay other) here (inl (nothing, no_stripe, no_place, from)) (inl (same, noted)) =
          absurd (none_at stripe (sym no_stripe ∙ ap (λ (n : HopNote). n.stripe) noted ∙ at_stripe))
        where
          none_at : (k : ℕ) → ◌≡◌ {A = Option ℕ} None (Some k) → ⊥
          none_at k e = cc
      by so (Relay other) here (inl (nothing, no_stripe, no_place, from)) (inr later) = so place entries from later
      by so (Relay other) here (inr (ask, asks, stripe_is, adds)) (inl (same, noted)) = (
        ask,
        subst (λ (v : Waiting). AsksFrom six v.octets (Some ask)) same
            (subst (λ (x : Bool). AsksFrom x made.taken.octets (Some ask)) (same_relay other six (sym here ∙ ap (λ (v : Waiting). v.stand) same ∙ at_relay)) asks),
      )
      by so (Relay other) here (inr (ask, asks, stripe_is, inl (differ, from))) (inr later) = so place entries from later
      by so (Relay other) here (inr (ask, asks, stripe_is, inr (equal, (others, behind, asked)))) (inr later) = so (suc place) others behind later

-- ---- a hop

module _ (told : Told) (one : IsOneThread told) (w : Waiting) (note : HopNote)
    (takes : Takes w note (all_hops one.packets 0 told.script told.trace.items))
  where
    -- an ICMP error from the access network
    access_frees_none : (number : ℕ) → w.stand ≡ Edge number Access → is_fault6 w.octets ≡ true → FreesNone told.trace (Edge number Access) note
    access_frees_none number stands fault e named = by note.stripe note.place refl named
      where
        in_history : (k : ℕ) (h : EdgeHistory) → note.place ≡ Some k → slice_get told.trace.edges number ≡ Some h → slice_get h.notes k ≡ Some e → freed_of e.answer ≡ []
        in_history k h at_place there written =
            let history = one.edges number h.notes (get_map (λ (x : EdgeHistory). x.notes) told.trace.edges number h there) in
            let got = get_written edge_note history.entries k e (ap (λ (ns : List EdgeNote). slice_get ns k) (sym history.written) ∙ written) in
            let asked = edge_asks number Access w note k stands at_place 0 (all_hops one.packets 0 told.script told.trace.items) history.entries history.asked takes in
            let place : asked.0 ≡ k = omega (arith, asked.1) in
            let same : asked.2.0 ≡ got.0 =
            some_entry asked.2.0 got.0 (sym asked.2.1 ∙ ap (λ (j : ℕ). slice_get history.entries j) place ∙ got.1) in
            let asks : IsAsk Access w.octets got.0.ask = subst (λ (x : Entry). IsAsk Access w.octets x.ask) same asked.2.2 in
            let none : freed_of got.0.answer ≡ [] =
            edge_frees_none w.octets got.0.ask got.0.answer asks (λ some. first_frees (edge_start told.setup number history.line) (generations told.setup) history.entries k got.0 history.good got.1 (freed_of got.0.answer) refl some)
            fault in
            ap (λ (x : EdgeNote). freed_of x.answer) got.2 ∙ parcels_alone got.0.answer ∙ ap (map place_alone) none

        by : (stripe place : Option ℕ) → note.place ≡ place → named_at_edge told.trace number stripe place ≡ Some e → freed_of e.answer ≡ []
        by (Some stripe) place at_place is = absurd (cc)
        by None None at_place is = absurd (cc)
        by None (Some k) at_place is = there (slice_get told.trace.edges number) refl is
          where
            there : (h : Option EdgeHistory) → slice_get told.trace.edges number ≡ h → and_then h (λ (x : EdgeHistory). slice_get x.notes k) ≡ Some e → freed_of e.answer ≡ []
            there None at e_is = absurd (cc)
            there (Some h) at e_is = in_history k h at_place at e_is

    -- one at the relay
    relay_frees : (six : Bool) → w.stand ≡ Relay six → cond six (is_fault6 w.octets) (is_fault4 w.octets) ≡ true → FreesNone told.trace (Relay six) note
    relay_frees six stands fault e named = by note.stripe note.place refl named
      where
        in_history : (stripe : ℕ) (h : StripeHistory) → note.stripe ≡ Some stripe → slice_get told.trace.stripes stripe ≡ Some h → freed_by e.answer ≡ []
        in_history stripe h at_stripe there =
            let history = one.stripes_are stripe h.notes (get_map (λ (x : StripeHistory). x.notes) told.trace.stripes stripe h there) in
            let asked = relay_asks six w note stripe stands at_stripe stripe 0 (all_hops one.packets 0 told.script told.trace.items) history.entries history.asked takes in
            relay_frees_none six w.octets asked.0 e.answer asked.1 fault

        by : (stripe place : Option ℕ) → note.stripe ≡ stripe → named_at_relay told.trace stripe place ≡ Some e → freed_by e.answer ≡ []
        by None place at_stripe is = absurd (cc)
        by (Some stripe) None at_stripe is = absurd (cc)
        by (Some stripe) (Some place) at_stripe is = there (slice_get told.trace.stripes stripe) refl is
          where
            there : (h : Option StripeHistory) → slice_get told.trace.stripes stripe ≡ h → and_then h (λ (x : StripeHistory). slice_get x.notes place) ≡ Some e → freed_by e.answer ≡ []
            there None at e_is = absurd (cc)
            there (Some h) at e_is = in_history stripe h at_stripe at

    hop_frees_none : (stand : Stand) → w.stand ≡ stand → is_fault_at stand w.octets ≡ true → FreesNone told.trace stand note
    hop_frees_none (Edge number Lan) stands fault = absurd (cc)
    hop_frees_none (Edge number Access) stands fault = access_frees_none number stands fault
    hop_frees_none (Edge number Turned) stands fault = absurd (cc)
    hop_frees_none (Relay true) stands fault = relay_frees true stands fault
    hop_frees_none (Relay false) stands fault = relay_frees false stands fault

-- of the journeys of its trace, whose packets are those of any derivation
pub none_freed : (told : Told) (journeys : List (List Step)) → IsOneThread told → AreJourneys told journeys → FreeNoneToErrors told.trace journeys
none_freed told journeys one (packets, are) rec hop step (steps, there, at) fault =
    let is = (are.each rec steps there).each hop step at in
    let same : packets_of rec packets ≡ packets_of rec one.packets = same_packets told packets one.packets are.derived one.derived are.whole one.whole rec in
    let packet : slice_get (packets_of rec one.packets) step.hop ≡ Some step.taken =
    subst (λ (ws : List Waiting). slice_get ws step.hop ≡ Some step.taken) same is.takes in
    hop_frees_none told one step.taken step.note
    (all_take one.packets step.taken step.note rec step.hop packet 0 0 told.script told.trace.items one.items is.noted)
    step.taken.stand refl fault
