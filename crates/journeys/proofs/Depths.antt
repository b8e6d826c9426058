-- What a hop of a trace sends goes less far than its packet, part by part; so no chain of hops has more than seven.
use Rattle.std.proofs.Common.{◌≡◌, refl, sym, ◌∙◌, ℕ, ◌<◌, ◌≤◌, inl, inr, Bool, true, false, cond, List, [], ◌∷◌, length, Option, Some, None, subst, arith, lit<}
use Rattle.std.specs.Prelude.{slice_get}
use Rattle.std.specs.Option.{option_map}
use Rattle.octets.specs.declared.parcel.Parcel.{Parcel}
use Rattle.frag_table.specs.declared.answer.FragAnswer.{FragAnswer}
use Rattle.frag_table.specs.declared.answer.FragAnswer.TheVariants.{Noted, Known, Held, Released, Full}
use Rattle.frag_table.specs.Frag.{freed_by}
use Rattle.nat_model.specs.declared.answer.Answer.{Answer}
use Rattle.nat_model.specs.declared.answer.Answer.TheVariants.{Refused}
use Rattle.nat_model.specs.declared.entry.Who.{Who}
use Rattle.nat_model.specs.Waiting.{freed_of}
use Rattle.hops.specs.declared.hop.Hop.{Hop}
use Rattle.hops.specs.declared.hop.Out.{Out}
use Rattle.hops.specs.Hop.{nothing, then}
use Rattle.edge_node.specs.declared.way.Way.{Way}
use Rattle.edge_node.specs.declared.way.Way.TheVariants.{Lan, Access, Turned}
use Rattle.setup_tables.specs.declared.edge.EdgeLine.{EdgeLine}
use Rattle.mapt_setup.specs.declared.setup.Setup.{Setup}
use Rattle.mapt_setup.specs.Valid.{IsValidSetup}
use Rattle.domain_core.specs.declared.journey.HopNote.{HopNote}
use Rattle.domain_core.specs.declared.history.EdgeNote.{EdgeNote}
use Rattle.domain_core.specs.declared.history.StripeNote.{StripeNote}
use Rattle.journeys.specs.declared.stand.Stand.{Stand}
use Rattle.journeys.specs.declared.stand.Stand.TheVariants.{Edge, Relay}
use Rattle.journeys.specs.Waiting.{Waiting, at_stand}
use Rattle.journeys.specs.Answers.{named_at_edge, named_at_relay}
use Rattle.journeys.specs.Derived.{Told, Packet, packets_of, edge_node, relay_node, Part, made, untold, Freeing, IsPartOf, IsFreedPart, AreFreedParts, EdgeAt, freeing_edge, who_at_edge, AreEdgeParts, AreEntryParts, AreAtEdge, RelayAt, freeing_relay, who_at_relay, own_answer, AreUnasked, AreStripeParts, AreToldParts, AreAtRelay, AreAtLine, AreAtStand, alone}
use Rattle.journeys.specs.Rank.{is_fault4, is_fault6, rank_at, rank, SendsLess}
use Rattle.journeys.specs.Walk.{Step}
use Rattle.journeys.specs.Came.{came_to, IsToldHop, AreJourneys}
use Rattle.journeys.specs.Depth.{HasBooks, is_fault_at, FreesNone, FreesNoneToError, IsHopOf, FreeNoneToErrors, IsChain}
use Rattle.journeys.proofs.Outs.{Each, each_both, each_is}
use Rattle.journeys.proofs.Ranks.{Falls, own_sends, freed_sends, relay_sends, relay_freed_sends, sends_less}
use Rattle.journeys.proofs.Generations.{is_book}

-- ---- what holds of all that parts send

abbrev IsPart : (Out → Type 0) → Part → Type 0
IsPart P (made hop) = Each P hop.outs
IsPart P untold = Unit {0}

abbrev EachPart : (Out → Type 0) → List Part → Type 0
EachPart P [] = Unit {0}
EachPart P (part ∷ parts) = IsPart P part × EachPart P parts

some_hop : (x y : Hop) → ◌≡◌ {A = Option Hop} (Some x) (Some y) → x ≡ y
some_hop x y e = cc

-- so it holds of what they came to
came_each : (P : Out → Type 0) (parts : List Part) (hop : Hop) → came_to parts ≡ Some hop → EachPart P parts → Each P hop.outs
came_each P [] hop is each = each_is P hop nothing (sym (some_hop nothing hop is)) tt
came_each P (untold ∷ parts) hop is each = absurd (cc)
came_each P (made own ∷ parts) hop is each = by (λ others rest. came_each P parts others rest each.1) (came_to parts) refl is
  where
    by : ((others : Hop) → came_to parts ≡ Some others → Each P others.outs) → (others : Option Hop) → came_to parts ≡ others → option_map (then own) others ≡ Some hop → Each P hop.outs
    by so None rest e = absurd (cc)
    by so (Some others) rest e =
        each_is P hop (then own others) (sym (some_hop (then own others) hop e))
        (each_both P own.outs others.outs each.0 (so others rest))

each_none : (P : Out → Type 0) (parts : List Part) → parts ≡ [] → EachPart P parts
each_none P parts is = subst (EachPart P) (sym is) tt

each_one : (P : Out → Type 0) (hop : Hop) (parts : List Part) → parts ≡ made hop ∷ [] → Each P hop.outs → EachPart P parts
each_one P hop parts is each = subst (EachPart P) (sym is) (each, tt)

-- a part that passes over its parcel, or doesn't know it
part_over : (P : Out → Type 0) (part : Part) → part ≡ made nothing → IsPart P part
part_over P part is = subst (IsPart P) (sym is) tt

part_untold : (P : Out → Type 0) (part : Part) → part ≡ untold → IsPart P part
part_untold P part is = subst (IsPart P) (sym is) tt

-- what is freed, one parcel after the other
module _ (P : Out → Type 0) (told : Told) (known : List Packet) (freeing : Freeing)
    (so : (octets : List ℕ) (hop : Hop) → freeing.Becomes octets hop → Each P hop.outs)
  where
    part_of_it : (who : Who) (w : Option Waiting) (part : Part) → IsPartOf freeing who w part → IsPart P part
    part_of_it who None part is = part_untold P part is
    part_of_it who (Some w) part (inl (elsewhere, is)) = part_over P part is
    part_of_it who (Some w) part (inr (waited, (hop, becomes, is))) = subst (IsPart P) (sym is) (so w.octets hop becomes)

    freed_part : (who : Option Who) (part : Part) → IsFreedPart told known freeing who part → IsPart P part
    freed_part None part is = part_over P part is
    freed_part (Some who) part (inl (isnt, is)) = part_over P part is
    freed_part (Some who) part (inr (there, is)) = part_of_it who (slice_get (packets_of who.rec known) who.hop) part is

    each_freed_part : (who_at : ℕ → Option Who) (parcels : List Parcel) (parts : List Part)
        → AreFreedParts (λ place part. IsFreedPart told known freeing (who_at place) part) parcels parts → EachPart P parts
    each_freed_part who_at [] parts are = each_none P parts are
    each_freed_part who_at (parcel ∷ parcels) parts (one, others, is, rest, both) =
        subst (EachPart P) (sym both) (freed_part (who_at parcel.place) one is, each_freed_part who_at parcels others rest)

-- nothing is freed where there is a parcel that isn't
some_none : (parcel : Parcel) (parcels freed : List Parcel) → freed ≡ parcel ∷ parcels → freed ≡ [] → ⊥
some_none parcel parcels freed is none = cons_none (sym is ∙ none)
  where
    cons_none : parcel ∷ parcels ≡ [] → ⊥
    cons_none x = absurd (cc)

-- ---- at an edge

module _ (told : Told) (known : List Packet) (at : EdgeAt) (octets : List ℕ) where
  abbrev EdgeFalls : Out → Type 0
  EdgeFalls = Falls told.setup (Edge at.number at.way) (rank_at (Edge at.number at.way) octets)

  edge_parts : (answer : Answer) (parts : List Part) → (at.way ≡ Access → is_fault6 octets ≡ true → freed_of answer ≡ [])
      → AreEdgeParts told known at octets answer parts → EachPart EdgeFalls parts
  edge_parts answer parts frees (own, freed, own_is, are, is) =
      subst (EachPart EdgeFalls) (sym is) (own_sends told.setup at.node at.number at.way answer octets own own_is, by (freed_of answer) refl are)
    where
      by : (parcels : List Parcel) → freed_of answer ≡ parcels
          → AreFreedParts (λ place part. IsFreedPart told known (freeing_edge at answer) (who_at_edge told.trace at.number place) part) parcels freed
          → EachPart EdgeFalls freed
      by [] e none = each_none EdgeFalls freed none
      by (parcel ∷ parcels) e each =
          each_freed_part EdgeFalls told known (freeing_edge at answer)
          (λ xs hop becomes. freed_sends told.setup at.node at.number at.way answer octets (alone xs) hop
          (λ access fault. absurd (some_none parcel parcels (freed_of answer) e (frees access fault))) becomes)
          (who_at_edge told.trace at.number) (parcel ∷ parcels) freed each

  entry_parts : (entry : Option EdgeNote) (parts : List Part)
      → ((e : EdgeNote) → entry ≡ Some e → at.way ≡ Access → is_fault6 octets ≡ true → freed_of e.answer ≡ [])
      → AreEntryParts told known at octets entry parts → EachPart EdgeFalls parts
  entry_parts None parts frees none = each_none EdgeFalls parts none
  entry_parts (Some entry) parts frees (inl (isnt, none)) = each_none EdgeFalls parts none
  entry_parts (Some entry) parts frees (inr (kind, are)) = edge_parts entry.answer parts (frees entry refl) are

  at_edge : (note : HopNote) (parts : List Part) → (at.way ≡ Access → is_fault6 octets ≡ true → FreesNone told.trace (Edge at.number at.way) note)
      → AreAtEdge told known at octets note parts → EachPart EdgeFalls parts
  at_edge note parts frees (inl (cause, dropped, are)) = edge_parts (Refused cause []) parts (λ access fault. refl) are
  at_edge note parts frees (inr (taken, are)) =
      entry_parts (named_at_edge told.trace at.number note.stripe note.place) parts (λ e named access fault. frees access fault e named) are

-- ---- at the relay

own_frees_none : (answer : FragAnswer) → freed_by (own_answer answer) ≡ []
own_frees_none Noted = refl
own_frees_none (Known ports) = refl
own_frees_none Held = refl
own_frees_none (Released parcels) = refl
own_frees_none Full = refl

module _ (told : Told) (known : List Packet) (rec seen : ℕ) (valid : IsValidSetup told.setup) (books : HasBooks told.setup) (six : Bool) (stripe : Option ℕ) (octets : List ℕ) where
  abbrev here : RelayAt
  here = record { relay = relay_node told.setup rec seen; six = six; stripe = stripe }

  abbrev RelayFalls : Out → Type 0
  RelayFalls = Falls told.setup (Relay six) (rank_at (Relay six) octets)

  unasked_parts : (parts : List Part) → AreUnasked here octets parts → EachPart RelayFalls parts
  unasked_parts parts (hop, sends, is) =
      each_one RelayFalls hop parts is
      (relay_sends told.setup (relay_node told.setup rec seen) six octets None hop refl (is_book told.setup rec seen valid books) (λ fault. refl) sends)

  stripe_parts : (answer : FragAnswer) (parts : List Part) → (cond six (is_fault6 octets) (is_fault4 octets) ≡ true → freed_by answer ≡ [])
      → AreStripeParts told known here octets answer parts → EachPart RelayFalls parts
  stripe_parts answer parts frees (ports, has, (own, freed, own_is, are, is)) =
      subst (EachPart RelayFalls) (sym is) (
        relay_sends told.setup (relay_node told.setup rec seen) six octets (Some (own_answer answer)) own refl (is_book told.setup rec seen valid books)
            (λ fault. own_frees_none answer) own_is,
        by (freed_by answer) refl are,
      )
    where
      by : (parcels : List Parcel) → freed_by answer ≡ parcels
          → AreFreedParts (λ place part. IsFreedPart told known (freeing_relay told.trace here ports) (who_at_relay told.trace stripe place) part) parcels freed
          → EachPart RelayFalls freed
      by [] e none = each_none RelayFalls freed none
      by (parcel ∷ parcels) e each =
          each_freed_part RelayFalls told known (freeing_relay told.trace here ports)
          (λ xs hop becomes. relay_freed_sends told.setup (relay_node told.setup rec seen) six octets ports (alone xs) hop refl (is_book told.setup rec seen valid books)
          (λ fault. absurd (some_none parcel parcels (freed_by answer) e (frees fault))) becomes)
          (who_at_relay told.trace stripe) (parcel ∷ parcels) freed each

  at_relay : (note : HopNote) (parts : List Part) → (cond six (is_fault6 octets) (is_fault4 octets) ≡ true → FreesNone told.trace (Relay six) note)
      → AreAtRelay told known here octets note parts → EachPart RelayFalls parts
  at_relay note parts frees (inl (cause, dropped, are)) = unasked_parts parts are
  at_relay note parts frees (inr (inl (asks, are))) = unasked_parts parts are
  at_relay note parts frees (inr (inr (ask, asks, are))) = by (named_at_relay told.trace note.stripe note.place) refl are
    where
      by : (entry : Option StripeNote) → named_at_relay told.trace note.stripe note.place ≡ entry → AreToldParts told known here octets ask entry parts
          → EachPart RelayFalls parts
      by None e none = each_none RelayFalls parts none
      by (Some entry) e (inl (isnt, none)) = each_none RelayFalls parts none
      by (Some entry) e (inr (kind, parts_are)) = stripe_parts entry.answer parts (λ fault. frees fault entry e) parts_are

-- ---- where it stands

at_line : (told : Told) (known : List Packet) (rec number : ℕ) (way : Way) (line : Option EdgeLine) (octets : List ℕ) (note : HopNote) (parts : List Part)
    → (is_fault_at (Edge number way) octets ≡ true → FreesNone told.trace (Edge number way) note) → AreAtLine told known rec (number, way) line octets note parts
    → EachPart (Falls told.setup (Edge number way) (rank_at (Edge number way) octets)) parts
at_line told known rec number way None octets note parts frees none = each_none (Falls told.setup (Edge number way) (rank_at (Edge number way) octets)) parts none
at_line told known rec number way (Some line) octets note parts frees are =
    at_edge told known (record { number = number; way = way; node = edge_node told.setup rec line }) octets note parts
    (λ access fault. frees (by way access fault)) are
  where
    by : (way : Way) → way ≡ Access → is_fault6 octets ≡ true → is_fault_at (Edge number way) octets ≡ true
    by Lan access fault = absurd (cc)
    by Access access fault = fault
    by Turned access fault = absurd (cc)

parts_fall : (told : Told) (known : List Packet) (rec : ℕ) (stand : Stand) (octets : List ℕ) (note : HopNote) (parts : List Part) → IsValidSetup told.setup → HasBooks told.setup
    → (is_fault_at stand octets ≡ true → FreesNone told.trace stand note) → AreAtStand told known rec (at_stand octets stand) note parts
    → EachPart (Falls told.setup stand (rank_at stand octets)) parts
parts_fall told known rec (Edge number way) octets note parts valid books frees are =
    at_line told known rec number way (slice_get told.setup.edges number) octets note parts frees are
parts_fall told known rec (Relay true) octets note parts valid books frees are =
    at_relay told known rec note.seen valid books true note.stripe octets note parts frees are
parts_fall told known rec (Relay false) octets note parts valid books frees are =
    at_relay told known rec note.seen valid books false note.stripe octets note parts frees are

hop_sends_less : (told : Told) (known : List Packet) (rec : ℕ) (step : Step) → IsValidSetup told.setup → HasBooks told.setup → FreesNoneToError told.trace step
    → IsToldHop told known rec step → SendsLess told.setup step.taken step.came
hop_sends_less told known rec step valid books frees is =
    sends_less told.setup step.taken step.came
    (came_each (Falls told.setup step.taken.stand (rank step.taken)) is.parts step.came is.comes
    (parts_fall told known rec step.taken.stand step.taken.octets step.note is.parts valid books frees is.makes))

pub each_sends_less : (told : Told) (journeys : List (List Step)) (rec hop : ℕ) (step : Step) → IsValidSetup told.setup → HasBooks told.setup → AreJourneys told journeys
    → FreeNoneToErrors told.trace journeys → IsHopOf journeys rec hop step → SendsLess told.setup step.taken step.came
each_sends_less told journeys rec hop step valid books (packets, are) frees (steps, there, at) =
    hop_sends_less told packets rec step valid books (frees rec hop step (steps, there, at)) ((are.each rec steps there).each hop step at)

-- ---- chains

rank_over : (stand : Stand) (octets : List ℕ) → 0 < rank_at stand octets
rank_over (Edge number Lan) octets = lit< tt
rank_over (Edge number Access) octets = by (is_fault6 octets)
  where
    by : (b : Bool) → 0 < cond b 1 4
    by true = lit< tt
    by false = lit< tt
rank_over (Edge number Turned) octets = lit< tt
rank_over (Relay true) octets = by (is_fault6 octets)
  where
    by : (b : Bool) → 0 < cond b 3 6
    by true = lit< tt
    by false = lit< tt
rank_over (Relay false) octets = by (is_fault4 octets)
  where
    by : (b : Bool) → 0 < cond b 2 5
    by true = lit< tt
    by false = lit< tt

rank_under : (stand : Stand) (octets : List ℕ) → rank_at stand octets < 8
rank_under (Edge number Lan) octets = lit< tt
rank_under (Edge number Access) octets = by (is_fault6 octets)
  where
    by : (b : Bool) → cond b 1 4 < 8
    by true = lit< tt
    by false = lit< tt
rank_under (Edge number Turned) octets = lit< tt
rank_under (Relay true) octets = by (is_fault6 octets)
  where
    by : (b : Bool) → cond b 3 6 < 8
    by true = lit< tt
    by false = lit< tt
rank_under (Relay false) octets = by (is_fault4 octets)
  where
    by : (b : Bool) → cond b 2 5 < 8
    by true = lit< tt
    by false = lit< tt

module _ (setup : Setup) (journeys : List (List Step)) (rec : ℕ)
    (less : (hop : ℕ) (step : Step) → IsHopOf journeys rec hop step → SendsLess setup step.taken step.came)
  where
    -- a chain has no more hops than the rank of its first packet says
    chain_low : (step : Step) (chain : List Step) → IsChain setup journeys rec (step ∷ chain) → length (step ∷ chain) ≤ rank step.taken
    chain_low step [] is = omega (arith, rank_over step.taken.stand step.taken.octets)
    chain_low step (next ∷ chain) (there, on, rest) =
        let falls : rank next.taken < rank step.taken = less there.0 step there.1 on.0 on.1 next.taken on.2 on.3 in
        omega (arith, falls, chain_low next chain rest)

    pub chain_short : (chain : List Step) → IsChain setup journeys rec chain → length chain ≤ 7
    chain_short [] is = omega arith
    chain_short (step ∷ chain) is = omega (arith, chain_low step chain is, rank_under step.taken.stand step.taken.octets)
