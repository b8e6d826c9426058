-- At the relay: the parts of a hop as they are derived from its entry in the trace, which has no octets of parcels.
use Rattle.std.proofs.Common.{◌≡◌, refl, sym, ap, ◌∙◌, ℕ, ◌<◌, ◌⊎◌, inl, inr, Bool, List, [], ◌∷◌, map, Option, Some, None, subst}
use Rattle.std.specs.Prelude.{slice_get}
use Rattle.std.specs.Option.{option_map}
use Rattle.octets.specs.declared.cause.Cause.{Cause}
use Rattle.octets.specs.declared.parcel.Parcel.{Parcel}
use Rattle.l4_headers.specs.declared.ports.Ports.{Ports}
use Rattle.frag_table.specs.declared.ask.FragAsk.{FragAsk}
use Rattle.frag_table.specs.declared.answer.FragAnswer.{FragAnswer}
use Rattle.frag_table.specs.declared.answer.FragAnswer.TheVariants.{Noted, Known, Held, Released, Full}
use Rattle.frag_table.specs.Frag.{freed_by}
use Rattle.nat_model.specs.declared.ask.Part.TheVariants.{First as FirstPart}
use Rattle.nat_model.specs.declared.stripe.StripeEntry.{StripeEntry}
use Rattle.nat_model.specs.Parcels.{stripe_log, part_in, Frees, HasWaited}
use Rattle.hops.specs.declared.hop.Hop.{Hop}
use Rattle.hops.specs.Hop.{nothing, then, IsFreed}
use Rattle.relay_node.specs.Asked.{AsksFrom, IsDroppedFrom, MayBeTold}
use Rattle.relay_node.specs.Hop.{IsRelayHop}
use Rattle.domain_core.specs.declared.history.StripeNote.{StripeNote}
use Rattle.domain_core.specs.declared.journey.HopNote.{HopNote}
use Rattle.journeys.specs.declared.stand.Stand.TheVariants.{Relay as AtRelay}
use Rattle.journeys.specs.Answers.{stripe_entry, named_at_relay}
use Rattle.journeys.specs.Came.{came_to}
use Rattle.journeys.specs.Derived.{Told, Packet, Part, made, RelayAt, FreesFrom, freeing_relay, who_at_relay, own_answer, IsFreedPart, AreFreedParts, AreStripeParts, AreToldParts, AreAtRelay, alone}
use Rattle.journeys.specs.OneThread.{place_alone, told_alone, stripe_note}
use Rattle.journeys.specs.Run.{Step}
use Rattle.journeys.proofs.RunParts.{came_alone, freed_parts, both_parts, IsSeen, freed_part, freed_alone}
use Rattle.journeys.proofs.RunTables.{IsStripeEntry}
use Rattle.journeys.proofs.RunFragments.{kind_alone, same_side, first_side, later_side, IsLaterFrom, IsOneFrom, freed_from, frees_from, has_ports, released}

-- ---- the parts

-- the steps of the entries before a place are seen
abbrev pub AreSeenBefore : Told → List Packet → ℕ → List StripeEntry → ℕ → Type 0
AreSeenBefore told known number entries place =
    (k : ℕ) (e : StripeEntry) → k < place → slice_get entries k ≡ Some e
    → (s : Step) × IsSeen told known e.who s.made.taken s.made.note × IsStripeEntry number s e

-- such parts came to the hop
abbrev pub CameTo : Hop → (List Part → Type 0) → Type 0
CameTo hop Are = (parts : List Part) × Are parts × (came_to parts ≡ Some hop)

module _ (told : Told) (known : List Packet) (at : RelayAt) (number : ℕ) (entries : List StripeEntry) (place : ℕ) (entry : StripeEntry)
    (at_stripe : at.stripe ≡ Some number)
    (written : (k : ℕ) (e : StripeEntry) → slice_get entries k ≡ Some e → stripe_entry told.trace number k ≡ Some (stripe_note e))
    (there : slice_get entries place ≡ Some entry)
    (waited : (a : ℕ) (p : Parcel) → Frees stripe_log entries place a p → HasWaited stripe_log entries place p)
    (seen : AreSeenBefore told known number entries place)
    (octets : List ℕ) (ask : FragAsk) (asks : AsksFrom at.six octets (Some ask)) (of_it : entry.ask ≡ ask)
  where
    named : (y : Option ℕ) (k : ℕ) (e : StripeEntry) → y ≡ Some k → slice_get entries k ≡ Some e → named_at_relay told.trace at.stripe y ≡ Some (stripe_note e)
    named y k e is here =
        ap (λ (z : Option ℕ). named_at_relay told.trace z y) at_stripe ∙ ap (λ (z : Option ℕ). named_at_relay told.trace (Some number) z) is ∙ written k e here

    -- a parcel that this entry frees
    parcel_part : (ports : Ports) (a : ℕ) (p : Parcel) (one : Hop) → slice_get (freed_by entry.answer) a ≡ Some p
        → IsFreed (IsLaterFrom at.six) (IsOneFrom at.relay at.six ports) p.bytes one
        → IsFreedPart told known (freeing_relay told.trace at ports) (who_at_relay told.trace at.stripe p.place) (made (then one nothing))
    parcel_part ports a p one frees is =
        let w = waited a p (record { entry = entry; at = there; parcel = frees }) in
        let s = seen p.place w.later w.before w.there in
        let same_entry : w.first ≡ entry = some w.first entry (sym w.at ∙ there) in
        let part : part_in ask ≡ FirstPart w.key = ap part_in (sym of_it) ∙ ap (λ (e : StripeEntry). part_in e.ask) (sym same_entry) ∙ w.frees in
        let first = first_side at.six octets ask w.key asks part in
        let later = later_side s.2.six s.0.made.taken.octets p.bytes s.2.ask w.key s.2.asked (ap part_in (sym s.2.is.asked) ∙ w.waited) in
        let same_six : s.2.six ≡ at.six = same_side s.2.six at.six (sym later.0 ∙ first) in
        freed_part told known (freeing_relay told.trace at ports) (who_at_relay told.trace at.stripe p.place) w.later.who s.0.made.taken s.0.made.note (then one nothing)
        (ap (option_map (λ (e : StripeNote). e.who)) (named (Some p.place) p.place w.later refl w.there))
        s.1
        (s.2.stands ∙ ap (λ (six : Bool). AtRelay six) same_six, (s.0.made.note, s.1.note_is, s.2.stripe_is ∙ sym at_stripe))
        (subst (λ (bytes : List ℕ). FreesFrom at.relay at.six ports (alone bytes) (then one nothing)) (sym later.1)
        (frees_from at.relay at.six ports (alone p.bytes) (then one nothing)
        (freed_alone (IsLaterFrom at.six) (IsOneFrom at.relay at.six ports) p.bytes one is)))
      where
        some : (x y : StripeEntry) → Some x ≡ Some y → x ≡ y
        some x y equal = cc

    -- by an answer that frees none
    plain_parts : (answer : FragAnswer) (hop : Hop) → own_answer (told_alone answer) ≡ answer → freed_by (told_alone answer) ≡ []
        → IsRelayHop at.relay at.six octets (Some answer) hop → CameTo hop (AreStripeParts told known at octets (told_alone answer))
    plain_parts answer hop own none is =
        let h = has_ports at.six octets ask asks in (
          made hop ∷ [],
          (
            h.0,
            h.1,
            (
              hop,
              [],
              subst (λ (a : FragAnswer). IsRelayHop at.relay at.six octets (Some a) hop) (sym own) is,
              subst (λ (ps : List Parcel). AreFreedParts (IsOne h.0) ps []) (sym none) refl,
              refl,
            ),
          ),
          came_alone hop,
        )
      where
        IsOne : Ports → ℕ → Part → Type 0
        IsOne ports k part = IsFreedPart told known (freeing_relay told.trace at ports) (who_at_relay told.trace at.stripe k) part

    -- by its own
    parts_by : (answer : FragAnswer) (hop : Hop) → entry.answer ≡ answer → IsRelayHop at.relay at.six octets (Some answer) hop
        → CameTo hop (AreStripeParts told known at octets (told_alone answer))
    parts_by Noted hop same is = plain_parts Noted hop refl refl is
    parts_by (Known ports) hop same is = plain_parts (Known ports) hop refl refl is
    parts_by Held hop same is = plain_parts Held hop refl refl is
    parts_by Full hop same is = plain_parts Full hop refl refl is
    parts_by (Released parcels) hop same is =
        let r = released at.relay at.six octets ask parcels hop asks is in
        let ports = r.0 in
        let rest = freed_parts (IsLaterFrom at.six) (IsOneFrom at.relay at.six ports)
        (λ k part. IsFreedPart told known (freeing_relay told.trace at ports) (who_at_relay told.trace at.stripe k) part)
        parcels r.3 (freed_from at.relay at.six ports parcels r.3 r.5)
        (λ a p one frees. parcel_part ports a p one (ap (λ (x : FragAnswer). slice_get (freed_by x) a) same ∙ frees)) in
        let all = both_parts (IsRelayHop at.relay at.six octets (Some Noted))
        (AreFreedParts (λ k part. IsFreedPart told known (freeing_relay told.trace at ports) (who_at_relay told.trace at.stripe k) part) (map place_alone parcels))
        hop r.2 r.3 r.4 r.6 rest in
        (all.0, (ports, r.1, all.1), all.2)

    pub told_parts : (note : HopNote) (hop : Hop) → note.stripe ≡ at.stripe → note.place ≡ Some place → MayBeTold (Some ask) (Some entry.answer)
        → IsRelayHop at.relay at.six octets (Some entry.answer) hop → CameTo hop (AreAtRelay told known at octets note)
    told_parts note hop same_stripe at_place kind is =
        let all = parts_by entry.answer hop refl is in (
          all.0,
          inr (inr (
            ask,
            asks,
            subst (λ (n : Option StripeNote). AreToldParts told known at octets ask n all.0)
                (sym (ap (λ (z : Option ℕ). named_at_relay told.trace z note.place) same_stripe ∙ named note.place place entry at_place there))
                (inr (kind_alone ask entry.answer kind, all.1)),
          )),
          all.2,
        )

-- one that is dropped before any note is asked, or is no fragment
pub untold_parts : (told : Told) (known : List Packet) (at : RelayAt) (octets : List ℕ) (note : HopNote) (hop : Hop)
    → ((cause : Cause) × IsDroppedFrom at.six cause octets) ⊎ AsksFrom at.six octets None → IsRelayHop at.relay at.six octets None hop
    → CameTo hop (AreAtRelay told known at octets note)
untold_parts told known at octets note hop (inl (cause, dropped)) is =
    (made hop ∷ [], inl (cause, dropped, (hop, is, refl)), came_alone hop)
untold_parts told known at octets note hop (inr asks) is =
    (made hop ∷ [], inr (inl (asks, (hop, is, refl))), came_alone hop)
