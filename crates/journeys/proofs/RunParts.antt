-- The parts of a hop: its own, and one of each parcel that it frees. Together they came to the hop, and send on what it sends.
use Rattle.std.proofs.Common.{◌≡◌, refl, sym, ap, ◌∙◌, ℕ, suc, inr, List, [], ◌∷◌, ◌++◌, map, Option, Some, None, subst}
use Rattle.std.specs.Prelude.{slice_get, filter_map}
use Rattle.std.specs.Option.{option_map}
use Rattle.std.proofs.lemmas.List.{map-append}
use Rattle.std.proofs.lemmas.List.Elements.{filter_map-append}
use Rattle.octets.specs.declared.parcel.Parcel.{Parcel}
use Rattle.nat_model.specs.declared.entry.Who.{Who}
use Rattle.hops.specs.declared.hop.Hop.{Hop}
use Rattle.hops.specs.declared.hop.Out.{Out}
use Rattle.hops.specs.Hop.{nothing, then, IsFreed, AreFreed}
use Rattle.hops.proofs.Gained.{then_nothing}
use Rattle.mapt_setup.specs.declared.setup.Setup.{Setup}
use Rattle.domain_core.specs.declared.journey.HopNote.{HopNote}
use Rattle.journeys.specs.declared.stand.Stand.{Stand}
use Rattle.journeys.specs.Waiting.{Waiting, onward}
use Rattle.journeys.specs.Answers.{note_of}
use Rattle.journeys.specs.Came.{came_to}
use Rattle.journeys.specs.Derived.{Told, Packet, packets_of, Part, made, untold, Freeing, IsPartOf, IsFreedPart, AreFreedParts, AreParts, alone, sent_on, sent_by_all}
use Rattle.journeys.specs.OneThread.{place_alone}

-- ---- one hop after another

pub came_alone : (hop : Hop) → came_to (made hop ∷ []) ≡ Some hop
came_alone hop = ap Some (sym (then_nothing hop))

-- ---- what they send on

sent_both : (setup : Setup) (here : Stand) (xs ys : List Out) → sent_on setup here (xs ++ ys) ≡ sent_on setup here xs ++ sent_on setup here ys
sent_both setup here xs ys =
    ap (map Some) (filter_map-append (onward setup here) xs ys) ∙ map-append Some (filter_map (onward setup here) xs) (filter_map (onward setup here) ys)

-- what they came to sends on what they send
pub sent_by_came : (setup : Setup) (here : Stand) (parts : List Part) (hop : Hop) → came_to parts ≡ Some hop → sent_by_all setup here parts ≡ sent_on setup here hop.outs
sent_by_came setup here [] hop is = ap (λ (h : Hop). sent_on setup here h.outs) (some nothing hop is)
  where
    some : (x y : Hop) → ◌≡◌ {A = Option Hop} (Some x) (Some y) → x ≡ y
    some x y e = cc
sent_by_came setup here (untold ∷ parts) hop is = absurd (cc)
sent_by_came setup here (made own ∷ parts) hop is = by (λ others rest. sent_by_came setup here parts others rest) (came_to parts) refl is
  where
    some : (x y : Hop) → ◌≡◌ {A = Option Hop} (Some x) (Some y) → x ≡ y
    some x y e = cc

    by : ((others : Hop) → came_to parts ≡ Some others → sent_by_all setup here parts ≡ sent_on setup here others.outs)
        → (others : Option Hop) → came_to parts ≡ others → option_map (then own) others ≡ Some hop
        → sent_by_all setup here (made own ∷ parts) ≡ sent_on setup here hop.outs
    by so None rest e = absurd (cc)
    by so (Some others) rest e =
        ap (λ (xs : List (Option Waiting)). sent_on setup here own.outs ++ xs) (so others rest)
        ∙ sym (sent_both setup here own.outs others.outs)
        ∙ ap (λ (h : Hop). sent_on setup here h.outs) (some (then own others) hop e)

-- ---- the parts of what is freed

-- one part for each parcel, as this says of it
pub freed_parts : (IsLater : List ℕ → Type 0) (Becomes : List ℕ → Hop → Type 0) (IsOne : ℕ → Part → Type 0)
    (parcels : List Parcel) (hop : Hop) → AreFreed IsLater Becomes parcels hop
    → ((a : ℕ) (p : Parcel) (one : Hop) → slice_get parcels a ≡ Some p → IsFreed IsLater Becomes p.bytes one → IsOne p.place (made (then one nothing)))
    → (parts : List Part) × AreFreedParts IsOne (map place_alone parcels) parts × (came_to parts ≡ Some hop)
freed_parts IsLater Becomes IsOne [] hop freed so = ([], refl, ap Some (sym freed))
freed_parts IsLater Becomes IsOne (p ∷ parcels) hop (one, others, is, freed, both) so =
    let rest = freed_parts IsLater Becomes IsOne parcels others freed (λ a. so (suc a)) in (
      made (then one nothing) ∷ rest.0,
      (made (then one nothing), rest.0, so 0 p one refl is, rest.1, refl),
      ap (option_map (then (then one nothing))) rest.2 ∙ ap (λ (h : Hop). Some (then h others)) (sym (then_nothing one)) ∙ ap Some (sym both),
    )

-- its own part and these
pub both_parts : (Own : Hop → Type 0) (Freed : List Part → Type 0) (hop own others : Hop) → Own own → hop ≡ then own others
    → (parts : List Part) × Freed parts × (came_to parts ≡ Some others)
    → (parts : List Part) × AreParts Own Freed parts × (came_to parts ≡ Some hop)
both_parts Own Freed hop own others is both (parts, freed, came) = (
  made own ∷ parts,
  (own, parts, is, freed, refl),
  ap (option_map (then own)) came ∙ ap Some (sym both),
)

-- ---- a parcel that waited

-- a hop of the trace whose packet is known
pub record IsSeen (told : Told) (known : List Packet) (who : Who) (w : Waiting) (note : HopNote) : Type 0 where
  pub note_is : note_of told.trace who.rec who.hop ≡ Some note
  pub packet_is : slice_get (packets_of who.rec known) who.hop ≡ Some w

pub freed_part : (told : Told) (known : List Packet) (freeing : Freeing) (named : Option Who) (who : Who) (w : Waiting) (note : HopNote) (hop : Hop)
    → named ≡ Some who → IsSeen told known who w note → freeing.Waited who w → freeing.Becomes w.octets hop
    → IsFreedPart told known freeing named (made hop)
freed_part told known freeing named who w note hop is seen waited becomes =
    subst (λ (n : Option Who). IsFreedPart told known freeing n (made hop)) (sym is)
    (inr (
      (note, seen.note_is),
      subst (λ (x : Option Waiting). IsPartOf freeing who x (made hop)) (sym seen.packet_is) (inr (waited, (hop, becomes, refl))),
    ))

-- one parcel alone
pub freed_alone : (IsLater : List ℕ → Type 0) (Becomes : List ℕ → Hop → Type 0) (octets : List ℕ) (one : Hop) → IsFreed IsLater Becomes octets one
    → AreFreed IsLater Becomes (alone octets) (then one nothing)
freed_alone IsLater Becomes octets one is = (one, nothing, is, refl, refl)
