-- The edge that a fault names is the first of which it is true.
use Rattle.std.proofs.Common.{◌≡◌, ℕ, ◌<◌, true, List, length, get_or, refl, sym, ap, subst, ◌∙◌, inl, inr}
use Rattle.std.specs.Prelude.{Option, Some, None, ◌↔◌}
use Rattle.std.specs.Option.{option_or, option_map}
use Rattle.std.specs.List.{position}
use Rattle.std.proofs.lemmas.Bool.{false≢true}
use Rattle.octets.specs.Place.{IsFirstPlace}
use Rattle.octets.proofs.Places.{position-exactly, position-none}
use Rattle.map_rules.specs.declared.dmr.Dmr.{Dmr}
use Rattle.rule_book.proofs.LeastPlaces.{or-Some, map-Some}
use Rattle.rule_book.proofs.Sound.{map-None}
use Rattle.setup_tables.specs.declared.edge.EdgeLine.{EdgeLine}
use Rattle.setup_tables.specs.declared.fault.SetupCause.{SetupCause}
use Rattle.setup_tables.specs.declared.fault.SetupCause.TheVariants.{EdgeName, EdgeOverlap, EdgeOverDmr}
use Rattle.setup_tables.specs.declared.fault.SetupFault.{SetupFault}
use Rattle.setup_tables.specs.declared.fault.SetupFault.TheVariants.{Refused}
use Rattle.mapt_setup.specs.Beside.{first_after, IsFirstBeside}
use Rattle.mapt_setup.specs.Crowd.{has_name_of, is_crowded, is_over, edge_fault, AreApart}
use Rattle.mapt_setup.proofs.FirstBeside.{first-is, none-is, is-none, element-at}

over-none : (dmr : Dmr) (edges : List EdgeLine) (o : Option ℕ) → position (is_over dmr) edges ≡ o → ((k : ℕ) (d : EdgeLine) → k < length edges → ¬ (is_over dmr (get_or edges k d) ≡ true)) → o ≡ None
over-none dmr edges None e fails = refl
over-none dmr edges (Some place) e fails =
    let first = (position-exactly (is_over dmr) edges place).0 e in
    let d = element-at edges place first.within in
    absurd (fails place d first.within (first.passes d))

-- ---- the faults in their order

abbrev named : List EdgeLine → Option SetupFault
named edges = option_map (Refused EdgeName) (first_after has_name_of edges)

abbrev crowded : List EdgeLine → Option SetupFault
crowded edges = option_map (Refused EdgeOverlap) (first_after is_crowded edges)

abbrev over : List EdgeLine → Dmr → Option SetupFault
over edges dmr = option_map (Refused EdgeOverDmr) (position (is_over dmr) edges)

pub place-of : (cause : SetupCause) (i j : ℕ) → Refused cause i ≡ Refused cause j → i ≡ j
place-of cause i j e = cc

-- a fault of one cause isn't of another
name≢overlap : (i j : ℕ) → ¬ (Refused EdgeName i ≡ Refused EdgeOverlap j)
name≢overlap i j e = cc

name≢over : (i j : ℕ) → ¬ (Refused EdgeName i ≡ Refused EdgeOverDmr j)
name≢over i j e = cc

overlap≢over : (i j : ℕ) → ¬ (Refused EdgeOverlap i ≡ Refused EdgeOverDmr j)
overlap≢over i j e = cc

pub name-first : (edges : List EdgeLine) (dmr : Dmr) (i : ℕ) → edge_fault edges dmr ≡ Some (Refused EdgeName i) → IsFirstBeside has_name_of edges i
name-first edges dmr i e =
    elim (or-Some (named edges) (option_or (crowded edges) (over edges dmr)) (Refused EdgeName i) e) [
      | inl here ↦
          let at = map-Some (Refused EdgeName) (first_after has_name_of edges) (Refused EdgeName i) here in
          let P : ℕ → Type 0 = λ n. IsFirstBeside has_name_of edges n in
          subst P (place-of EdgeName at.0 i at.2) (first-is has_name_of edges at.0 at.1)
      | inr past ↦ elim (or-Some (crowded edges) (over edges dmr) (Refused EdgeName i) past.1) [
        | inl other ↦ (let at = map-Some (Refused EdgeOverlap) (first_after is_crowded edges) (Refused EdgeName i) other in absurd (name≢overlap i at.0 (sym at.2)))
        | inr other ↦ (let at = map-Some (Refused EdgeOverDmr) (position (is_over dmr) edges) (Refused EdgeName i) other.1 in absurd (name≢over i at.0 (sym at.2)))
      ]
    ]

pub overlap-first : (edges : List EdgeLine) (dmr : Dmr) (i : ℕ) → edge_fault edges dmr ≡ Some (Refused EdgeOverlap i) → IsFirstBeside is_crowded edges i
overlap-first edges dmr i e =
    elim (or-Some (named edges) (option_or (crowded edges) (over edges dmr)) (Refused EdgeOverlap i) e) [
      | inl other ↦ (let at = map-Some (Refused EdgeName) (first_after has_name_of edges) (Refused EdgeOverlap i) other in absurd (name≢overlap at.0 i at.2))
      | inr past ↦ elim (or-Some (crowded edges) (over edges dmr) (Refused EdgeOverlap i) past.1) [
        | inl here ↦
            let at = map-Some (Refused EdgeOverlap) (first_after is_crowded edges) (Refused EdgeOverlap i) here in
            let P : ℕ → Type 0 = λ n. IsFirstBeside is_crowded edges n in
            subst P (place-of EdgeOverlap at.0 i at.2) (first-is is_crowded edges at.0 at.1)
        | inr other ↦ (let at = map-Some (Refused EdgeOverDmr) (position (is_over dmr) edges) (Refused EdgeOverlap i) other.1 in absurd (overlap≢over i at.0 (sym at.2)))
      ]
    ]

pub over-first : (edges : List EdgeLine) (dmr : Dmr) (i : ℕ) → edge_fault edges dmr ≡ Some (Refused EdgeOverDmr i) → IsFirstPlace (is_over dmr) edges i
over-first edges dmr i e =
    elim (or-Some (named edges) (option_or (crowded edges) (over edges dmr)) (Refused EdgeOverDmr i) e) [
      | inl other ↦ (let at = map-Some (Refused EdgeName) (first_after has_name_of edges) (Refused EdgeOverDmr i) other in absurd (name≢over at.0 i at.2))
      | inr past ↦ elim (or-Some (crowded edges) (over edges dmr) (Refused EdgeOverDmr i) past.1) [
        | inl other ↦ (let at = map-Some (Refused EdgeOverlap) (first_after is_crowded edges) (Refused EdgeOverDmr i) other in absurd (overlap≢over at.0 i at.2))
        | inr here ↦
            let at = map-Some (Refused EdgeOverDmr) (position (is_over dmr) edges) (Refused EdgeOverDmr i) here.1 in
            let P : ℕ → Type 0 = λ n. IsFirstPlace (is_over dmr) edges n in
            subst P (place-of EdgeOverDmr at.0 i at.2) ((position-exactly (is_over dmr) edges at.0).0 at.1)
      ]
    ]

pub both_none : {A : Type 0} (a b : Option A) → option_or a b ≡ None → (a ≡ None) × (b ≡ None)
both_none None b e = (refl, e)
both_none (Some x) b e = cc

pub apart-exactly : (edges : List EdgeLine) (dmr : Dmr) → edge_fault edges dmr ≡ None ↔ AreApart edges dmr
apart-exactly edges dmr = (
  λ e.
      let a = both_none (named edges) (option_or (crowded edges) (over edges dmr)) e in
      let b = both_none (crowded edges) (over edges dmr) a.1 in
      record {
        names = none-is has_name_of edges (map-None (Refused EdgeName) (first_after has_name_of edges) a.0);
        prefixes = none-is is_crowded edges (map-None (Refused EdgeOverlap) (first_after is_crowded edges) b.0);
        outside = λ k d within yes. false≢true (sym (position-none (is_over dmr) edges (map-None (Refused EdgeOverDmr) (position (is_over dmr) edges) b.1) k d within) ∙ yes);
      },
  λ apart.
      let a = is-none has_name_of edges (first_after has_name_of edges) refl apart.names in
      let b = is-none is_crowded edges (first_after is_crowded edges) refl apart.prefixes in
      let c = over-none dmr edges (position (is_over dmr) edges) refl apart.outside in
      ap (λ (o : Option ℕ). option_or (option_map (Refused EdgeName) o) (option_or (crowded edges) (over edges dmr))) a
      ∙ ap (λ (o : Option ℕ). option_or (option_map (Refused EdgeOverlap) o) (over edges dmr)) b
      ∙ ap (λ (o : Option ℕ). option_map (Refused EdgeOverDmr) o) c,
)
