-- What a run leaves in the histories: each entry is that of a step before, and later ones come behind it.
use Rattle.std.proofs.Common.{◌≡◌, refl, sym, ap, ◌∙◌, ℕ, zero, suc, ◌⊎◌, inl, inr, Bool, true, false, List, [], ◌∷◌, ◌++◌, map, length, replicate, Some, subst, append_assoc, length-set}
use Rattle.std.specs.Prelude.{slice_get, slice_set, ◌==◌}
use Rattle.std.proofs.lemmas.Bool.{eqb-true, eqb-false}
use Rattle.std.proofs.lemmas.List.{append-nil}
use Rattle.frag_table.specs.declared.ask.FragAsk.{FragAsk}
use Rattle.nat_model.specs.declared.ask.Ask.{Ask}
use Rattle.nat_model.specs.declared.entry.Entry.{Entry}
use Rattle.nat_model.specs.declared.stripe.StripeEntry.{StripeEntry}
use Rattle.edge_node.specs.declared.way.Way.{Way}
use Rattle.edge_node.specs.Asked.{IsAsk}
use Rattle.relay_node.specs.Asked.{AsksFrom, stripe, stripes}
use Rattle.setup_tables.specs.declared.edge.EdgeLine.{EdgeLine}
use Rattle.mapt_setup.specs.declared.setup.Setup.{Setup}
use Rattle.journeys.specs.declared.stand.Stand.{Stand}
use Rattle.journeys.specs.declared.stand.Stand.TheVariants.{Edge, Relay}
use Rattle.journeys.specs.OneThread.{IsEntryOf, IsStripeEntryOf, key_of}
use Rattle.journeys.specs.Run.{Histories, Step, IsStepAt, no_histories}
use Rattle.journeys.proofs.RunLists.{get_last, set_same, set_other}
use Rattle.journeys.proofs.RunSteps.{Chain}

-- ---- one entry more in a table

-- an element there is an old one, or the new
get_added : {E : Type 0} (table : List (List E)) (number : ℕ) (entries : List E) (entry : E) → slice_get table number ≡ Some entries
    → (other : ℕ) (es : List E) (k : ℕ) (e : E) → slice_get (slice_set table number (entries ++ entry ∷ [])) other ≡ Some es → slice_get es k ≡ Some e
    → ((old : List E) × (slice_get table other ≡ Some old) × (slice_get old k ≡ Some e)) ⊎ ((number ≡ other) × (entry ≡ e))
get_added {E} table number entries entry there other es k e at is = by (number == other) refl
  where
    last : number ≡ other → es ≡ entries ++ entry ∷ [] → (slice_get entries k ≡ Some e) ⊎ (entry ≡ e)
        → ((old : List E) × (slice_get table other ≡ Some old) × (slice_get old k ≡ Some e)) ⊎ ((number ≡ other) × (entry ≡ e))
    last same these (inl old) = inl (entries, subst (λ (n : ℕ). slice_get table n ≡ Some entries) same there, old)
    last same these (inr new) = inr (same, new)

    some : (x y : List E) → Some x ≡ Some y → x ≡ y
    some x y equal = cc

    by : (b : Bool) → (number == other) ≡ b → ((old : List E) × (slice_get table other ≡ Some old) × (slice_get old k ≡ Some e)) ⊎ ((number ≡ other) × (entry ≡ e))
    by true equal =
        let same = eqb-true number other equal in
        let here = subst (λ (n : ℕ). slice_get (slice_set table number (entries ++ entry ∷ [])) n ≡ Some (entries ++ entry ∷ [])) same
        (set_same table number entries (entries ++ entry ∷ []) there) in
        let these : es ≡ entries ++ entry ∷ [] = some es (entries ++ entry ∷ []) (sym at ∙ here) in
        last same these (get_last entries entry k e (subst (λ (xs : List E). slice_get xs k ≡ Some e) these is))
    by false differ =
        inl (es, sym (set_other table other number (entries ++ entry ∷ []) (eqb-false number other differ)) ∙ at, is)

-- and those that were there stay in front
kept_added : {E : Type 0} (table : List (List E)) (number : ℕ) (entries : List E) (entry : E) → slice_get table number ≡ Some entries
    → (other : ℕ) (es : List E) → slice_get table other ≡ Some es
    → (more : List E) × (slice_get (slice_set table number (entries ++ entry ∷ [])) other ≡ Some (es ++ more))
kept_added {E} table number entries entry there other es at = by (number == other) refl
  where
    some : (x y : List E) → Some x ≡ Some y → x ≡ y
    some x y equal = cc

    by : (b : Bool) → (number == other) ≡ b → (more : List E) × (slice_get (slice_set table number (entries ++ entry ∷ [])) other ≡ Some (es ++ more))
    by true equal =
        let same = eqb-true number other equal in
        let these : entries ≡ es = some entries es (sym there ∙ ap (slice_get table) same ∙ at) in (
          entry ∷ [],
          subst (λ (n : ℕ). slice_get (slice_set table number (entries ++ entry ∷ [])) n ≡ Some (es ++ entry ∷ [])) same
              (set_same table number entries (entries ++ entry ∷ []) there ∙ ap (λ (xs : List E). Some (xs ++ entry ∷ [])) these),
        )
    by false differ =
        ([], set_other table other number (entries ++ entry ∷ []) (eqb-false number other differ) ∙ at ∙ ap Some (sym (append-nil es)))

-- ---- steps that add entries, where it is said whether one is that of a step

abbrev pub IsIn : Step → List Step → Type 0
IsIn s steps = (front : List Step) × (behind : List Step) × (steps ≡ front ++ s ∷ behind)

abbrev pub Says : Type 0 → Type 1
Says E = ℕ → Step → E → Type 0

-- an entry of this step, behind those at its number
pub record Adds {E : Type 0} (IsTheirs : Says E) (s : Step) (before after : List (List E)) : Type 0 where
  pub number : ℕ
  pub entries : List E
  pub entry : E
  pub theirs : IsTheirs number s entry
  pub there : slice_get before number ≡ Some entries
  pub adds : after ≡ slice_set before number (entries ++ entry ∷ [])

abbrev pub AddsAtMost : {E : Type 0} → Says E → Step → List (List E) → List (List E) → Type 0
AddsAtMost {E} IsTheirs s before after = (after ≡ before) ⊎ Adds IsTheirs s before after

abbrev pub AddAll : {E : Type 0} → Says E → List Step → List (List E) → List (List E) → Type 0
AddAll {E} IsTheirs [] before after = after ≡ before
AddAll {E} IsTheirs (s ∷ steps) before after = (mid : List (List E)) × AddsAtMost IsTheirs s before mid × AddAll IsTheirs steps mid after

-- each entry is that of one of these steps
abbrev pub AreOwned : {E : Type 0} → Says E → List Step → List (List E) → Type 0
AreOwned {E} IsTheirs steps table =
    (number : ℕ) (entries : List E) (k : ℕ) (e : E) → slice_get table number ≡ Some entries → slice_get entries k ≡ Some e
    → (s : Step) × IsIn s steps × IsTheirs number s e

module _ {E : Type 0} (IsTheirs : Says E) where
  in_more : (s : Step) (steps more : List Step) → IsIn s steps → IsIn s (steps ++ more)
  in_more s steps more (front, behind, is) =
      (front, behind ++ more, ap (λ (ss : List Step). ss ++ more) is ∙ append_assoc front (s ∷ behind) more)

  owned_more : (steps : List Step) (s : Step) (table : List (List E)) → AreOwned IsTheirs steps table → AreOwned IsTheirs (steps ++ s ∷ []) table
  owned_more steps s table owned number entries k e at is =
      let o = owned number entries k e at is in
      (o.0, in_more o.0 steps (s ∷ []) o.1, o.2)

  owned_step : (steps : List Step) (s : Step) (before after : List (List E)) → AreOwned IsTheirs steps before → AddsAtMost IsTheirs s before after
      → AreOwned IsTheirs (steps ++ s ∷ []) after
  owned_step steps s before after owned (inl same) =
      subst (λ (t : List (List E)). AreOwned IsTheirs (steps ++ s ∷ []) t) (sym same) (owned_more steps s before owned)
  owned_step steps s before after owned (inr more) =
      subst (λ (t : List (List E)). AreOwned IsTheirs (steps ++ s ∷ []) t) (sym more.adds) with_it
    where
      with_it : AreOwned IsTheirs (steps ++ s ∷ []) (slice_set before more.number (more.entries ++ more.entry ∷ []))
      with_it number entries k e at is = by (get_added before more.number more.entries more.entry more.there number entries k e at is)
        where
          by : ((old : List E) × (slice_get before number ≡ Some old) × (slice_get old k ≡ Some e)) ⊎ ((more.number ≡ number) × (more.entry ≡ e))
              → (x : Step) × IsIn x (steps ++ s ∷ []) × IsTheirs number x e
          by (inl (old, there, this)) = owned_more steps s before owned number old k e there this
          by (inr (same, this)) =
              (s, (steps, [], refl), subst (λ (x : E). IsTheirs number s x) this (subst (λ (n : ℕ). IsTheirs n s more.entry) same more.theirs))

  pub owned_all : (front steps : List Step) (before after : List (List E)) → AreOwned IsTheirs front before → AddAll IsTheirs steps before after
      → AreOwned IsTheirs (front ++ steps) after
  owned_all front [] before after owned same =
      subst (λ (t : List (List E)). AreOwned IsTheirs (front ++ []) t) (sym same) (subst (λ (ss : List Step). AreOwned IsTheirs ss before) (sym (append-nil front)) owned)
  owned_all front (s ∷ steps) before after owned (mid, first, rest) =
      subst (λ (ss : List Step). AreOwned IsTheirs ss after) (append_assoc front (s ∷ []) steps)
      (owned_all (front ++ s ∷ []) steps mid after (owned_step front s before mid owned first) rest)

  pub kept_all : (steps : List Step) (before after : List (List E)) → AddAll IsTheirs steps before after → (number : ℕ) (entries : List E)
      → slice_get before number ≡ Some entries → (more : List E) × (slice_get after number ≡ Some (entries ++ more))
  kept_all [] before after same number entries at =
      ([], ap (λ (t : List (List E)). slice_get t number) same ∙ at ∙ ap Some (sym (append-nil entries)))
  kept_all (s ∷ steps) before after (mid, inl same, rest) number entries at =
      kept_all steps mid after rest number entries (ap (λ (t : List (List E)). slice_get t number) same ∙ at)
  kept_all (s ∷ steps) before after (mid, inr first, rest) number entries at =
      let here = kept_added before first.number first.entries first.entry first.there number entries at in
      let then_on = kept_all steps mid after rest number (entries ++ here.0) (ap (λ (t : List (List E)). slice_get t number) first.adds ∙ here.1) in
      (here.0 ++ then_on.0, then_on.1 ∙ ap Some (append_assoc entries here.0 then_on.0))

  pub length_all : (steps : List Step) (before after : List (List E)) → AddAll IsTheirs steps before after → length after ≡ length before
  length_all [] before after same = ap length same
  length_all (s ∷ steps) before after (mid, inl same, rest) = length_all steps mid after rest ∙ ap length same
  length_all (s ∷ steps) before after (mid, inr first, rest) =
      length_all steps mid after rest ∙ ap length first.adds ∙ length-set before first.number (first.entries ++ first.entry ∷ [])

-- ---- the tables of edges and of stripes

pub record IsEdgeEntry (number : ℕ) (s : Step) (e : Entry) : Type 0 where
  pub way : Way
  pub stands : s.made.taken.stand ≡ Edge number way
  pub ask : Ask
  pub asked : IsAsk way s.made.taken.octets ask
  pub is : IsEntryOf s.made ask e

pub record IsStripeEntry (number : ℕ) (s : Step) (e : StripeEntry) : Type 0 where
  pub six : Bool
  pub stands : s.made.taken.stand ≡ Relay six
  pub ask : FragAsk
  pub asked : AsksFrom six s.made.taken.octets (Some ask)
  pub is : IsStripeEntryOf s.made ask e
  pub stripe_is : s.made.note.stripe ≡ Some number

step_adds : (setup : Setup) (s : Step) (before after : Histories) (stand : Stand) → s.made.taken.stand ≡ stand → IsStepAt setup stand s before after
    → AddsAtMost IsEdgeEntry s before.edges after.edges × AddsAtMost IsStripeEntry s before.stripes after.stripes
step_adds setup s before after (Edge number way) stands (line, there, inl unasked) =
    (inl (ap (λ (h : Histories). h.edges) unasked.2.2), inl (ap (λ (h : Histories). h.stripes) unasked.2.2))
step_adds setup s before after (Edge number way) stands (line, there, inr asked) = (
  inr (record {
    number = number;
    entries = asked.entries;
    entry = asked.entry;
    theirs = record { way = way; stands = stands; ask = asked.ask; asked = asked.asked; is = asked.is };
    there = asked.history;
    adds = ap (λ (h : Histories). h.edges) asked.adds;
  }),
  inl (ap (λ (h : Histories). h.stripes) asked.adds),
)
step_adds setup s before after (Relay six) stands (inl untold) =
    (inl (ap (λ (h : Histories). h.edges) untold.1.2), inl (ap (λ (h : Histories). h.stripes) untold.1.2))
step_adds setup s before after (Relay six) stands (inr told) = (
  inl (ap (λ (h : Histories). h.edges) told.adds),
  inr (record {
    number = stripe (key_of told.ask);
    entries = told.entries;
    entry = told.entry;
    theirs = record { six = six; stands = stands; ask = told.ask; asked = told.asked; is = told.is; stripe_is = told.stripe_is };
    there = told.history;
    adds = ap (λ (h : Histories). h.stripes) told.adds;
  }),
)

pub chain_adds : (setup : Setup) (steps : List Step) (before after : Histories) → Chain setup steps before after
    → AddAll IsEdgeEntry steps before.edges after.edges × AddAll IsStripeEntry steps before.stripes after.stripes
chain_adds setup [] before after same = (ap (λ (h : Histories). h.edges) same, ap (λ (h : Histories). h.stripes) same)
chain_adds setup (s ∷ steps) before after (mid, is, rest) =
    let first = step_adds setup s before mid s.made.taken.stand refl is in
    let others = chain_adds setup steps mid after rest in
    ((mid.edges, first.0, others.0), (mid.stripes, first.1, others.1))

-- there is none at the outset
no_edge : (lines : List EdgeLine) (number : ℕ) (entries : List Entry) → slice_get (map (λ (line : EdgeLine). []) lines) number ≡ Some entries → entries ≡ []
no_edge [] number entries at = absurd (cc)
no_edge (line ∷ lines) zero entries at = cc
no_edge (line ∷ lines) (suc number) entries at = no_edge lines number entries at

no_stripe : (n number : ℕ) (entries : List StripeEntry) → slice_get (replicate n []) number ≡ Some entries → entries ≡ []
no_stripe zero number entries at = absurd (cc)
no_stripe (suc n) zero entries at = cc
no_stripe (suc n) (suc number) entries at = no_stripe n number entries at

none_in : {E : Type 0} (entries : List E) (k : ℕ) (e : E) → entries ≡ [] → slice_get entries k ≡ Some e → ⊥
none_in {E} entries k e none at = absurd (cc (ap (λ (es : List E). slice_get es k) none))

pub none_owned : (setup : Setup) → AreOwned IsEdgeEntry [] (no_histories setup).edges × AreOwned IsStripeEntry [] (no_histories setup).stripes
none_owned setup = (
  λ number entries k e at is. absurd (none_in entries k e (no_edge setup.edges number entries at) is),
  λ number entries k e at is. absurd (none_in entries k e (no_stripe stripes number entries at) is),
)
