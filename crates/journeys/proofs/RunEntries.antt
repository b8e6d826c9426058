-- The entries that a run leaves at an edge and at a stripe are those of its hops there, each of which names the place of its own.
use Rattle.std.proofs.Common.{◌≡◌, refl, sym, ap, ◌∙◌, ℕ, suc, inl, inr, Bool, true, false, List, [], ◌∷◌, ◌++◌, length, Some, subst, arith, append_assoc, length-append}
use Rattle.std.specs.Prelude.{slice_get, slice_set, ◌==◌}
use Rattle.std.proofs.lemmas.Bool.{eqb-true, eqb-false}
use Rattle.std.proofs.lemmas.List.{append-nil}
use Rattle.nat_model.specs.declared.entry.Entry.{Entry}
use Rattle.nat_model.specs.declared.stripe.StripeEntry.{StripeEntry}
use Rattle.relay_node.specs.Asked.{stripe}
use Rattle.mapt_setup.specs.declared.setup.Setup.{Setup}
use Rattle.journeys.specs.declared.stand.Stand.{Stand}
use Rattle.journeys.specs.declared.stand.Stand.TheVariants.{Edge, Relay}
use Rattle.journeys.specs.OneThread.{AddsAtEdge, AreEdgeEntries, AddsAtStripe, AreStripeEntries, key_of}
use Rattle.journeys.specs.Run.{Histories, Step, IsStepAt}
use Rattle.journeys.proofs.RunLists.{set_same, set_other}
use Rattle.journeys.proofs.RunSteps.{Chain}
use Rattle.journeys.proofs.RunItems.{hops_of}

some_list : {E : Type 0} (xs ys : List E) → Some xs ≡ Some ys → xs ≡ ys
some_list xs ys equal = cc

length_next : {E : Type 0} (xs : List E) (x : E) → length (xs ++ x ∷ []) ≡ suc (length xs)
length_next xs x = omega (arith, length-append xs (x ∷ []))

module _ (setup : Setup) (number : ℕ) where
  -- ---- at an edge

  -- behind these entries come others, which are so
  abbrev Adds : List Entry → Histories → (List Entry → Type 0) → Type 0
  Adds entries after Are = (es : List Entry) × (slice_get after.edges number ≡ Some (entries ++ es)) × Are es

  edge_step : (s : Step) (before mid after : Histories) (entries : List Entry) (Are : ℕ → List Entry → Type 0) (stand : Stand)
      → IsStepAt setup stand s before mid → slice_get before.edges number ≡ Some entries
      → ((es : List Entry) → slice_get mid.edges number ≡ Some es → Adds es after (Are (length es)))
      → Adds entries after (AddsAtEdge number (length entries) s.made (Are (length entries)) (Are (suc (length entries))) stand)
  edge_step s before mid after entries Are (Relay six) (inl untold) there rest =
      rest entries (ap (λ (h : Histories). slice_get h.edges number) untold.1.2 ∙ there)
  edge_step s before mid after entries Are (Relay six) (inr told) there rest =
      rest entries (ap (λ (h : Histories). slice_get h.edges number) told.adds ∙ there)
  edge_step s before mid after entries Are (Edge other way) (line, at_line, inl unasked) there rest = by (other == number) refl
    where
      more : Adds entries after (Are (length entries))
      more = rest entries (ap (λ (h : Histories). slice_get h.edges number) unasked.2.2 ∙ there)

      by : (b : Bool) → (other == number) ≡ b
          → Adds entries after (AddsAtEdge number (length entries) s.made (Are (length entries)) (Are (suc (length entries))) (Edge other way))
      by true same = (more.0, more.1, inr (inl (eqb-true other number same, (unasked.2.0, unasked.2.1, (unasked.0, unasked.1)), more.2)))
      by false differ = (more.0, more.1, inl (eqb-false other number differ, more.2))
  edge_step s before mid after entries Are (Edge other way) (line, at_line, inr asked) there rest = by (other == number) refl
    where
      by : (b : Bool) → (other == number) ≡ b
          → Adds entries after (AddsAtEdge number (length entries) s.made (Are (length entries)) (Are (suc (length entries))) (Edge other way))
      by true equal =
          let same = eqb-true other number equal in
          let these : asked.entries ≡ entries = some_list asked.entries entries (sym asked.history ∙ ap (slice_get before.edges) same ∙ there) in
          let added : slice_get mid.edges number ≡ Some (entries ++ asked.entry ∷ []) =
          ap (λ (h : Histories). slice_get h.edges number) asked.adds
          ∙ ap (λ (n : ℕ). slice_get (slice_set before.edges other (asked.entries ++ asked.entry ∷ [])) n) (sym same)
          ∙ set_same before.edges other asked.entries (asked.entries ++ asked.entry ∷ []) asked.history
          ∙ ap (λ (es : List Entry). Some (es ++ asked.entry ∷ [])) these in
          let more = rest (entries ++ asked.entry ∷ []) added in (
            asked.entry ∷ more.0,
            more.1 ∙ ap Some (append_assoc entries (asked.entry ∷ []) more.0),
            inr (inr (
              same,
              (
                more.0,
                subst (λ (n : ℕ). Are n more.0) (length_next entries asked.entry) more.2,
                (asked.stripe, asked.place ∙ ap (λ (es : List Entry). Some (length es)) these, (asked.ask, asked.entry, asked.asked, asked.is, refl)),
              ),
            )),
          )
      by false differ =
          let kept : slice_get mid.edges number ≡ Some entries =
          ap (λ (h : Histories). slice_get h.edges number) asked.adds
          ∙ set_other before.edges number other (asked.entries ++ asked.entry ∷ []) (eqb-false other number differ) ∙ there in
          let more = rest entries kept in
          (more.0, more.1, inl (eqb-false other number differ, more.2))

  pub edge_entries : (steps : List Step) (before after : Histories) → Chain setup steps before after → (entries : List Entry)
      → slice_get before.edges number ≡ Some entries → Adds entries after (AreEdgeEntries number (length entries) (hops_of steps))
  edge_entries [] before after same entries there =
      ([], ap (λ (h : Histories). slice_get h.edges number) same ∙ there ∙ ap Some (sym (append-nil entries)), refl)
  edge_entries (s ∷ steps) before after (mid, is, rest) entries there =
      edge_step s before mid after entries (λ place. AreEdgeEntries number place (hops_of steps)) s.made.taken.stand is there
      (edge_entries steps mid after rest)

  -- ---- at a stripe

  abbrev AddsThere : List StripeEntry → Histories → (List StripeEntry → Type 0) → Type 0
  AddsThere entries after Are = (es : List StripeEntry) × (slice_get after.stripes number ≡ Some (entries ++ es)) × Are es

  stripe_step : (s : Step) (before mid after : Histories) (entries : List StripeEntry) (Are : ℕ → List StripeEntry → Type 0) (stand : Stand)
      → IsStepAt setup stand s before mid → slice_get before.stripes number ≡ Some entries
      → ((es : List StripeEntry) → slice_get mid.stripes number ≡ Some es → AddsThere es after (Are (length es)))
      → AddsThere entries after (AddsAtStripe number (length entries) s.made (Are (length entries)) (Are (suc (length entries))) stand)
  stripe_step s before mid after entries Are (Edge other way) (line, at_line, inl unasked) there rest =
      rest entries (ap (λ (h : Histories). slice_get h.stripes number) unasked.2.2 ∙ there)
  stripe_step s before mid after entries Are (Edge other way) (line, at_line, inr asked) there rest =
      rest entries (ap (λ (h : Histories). slice_get h.stripes number) asked.adds ∙ there)
  stripe_step s before mid after entries Are (Relay six) (inl untold) there rest =
      let more = rest entries (ap (λ (h : Histories). slice_get h.stripes number) untold.1.2 ∙ there) in
      (more.0, more.1, inl (untold.0, untold.1.0, untold.1.1, more.2))
  stripe_step s before mid after entries Are (Relay six) (inr told) there rest = by (stripe (key_of told.ask) == number) refl
    where
      other : ℕ
      other = stripe (key_of told.ask)

      by : (b : Bool) → (stripe (key_of told.ask) == number) ≡ b
          → AddsThere entries after (AddsAtStripe number (length entries) s.made (Are (length entries)) (Are (suc (length entries))) (Relay six))
      by true equal =
          let same = eqb-true (stripe (key_of told.ask)) number equal in
          let these : told.entries ≡ entries = some_list told.entries entries (sym told.history ∙ ap (slice_get before.stripes) same ∙ there) in
          let added : slice_get mid.stripes number ≡ Some (entries ++ told.entry ∷ []) =
          ap (λ (h : Histories). slice_get h.stripes number) told.adds
          ∙ ap (λ (n : ℕ). slice_get (slice_set before.stripes (stripe (key_of told.ask)) (told.entries ++ told.entry ∷ [])) n) (sym same)
          ∙ set_same before.stripes (stripe (key_of told.ask)) told.entries (told.entries ++ told.entry ∷ []) told.history
          ∙ ap (λ (es : List StripeEntry). Some (es ++ told.entry ∷ [])) these in
          let more = rest (entries ++ told.entry ∷ []) added in (
            told.entry ∷ more.0,
            more.1 ∙ ap Some (append_assoc entries (told.entry ∷ []) more.0),
            inr (
              told.ask,
              told.asked,
              told.stripe_is,
              inr (
                same,
                (
                  more.0,
                  subst (λ (n : ℕ). Are n more.0) (length_next entries told.entry) more.2,
                  (told.place ∙ ap (λ (es : List StripeEntry). Some (length es)) these, (told.entry, told.is, refl)),
                ),
              ),
            ),
          )
      by false differ =
          let apart = eqb-false (stripe (key_of told.ask)) number differ in
          let kept : slice_get mid.stripes number ≡ Some entries =
          ap (λ (h : Histories). slice_get h.stripes number) told.adds
          ∙ set_other before.stripes number (stripe (key_of told.ask)) (told.entries ++ told.entry ∷ []) apart ∙ there in
          let more = rest entries kept in
          (more.0, more.1, inr (told.ask, told.asked, told.stripe_is, inl (apart, more.2)))

  pub stripe_entries : (steps : List Step) (before after : Histories) → Chain setup steps before after → (entries : List StripeEntry)
      → slice_get before.stripes number ≡ Some entries → AddsThere entries after (AreStripeEntries number (length entries) (hops_of steps))
  stripe_entries [] before after same entries there =
      ([], ap (λ (h : Histories). slice_get h.stripes number) same ∙ there ∙ ap Some (sym (append-nil entries)), refl)
  stripe_entries (s ∷ steps) before after (mid, is, rest) entries there =
      stripe_step s before mid after entries (λ place. AreStripeEntries number place (hops_of steps)) s.made.taken.stand is there
      (stripe_entries steps mid after rest)
