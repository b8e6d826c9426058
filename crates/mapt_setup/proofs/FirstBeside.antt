-- The place of the first element of which something is true beside those before it.
use Rattle.std.proofs.Common.{◌≡◌, ℕ, zero, suc, ◌+◌, ◌<◌, Bool, true, false, cond, List, [], ◌∷◌, ◌++◌, length, get_or, take, refl, sym, ap, subst, ◌∙◌, arith, append_assoc, length-append, ◌⊎◌, inl, inr}
use Rattle.std.specs.Prelude.{Option, Some, None}
use Rattle.std.proofs.lemmas.List.{append-nil}
use Rattle.std.proofs.lemmas.Option.{none-some, same_Some}
use Rattle.std.proofs.lemmas.Bool.{false≢true}
use Rattle.mapt_setup.specs.Beside.{first_from, first_after, FailsBefore, IsFirstBeside}

abbrev Test : Type 0 → Type 0
Test A = List A → A → Bool

-- the first among those that follow the earlier ones
record IsFirstFrom {A : Type 0} (test : Test A) (earlier xs : List A) (place : ℕ) : Type 0 where
  within : place < length xs
  holds : (d : A) → test (earlier ++ take place xs) (get_or xs place d) ≡ true
  none_before : (k : ℕ) (d : A) → k < place → ¬ (test (earlier ++ take k xs) (get_or xs k d) ≡ true)

-- the place of the first, and how many stand before it among these
record Found {A : Type 0} (test : Test A) (earlier xs : List A) (place : ℕ) : Type 0 where
  passed : ℕ
  place_is : place ≡ length earlier + passed
  first : IsFirstFrom test earlier xs passed

found-here : {A : Type 0} (test : Test A) (earlier : List A) (x : A) (xs : List A) (place : ℕ) → test earlier x ≡ true → length earlier ≡ place → Found test earlier (x ∷ xs) place
found-here test earlier x xs place here same = record {
  passed = 0;
  place_is = omega arith;
  first = record {
    within = omega arith;
    holds = λ d. ap (λ ys. test ys x) (append-nil earlier) ∙ here;
    none_before = λ k d before. absurd (omega arith);
  };
}

found-later : {A : Type 0} (test : Test A) (earlier : List A) (x : A) (xs : List A) (place : ℕ) → test earlier x ≡ false → Found test (earlier ++ x ∷ []) xs place → Found test earlier (x ∷ xs) place
found-later {A} test earlier x xs place other found = record {
  passed = suc found.passed;
  place_is = omega (arith, found.place_is, length-append earlier (x ∷ []));
  first = record {
    within = omega (arith, found.first.within);
    holds = λ d. ap (λ ys. test ys (get_or xs found.passed d)) (sym (append_assoc earlier (x ∷ []) (take found.passed xs))) ∙ found.first.holds d;
    none_before = before;
  };
}
  where
    before : (k : ℕ) (d : A) → k < suc found.passed → ¬ (test (earlier ++ take k (x ∷ xs)) (get_or (x ∷ xs) k d) ≡ true)
    before zero d lt same = false≢true (sym other ∙ sym (ap (λ ys. test ys x) (append-nil earlier)) ∙ same)
    before (suc k) d lt same =
        found.first.none_before k d (omega arith) (ap (λ ys. test ys (get_or xs k d)) (append_assoc earlier (x ∷ []) (take k xs)) ∙ same)

either : (b : Bool) → (b ≡ true) ⊎ (b ≡ false)
either true = inl refl
either false = inr refl

found : {A : Type 0} (test : Test A) (earlier xs : List A) (place : ℕ) → first_from test earlier xs ≡ Some place → Found test earlier xs place
found test earlier [] place e = absurd (none-some place e)
found test earlier (x ∷ xs) place e =
    elim (either (test earlier x)) [
      | inl here ↦ found-here test earlier x xs place here (same_Some (length earlier) place (sym (ap (λ b. cond b (Some (length earlier)) (first_from test (earlier ++ x ∷ []) xs)) here) ∙ e))
      | inr other ↦ found-later test earlier x xs place other (found test (earlier ++ x ∷ []) xs place (sym (ap (λ b. cond b (Some (length earlier)) (first_from test (earlier ++ x ∷ []) xs)) other) ∙ e))
    ]

pub first-is : {A : Type 0} (test : Test A) (xs : List A) (place : ℕ) → first_after test xs ≡ Some place → IsFirstBeside test xs place
first-is test xs place e =
    let f = found test [] xs place e in
    let same : f.passed ≡ place = omega (arith, f.place_is) in
    let P : ℕ → Type 0 = λ n. IsFirstBeside test xs n in
    subst P same (record { within = f.first.within; holds = f.first.holds; none_before = f.first.none_before })

-- where none is found there is none
none_from : {A : Type 0} (test : Test A) (earlier xs : List A) → first_from test earlier xs ≡ None → (k : ℕ) (d : A) → k < length xs → ¬ (test (earlier ++ take k xs) (get_or xs k d) ≡ true)
none_from test earlier [] none k d within same = omega arith
none_from {A} test earlier (x ∷ xs) none k d within same =
    elim (either (test earlier x)) [
      | inl here ↦ none-some (length earlier) (sym none ∙ ap (λ b. cond b (Some (length earlier)) (first_from test (earlier ++ x ∷ []) xs)) here)
      | inr other ↦ at other (sym (ap (λ b. cond b (Some (length earlier)) (first_from test (earlier ++ x ∷ []) xs)) other) ∙ none) k within same (none_from test (earlier ++ x ∷ []) xs)
    ]
  where
    at : test earlier x ≡ false → first_from test (earlier ++ x ∷ []) xs ≡ None → (k : ℕ) → k < length (x ∷ xs) → test (earlier ++ take k (x ∷ xs)) (get_or (x ∷ xs) k d) ≡ true
        → (first_from test (earlier ++ x ∷ []) xs ≡ None → (k : ℕ) (d : A) → k < length xs → ¬ (test ((earlier ++ x ∷ []) ++ take k xs) (get_or xs k d) ≡ true))
        → ⊥
    at other none' zero within same ih = false≢true (sym other ∙ sym (ap (λ ys. test ys x) (append-nil earlier)) ∙ same)
    at other none' (suc k) within same ih =
        ih none' k d (omega arith) (ap (λ ys. test ys (get_or xs k d)) (append_assoc earlier (x ∷ []) (take k xs)) ∙ same)

pub none-is : {A : Type 0} (test : Test A) (xs : List A) → first_after test xs ≡ None → FailsBefore test xs (length xs)
none-is test xs none k d within = none_from test [] xs none k d within

-- a list with a place has an element
pub element-at : {A : Type 0} (xs : List A) (place : ℕ) → place < length xs → A
element-at [] place within = absurd (omega arith)
element-at (x ∷ xs) place within = x

pub is-none : {A : Type 0} (test : Test A) (xs : List A) (o : Option ℕ) → first_after test xs ≡ o → FailsBefore test xs (length xs) → o ≡ None
is-none test xs None e fails = refl
is-none test xs (Some place) e fails =
    let first = first-is test xs place e in
    let d = element-at xs place first.within in
    absurd (fails place d first.within (first.holds d))
