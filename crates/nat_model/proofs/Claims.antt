-- The least number that passes a test, and what the first place that passes tells of a list.
use Rattle.std.proofs.Common.{◌≡◌, ℕ, ◌<◌, ◌≤◌, Bool, true, false, List, [], ◌∷◌, Some, None, get_or, set, length, zero, suc, ltb, refl, ap, ◌∙◌, arith, ⊎_elim}
use Rattle.std.proofs.lemmas.Bool.{cases_lt, lt-ltb}
use Rattle.std.proofs.lemmas.List.Folds.{find_at}
use Rattle.std.proofs.lemmas.Option.{slice_get_past}
use Rattle.std.specs.List.{find, position, position_or_len}
use Rattle.std.proofs.lemmas.List.Quantifiers.{position-Some}
use Rattle.nat_model.specs.declared.binding.Binding.{Binding}
use Rattle.nat_model.specs.Binding.{first_changed}
use Rattle.nat_model.specs.Claim.{least_below, least_or_this}

-- no number below n passes
pub least-none : (test : ℕ → Bool) (n : ℕ) → ((y : ℕ) → y < n → test y ≡ false) → least_below test n ≡ None
unfolding least_below
least-none test zero fails = refl
least-none test (suc n) fails =
    let here : test n ≡ false = fails n (omega arith) in
    let before : least_below test n ≡ None = least-none test n (λ y h. fails y (omega arith)) in
    rw (before, here) refl

-- x passes, and no number below it does
pub least-is : (test : ℕ → Bool) (n x : ℕ) → x < n → test x ≡ true → ((y : ℕ) → y < x → test y ≡ false) → least_below test n ≡ Some x
unfolding least_below
least-is test zero x lt passes fails = absurd (omega arith)
least-is test (suc n) x lt passes fails =
    let P : Type 0 = least_or_this test n (least_below test n) ≡ Some x in
    ⊎_elim
    (λ (below : x < n). let before : least_below test n ≡ Some x = least-is test n x below passes fails in let r : P = rw before refl in r)
    (λ (above : n ≤ x).
    let same : n ≡ x = omega arith in
    let before : least_below test n ≡ None = least-none test n (λ y h. fails y (omega arith)) in
    let here : test n ≡ true = ap test same ∙ passes in
    let r : P = rw (before, here) (ap Some same) in r)
    (cases_lt x n)

-- the first place at which the test passes tells what is found, and what is changed
pub first-at : (test : Binding → Bool) (bs : List Binding) (i : ℕ) (d : Binding) → i < length bs → test (get_or bs i d) ≡ true → ((k : ℕ) → k < i → test (get_or bs k d) ≡ false) → (find test bs ≡ Some (get_or bs i d)) × ((change : Binding → Binding) → first_changed test change bs ≡ set bs i (change (get_or bs i d)))
first-at test [] i d lt passes fails = absurd (omega arith)
first-at test (b ∷ bs) zero d lt passes fails = (rw passes refl, λ change. rw passes refl)
first-at test (b ∷ bs) (suc i) d lt passes fails =
    let here : test b ≡ false = fails 0 (omega arith) in
    let rest = first-at test bs i d (omega arith) passes (λ k h. fails (suc k) (omega arith)) in
    (rw here rest.0, λ change. rw here (ap (λ ys. b ∷ ys) (rest.1 change)))

-- a place that is found
pub place-tells : (test : Binding → Bool) (bs : List Binding) (i : ℕ) (d : Binding) → position test bs ≡ Some i → (i < length bs) × (find test bs ≡ Some (get_or bs i d)) × ((change : Binding → Binding) → first_changed test change bs ≡ set bs i (change (get_or bs i d)))
place-tells test bs i d e =
    let at = position-Some test bs i d e in
    let first = first-at test bs i d at.0 at.1 at.2 in
    (at.0, first.0, first.1)

-- no place
pub no-place : (test : Binding → Bool) (bs : List Binding) → position test bs ≡ None → find test bs ≡ None
no-place test bs e =
    ⊎_elim
    (λ (lt : position_or_len test bs < length bs).
    let t : ltb (position_or_len test bs) (length bs) ≡ true = lt-ltb _ _ lt in
    let r : position test bs ≡ Some (position_or_len test bs) = rw t refl in
    absurd (cc))
    (λ (ge : length bs ≤ position_or_len test bs). find_at test bs ∙ slice_get_past bs (position_or_len test bs) ge)
    (cases_lt (position_or_len test bs) (length bs))
