-- `position` is the first place at which a test passes.
use Rattle.std.proofs.Common.{◌≡◌, ℕ, ◌<◌, ◌≤◌, Bool, true, false, cond, ltb, List, [], ◌∷◌, length, get_or, Some, None, refl, sym, ap, ◌∙◌, arith}
use Rattle.std.specs.List.{position, position_or_len}
use Rattle.std.proofs.lemmas.Bool.{lt-ltb, false≢true}
use Rattle.std.proofs.lemmas.Option.{none-some}
use Rattle.std.proofs.lemmas.List.Quantifiers.{position-Some}
use Rattle.std.proofs.lemmas.List.Sums.{position_or_len_is, fails_before_first}
use Rattle.std.proofs.lemmas.Bool.Decides.{nat_tests}
use Rattle.octets.specs.Place.{IsFirstPlace}

fails : (b : Bool) → ¬ (b ≡ true) → b ≡ false
fails true never = absurd (never refl)
fails false never = refl

position-is : {A : Type 0} (p : A → Bool) (xs : List A) (i : ℕ) → position p xs ≡ Some i → IsFirstPlace p xs i
position-is p [] i found = absurd (none-some i found)
position-is p (x ∷ xs) i found =
    let place = position-Some p (x ∷ xs) i x found in
    record {
      within = place.0;
      passes = λ d. (position-Some p (x ∷ xs) i d found).1;
      none_before = λ k d least before same. false≢true (sym ((position-Some p (x ∷ xs) i d found).2 k before) ∙ same);
    }

position-at : {A : Type 0} (p : A → Bool) (xs : List A) (i : ℕ) → IsFirstPlace p xs i → position p xs ≡ Some i
position-at p [] i first = absurd (omega (arith, first.within))
position-at p (x ∷ xs) i first =
    let len : ℕ = length (x ∷ xs) in
    let at : position_or_len p (x ∷ xs) ≡ i = position_or_len_is p (x ∷ xs) i x (omega (arith, first.within)) (λ k before. fails (p (get_or (x ∷ xs) k x)) (first.none_before k x (omega arith) before)) (λ within. first.passes x) in
    ap (λ (n : ℕ). cond (ltb n len) (Some n) None) at ∙ ap (λ (b : Bool). cond b (Some i) None) (lt-ltb i len first.within)

pub position-exactly : {A : Type 0} (p : A → Bool) (xs : List A) (i : ℕ) → (position p xs ≡ Some i → IsFirstPlace p xs i) × (IsFirstPlace p xs i → position p xs ≡ Some i)
position-exactly p xs i = (position-is p xs i, position-at p xs i)

past_end : (b : Bool) (i : ℕ) → cond b (Some i) None ≡ None → b ≡ false
past_end true i e = cc
past_end false i e = refl

-- there is no place where no element passes
pub position-none : {A : Type 0} (p : A → Bool) (xs : List A) → position p xs ≡ None → (k : ℕ) (d : A) → k < length xs → p (get_or xs k d) ≡ false
position-none p xs none k d within =
    let past : ltb (position_or_len p xs) (length xs) ≡ false = past_end (ltb (position_or_len p xs) (length xs)) (position_or_len p xs) none in
    let long : length xs ≤ position_or_len p xs = grind (arith, nat_tests) in
    fails_before_first p xs k d (omega arith)
