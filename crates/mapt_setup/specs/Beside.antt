-- Elements of a list beside those before them: the first of which something is true, and that there is none.
use Rattle.std.specs.Prelude.{ℕ, ◌<◌, ◌++◌, Bool, IsTrue, List, [], ◌∷◌, length, take, slice_index_or, if◌then◌else◌, Option, Some, None}

-- among the elements that follow the earlier ones, the place of the first of which this is true beside those
-- before it
abbrev pub first_from : {A : Type 0} → (List A → A → Bool) → List A → List A → Option ℕ
first_from test earlier [] = None
first_from test earlier (x ∷ xs) = if test earlier x then Some (length earlier) else first_from test (earlier ++ x ∷ []) xs

abbrev pub first_after : {A : Type 0} → (List A → A → Bool) → List A → Option ℕ
first_after test xs = first_from test [] xs

-- the test is true of the element at this place, beside those before it
abbrev pub HoldsBeside : {A : Type 0} → (List A → A → Bool) → List A → ℕ → Type 0
HoldsBeside {A} test xs place = (d : A) → IsTrue (test (take place xs) (slice_index_or xs place d))

-- it is true of no element before this place
abbrev pub FailsBefore : {A : Type 0} → (List A → A → Bool) → List A → ℕ → Type 0
FailsBefore {A} test xs place = (k : ℕ) (d : A) → k < place → ¬ IsTrue (test (take k xs) (slice_index_or xs k d))

-- the first element of which it is true
pub record IsFirstBeside {A : Type 0} (test : List A → A → Bool) (xs : List A) (place : ℕ) : Type 0 where
  pub within : place < length xs
  pub holds : HoldsBeside test xs place
  pub none_before : FailsBefore test xs place
