-- A place of a list, from 0, as a scan from the front finds it.
use Rattle.std.specs.Prelude.{ℕ, ◌<◌, Bool, IsTrue, List, length}
use Rattle.std.specs.List.{AllWithin, HoldsAt}

-- the element at the place passes the test, and none before it does
pub record IsFirstPlace {A : Type 0} (test : A → Bool) (xs : List A) (place : ℕ) : Type 0 where
  pub within : place < length xs
  pub passes : HoldsAt (λ x. IsTrue (test x)) xs place
  pub none_before : AllWithin (λ x. ¬ IsTrue (test x)) xs 0 place
