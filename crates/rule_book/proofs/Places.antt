-- What was read at a place of a list.
use Rattle.std.proofs.Common.{◌≡◌, ℕ, ◌+◌, ◌<◌, List, [], ◌∷◌, ◌++◌, take, length, ◌∙◌, ap, arith}
use Rattle.std.specs.Prelude.{Some, None, slice_get}
use Rattle.std.proofs.lemmas.List.{take_more}
use Rattle.std.proofs.lemmas.Option.{slice_get_within, get_or_from_slice_get, slice_get-get_or}

-- one element more, by what was read
pub take-read : {X : Type 0} (xs : List X) (i : ℕ) (x : X) → slice_get xs i ≡ Some x → take (i + 1) xs ≡ take i xs ++ x ∷ []
take-read xs i x read = take_more xs i x (slice_get_within xs i x read) ∙ ap (λ y. take i xs ++ y ∷ []) (get_or_from_slice_get xs i x x read)

-- a place within isn't empty
pub none-within : {X : Type 0} (xs : List X) (i : ℕ) → i < length xs → slice_get xs i ≡ None → ⊥
none-within [] i within none = absurd (omega arith)
none-within (x ∷ xs) i within none = let there = slice_get-get_or (x ∷ xs) i x within in cc
