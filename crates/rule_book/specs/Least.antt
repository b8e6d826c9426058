-- What a refusal that names two places tells: the least rules that show it.
use Rattle.std.specs.Prelude.{ℕ, ◌<◌, Bool, IsTrue, List, length, take, slice_index_or}
use Rattle.std.specs.List.{AllPairs}
use Rattle.map_rules.specs.declared.rule.Rule.{Rule}

-- the rules at places i and j clash, the earlier first. No two of the rules before j do, so none does with
-- a later rule before j; and none before i clashes with the one at j
pub record IsLeastPair (clash : Rule → Rule → Bool) (rules : List Rule) (i j : ℕ) : Type 0 where
  pub ordered : i < j
  pub within : j < length rules
  pub clashes : (d : Rule) → IsTrue (clash (slice_index_or rules i d) (slice_index_or rules j d))
  pub before : AllPairs (λ r s. ¬ IsTrue (clash r s)) (take j rules)
  pub earlier : (k : ℕ) (d : Rule) → k < i → ¬ IsTrue (clash (slice_index_or rules k d) (slice_index_or rules j d))
