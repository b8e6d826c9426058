-- How values lie in a slab, beside the list of their keys in the order in which they came.
use Rattle.std.specs.Prelude.{◌≢◌, ℕ, List, [], ◌∷◌}
use Rattle.std.specs.List.{filter_map, AllByRecursion}
use Rattle.slab.specs.Slab.{Slab, get, ContainsKey}

module _ {T : Type 0} where
  -- the values under these keys, in their order
  abbrev pub listed : Slab T → List ℕ → List T
  listed slab keys = filter_map (get slab) keys

  -- there is a value under each key, and no key stands twice
  abbrev pub AreKeys : Slab T → List ℕ → Type 0
  AreKeys slab [] = Unit {0}
  AreKeys slab (key ∷ keys) = ContainsKey slab key × AllByRecursion (λ other. other ≢ key) keys × AreKeys slab keys
