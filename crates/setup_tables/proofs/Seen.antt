-- What tables and arrays in memory show of the keys and the elements of their views.
use Rattle.std.proofs.Common.{◌≡◌, ℕ, List, [], ◌∷◌, map, refl, ap, ◌||◌, ◌&&◌, nat_eq, String, Global, string_bytes, Bor}
use Rattle.std.specs.List.{list_any, list_all}
use Rattle.std.specs.Map.{keys_of}
use Rattle.std.specs.Cmp.Lexicographic.{pointwise}
use Rattle.toml.specs.declared.value.Value.{Value}
use Rattle.toml.specs.Data.{Data}
use Rattle.toml.specs.View.{view, items_of, members_view}
use Rattle.setup_tables.specs.Keys.{is_among, has_only, elements, is_table}

abbrev pub Entry : Type 0
Entry = String Global × Value

-- the elements that an array's values are seen as
pub elements-items_of : (ds : List Data) → elements (items_of ds) ≡ ds
elements-items_of [] = refl
elements-items_of (d ∷ ds) = ap (λ more. d ∷ more) (elements-items_of ds)

pub all_tables-view : (vs : List Value) → list_all is_table (map view vs) ≡ list_all (λ v. is_table (view v)) vs
all_tables-view [] = refl
all_tables-view (v ∷ vs) = ap (λ more. is_table (view v) && more) (all_tables-view vs)

-- a name among texts in memory
pub is_among-now : (known : List (Bor (List ℕ))) (name : List ℕ) → is_among (map (λ x. x.now) known) name ≡ list_any (λ (x : Bor (List ℕ)). pointwise nat_eq x.now name) known
is_among-now [] name = refl
is_among-now (x ∷ xs) name = ap (λ more. pointwise nat_eq x.now name || more) (is_among-now xs name)

-- the names that a table's entries are seen as
pub has_only-keys : (known : List (Bor (List ℕ))) (es : List Entry)
    → has_only (map (λ x. x.now) known) (members_view es) ≡ list_all (λ key. list_any (λ (x : Bor (List ℕ)). pointwise nat_eq x.now (string_bytes key)) known) (keys_of es)
has_only-keys known [] = refl
has_only-keys known (e ∷ es) = rw (is_among-now known (string_bytes e.0), has_only-keys known es)
