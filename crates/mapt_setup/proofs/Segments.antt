-- The segments of a script.
use Rattle.std.proofs.Common.{◌≡◌, ℕ, ◌+◌, ◌<◌, Bool, true, false, cond, List, [], ◌∷◌, length, refl, sym, ap, ◌∙◌, arith, ◌⊎◌, inl, inr}
use Rattle.std.specs.Prelude.{not}
use Rattle.std.specs.List.{filter, flat_map, count_by}
use Rattle.std.proofs.lemmas.List.Sums.{sum_by-cons}
use Rattle.mapt_setup.specs.declared.script.ScriptItem.{ScriptItem}
use Rattle.mapt_setup.specs.Script.{is_still, with_first, segments_of}

abbrev Segments : Type 0
Segments = List (List ScriptItem)

either : (b : Bool) → (b ≡ true) ⊎ (b ≡ false)
either true = inl refl
either false = inr refl

first_counts : (item : ScriptItem) (ss : Segments) → 0 < length ss → length (with_first item ss) ≡ length ss
first_counts item [] some = absurd (omega arith)
first_counts item (s ∷ ss) some = refl

abbrev next : Bool → ScriptItem → Segments → Segments
next b item ss = cond b ([] ∷ ss) (with_first item ss)

pub segment_count : (items : List ScriptItem) → length (segments_of items) ≡ 1 + count_by is_still items
segment_count [] = refl
segment_count (item ∷ items) =
    let rest = segment_count items in
    let parts : count_by is_still (item ∷ items) ≡ cond {A = ℕ} (is_still item) 1 0 + count_by is_still items = sum_by-cons (λ (x : ScriptItem). cond {A = ℕ} (is_still x) 1 0) item items in
    by_test (is_still item) rest ∙ ap (λ (n : ℕ). 1 + n) (sym parts)
  where
    by_test : (b : Bool) → length (segments_of items) ≡ 1 + count_by is_still items → length (next b item (segments_of items)) ≡ 1 + (cond {A = ℕ} b 1 0 + count_by is_still items)
    by_test true rest = omega (arith, rest)
    by_test false rest = omega (arith, rest, first_counts item (segments_of items) (omega (arith, rest)))

abbrev whole : Segments → List ScriptItem
whole ss = flat_map (λ (s : List ScriptItem). s) ss

first_whole : (item : ScriptItem) (ss : Segments) → whole (with_first item ss) ≡ item ∷ whole ss
first_whole item [] = refl
first_whole item (s ∷ ss) = refl

abbrev goes_on : ScriptItem → Bool
goes_on item = not (is_still item)

pub segment_items : (items : List ScriptItem) → whole (segments_of items) ≡ filter goes_on items
segment_items [] = refl
segment_items (item ∷ items) = by_test (is_still item) (segment_items items)
  where
    by_test : (b : Bool) → whole (segments_of items) ≡ filter goes_on items → whole (next b item (segments_of items)) ≡ cond (not b) (item ∷ filter goes_on items) (filter goes_on items)
    by_test true same = same
    by_test false same = first_whole item (segments_of items) ∙ ap (λ (rest : List ScriptItem). item ∷ rest) same
