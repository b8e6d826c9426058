-- What is written of groups.
use Rattle.std.proofs.Common.{drop-drop, ◌≡◌, ℕ, zero, suc, ◌+◌, ◌-◌, ◌^◌, ◌≤◌, ◌<◌, false, List, [], ◌∷◌, ◌++◌, length, get_or, take, drop, replicate, refl, sym, ap, ◌∙◌, append_assoc, arith, inl, inr}
use Rattle.std.specs.Prelude.{nat_le}
use Rattle.std.specs.List.{flat_map}
use Rattle.std.proofs.lemmas.Fmt.{digits_is_IsNumeral}
use Rattle.octets.proofs.Hex.{hex-short}
use Rattle.std.proofs.lemmas.Bool.{cases_lt, lt-ltb, le-ltb}
use Rattle.std.proofs.lemmas.List.{append-nil, get_or-take, get_or-drop, get_or_past, length-take, length-drop, length-take-le, take-append-drop}
use Rattle.octets.proofs.Cuts.{rest_is}
use Rattle.octets.specs.Numeral.{colon}
use Rattle.std.proofs.lemmas.Bool.Decides.{eqb_tells}
use Rattle.std.proofs.Math.Numerals.{add-one}
use Rattle.octets.proofs.Numerals.{either}
use Rattle.octets.specs.Text6.{IsGroup, AreGroups, AreSomeGroups, number_of_groups, IsShortened, IsText6, groups_of, group_text, joined, zeros_first, Run, longer, longest_run, text6}

-- the first group, and each other one behind a colon
joined-cons : (g : ℕ) (gs : List ℕ) → joined (g ∷ gs) ≡ group_text g ++ flat_map (λ h. colon ∷ group_text h) gs
joined-cons g [] = sym (append-nil (group_text g))
joined-cons g (k ∷ gs) = ap (λ (xs : List ℕ). group_text g ++ colon ∷ xs) (joined-cons k gs)

pub joined_at : (old groups : List ℕ) → 0 < length groups → (old ++ group_text (get_or groups 0 0)) ++ flat_map (λ h. colon ∷ group_text h) (take (length groups - 1) (drop 1 groups)) ≡ old ++ joined groups
joined_at old [] lt = absurd (omega arith)
joined_at old (g ∷ gs) lt =
    append_assoc old (group_text g) (flat_map (λ h. colon ∷ group_text h) (take (length (g ∷ gs) - 1) (drop 1 (g ∷ gs))))
    ∙ ap (λ (xs : List ℕ). old ++ (group_text g ++ flat_map (λ h. colon ∷ group_text h) xs)) (rest_is 1 (g ∷ gs))
    ∙ ap (λ (xs : List ℕ). old ++ xs) (sym (joined-cons g gs))

-- ---- what is written is read again

-- a group that is written spells its number
group_is : (g : ℕ) → g < 65536 → IsGroup (group_text g) g
group_is g lt =
    let fits : g < 16 ^ 64 = omega arith in
    let is = digits_is_IsNumeral 16 false (omega arith) (omega arith) g fits in
    record { digits = is.0; short = hex-short g lt; value = sym is.1 }

-- each group has 16 bits
pub AreSmall : List ℕ → Type 0
AreSmall gs = (i : ℕ) → get_or gs i 0 < 65536

small-take : (n : ℕ) (gs : List ℕ) → AreSmall gs → AreSmall (take n gs)
unfolding AreSmall
small-take n gs h i =
    elim (cases_lt i n) [
      | inl lt ↦ rw (get_or-take n gs i 0 lt) (h i)
      | inr le ↦ rw (get_or_past (take n gs) i 0 (omega (arith, length-take n gs))) (omega arith)
    ]

small-drop : (n : ℕ) (gs : List ℕ) → AreSmall gs → AreSmall (drop n gs)
unfolding AreSmall
small-drop n gs h i = rw (get_or-drop n gs i 0) (h (n + i))

joined_is : (g : ℕ) (gs : List ℕ) → AreSmall (g ∷ gs) → AreGroups (joined (g ∷ gs)) (g ∷ gs)
unfolding AreSmall
joined_is g [] h = group_is g (h 0)
joined_is g (k ∷ gs) h = (group_text g, joined (k ∷ gs), refl, group_is g (h 0), joined_is k gs (λ i. h (suc i)))

some_joined : (gs : List ℕ) → AreSmall gs → AreSomeGroups (joined gs) gs
some_joined [] h = inl (refl, refl)
some_joined (g ∷ gs) h = inr (joined_is g gs h)

-- ---- the longest run

zeros_are : (gs : List ℕ) → (zeros_first gs ≤ length gs) × (take (zeros_first gs) gs ≡ replicate (zeros_first gs) 0)
zeros_are [] = (omega arith, refl)
zeros_are (g ∷ gs) =
    let ih = zeros_are gs in
    elim (eqb_tells g 0) [
      | inl t ↦ rw (t.0, add-one) (omega (arith, ih.0), ap (λ (x : ℕ). x ∷ take (zeros_first gs) gs) t.1 ∙ ap (λ (xs : List ℕ). 0 ∷ xs) ih.1)
      | inr t ↦ rw t.0 (omega arith, refl)
    ]

pub record IsZeros (gs : List ℕ) (run : Run) : Type 0 where
  pub within : run.start + run.len ≤ length gs
  pub zeros : take run.len (drop run.start gs) ≡ replicate run.len 0

longer_is : (g : ℕ) (gs : List ℕ) (run : Run) → IsZeros gs run → IsZeros (g ∷ gs) (longer (zeros_first (g ∷ gs)) run)
longer_is g gs run h =
    let z = zeros_are (g ∷ gs) in
    elim (either (nat_le run.len (zeros_first (g ∷ gs)))) [
      | inl t ↦ rw t (record { within = omega (arith, z.0); zeros = z.1 })
      | inr t ↦ rw (t, add-one) (record { within = omega (arith, h.within); zeros = h.zeros })
    ]

pub run_is : (gs : List ℕ) → IsZeros gs (longest_run gs)
run_is [] = record { within = omega arith; zeros = refl }
run_is (g ∷ gs) = longer_is g gs (longest_run gs) (run_is gs)

whole_again : (s len : ℕ) (gs : List ℕ) → take len (drop s gs) ≡ replicate len 0 → (take s gs ++ replicate len 0) ++ drop (s + len) gs ≡ gs
whole_again s len gs h =
    append_assoc (take s gs) (replicate len 0) (drop (s + len) gs)
    ∙ ap (λ (xs : List ℕ). take s gs ++ xs) (ap (λ (xs : List ℕ). xs ++ drop (s + len) gs) (sym h) ∙ ap (λ (xs : List ℕ). take len (drop s gs) ++ xs) (sym (drop-drop len s gs)) ∙ take-append-drop len (drop s gs))
    ∙ take-append-drop s gs

-- ---- the whole text

groups_small : (n : ℕ) → AreSmall (groups_of n)
unfolding AreSmall
groups_small n zero = omega arith
groups_small n (suc zero) = omega arith
groups_small n (suc (suc zero)) = omega arith
groups_small n (suc (suc (suc zero))) = omega arith
groups_small n (suc (suc (suc (suc zero)))) = omega arith
groups_small n (suc (suc (suc (suc (suc zero))))) = omega arith
groups_small n (suc (suc (suc (suc (suc (suc zero)))))) = omega arith
groups_small n (suc (suc (suc (suc (suc (suc (suc zero))))))) = omega arith
groups_small n (suc (suc (suc (suc (suc (suc (suc (suc i)))))))) = omega arith

groups_make : (n : ℕ) → n < 2 ^ 128 → n ≡ number_of_groups (groups_of n)
groups_make n lt = omega arith

shortened_is : (n : ℕ) (gs : List ℕ) (run : Run) → length gs ≡ 8 → AreSmall gs → IsZeros gs run → 2 ≤ run.len → n ≡ number_of_groups gs → IsShortened (joined (take run.start gs) ++ colon ∷ colon ∷ joined (drop (run.start + run.len) gs)) n
shortened_is n gs run eight small zeros two v =
    let before = take run.start gs in
    let after = drop (run.start + run.len) gs in
    let a : length before ≡ run.start = length-take-le run.start gs (omega (arith, zeros.within)) in
    let b : length after ≡ 8 - (run.start + run.len) = omega (arith, length-drop (run.start + run.len) gs, eight) in
    let gap : 8 - (length before + length after) ≡ run.len = omega (arith, a, b, zeros.within, eight) in
    record {
      left = joined before;
      right = joined after;
      parts = refl;
      first_groups = before;
      last_groups = after;
      left_is = some_joined before (small-take run.start gs small);
      right_is = some_joined after (small-drop (run.start + run.len) gs small);
      count = omega (arith, a, b, two);
      value = v ∙ ap number_of_groups (sym (ap (λ (k : ℕ). (before ++ replicate k 0) ++ after) gap ∙ whole_again run.start run.len gs zeros.zeros));
    }

pub text6_spells : (n : ℕ) → n < 2 ^ 128 → IsText6 (text6 n) n
unfolding text6
text6_spells n lt =
    let gs = groups_of n in
    let run = longest_run gs in
    elim (cases_lt run.len 2) [
      | inl few ↦ rw (lt-ltb run.len 2 few) (inl (record { groups = gs; count = refl; spelled = joined_is _ _ (groups_small n); value = groups_make n lt }))
      | inr two ↦ rw (le-ltb run.len 2 two) (inr (shortened_is n gs run refl (groups_small n) (run_is gs) two (groups_make n lt)))
    ]
