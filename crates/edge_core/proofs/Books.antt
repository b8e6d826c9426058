-- The rules that were used, once those of a newer generation come last.
use Rattle.std.proofs.Common.{◌≡◌, ℕ, ◌<◌, ◌≤◌, Bool, true, false, List, [], ◌∷◌, ◌++◌, get_or, Option, Some, None, cond, is_some, refl, sym, ap, ◌∙◌, arith}
use Rattle.std.specs.Prelude.{◌==◌}
use Rattle.std.specs.Option.{IsSome, option_or}
use Rattle.std.specs.List.{All}
use Rattle.std.proofs.lemmas.Bool.{eqb-true, eq-eqb}
use Rattle.std.proofs.lemmas.List.Elements.{All-head, All-tail, All-push, All-weaker}
use Rattle.std.proofs.lemmas.List.Folds.{find-append}
use Rattle.std.proofs.lemmas.List.Quantifiers.{all_pairs_push}
use Rattle.nat_model.specs.State.{Generation}
use Rattle.nat_model.specs.History.{book_of}
use Rattle.edge_core.specs.Used.{AreUsed}

-- what was found is found still
pub book_of-more : (number : ℕ) (books more : List Generation) → IsSome (book_of number books) → book_of number (books ++ more) ≡ book_of number books
book_of-more number books more found =
    find-append (λ b. b.number == number) books more ∙ kept (book_of number books) found
  where
    kept : (o : Option Generation) → IsSome o → option_or o (book_of number more) ≡ o
    kept None none = absurd (cc)
    kept (Some b) some = refl

-- rules that are found are of that generation
pub book_of-number : (number : ℕ) (books : List Generation) (b : Generation) → book_of number books ≡ Some b → b.number ≡ number
book_of-number number [] b found = absurd (cc)
book_of-number number (c ∷ books) b found = by_test (c.number == number) refl (book_of-number number books b) found
  where
    by_test : (t : Bool) → (c.number == number) ≡ t → (book_of number books ≡ Some b → b.number ≡ number) → cond t (Some c) (book_of number books) ≡ Some b → b.number ≡ number
    by_test true same rest here = let is : c ≡ b = cc in ap (λ (g : Generation). g.number) (sym is) ∙ eqb-true c.number number same
    by_test false differs rest later = rest later

-- no rules are of a generation that is greater than all
pub book_of-greater : (number used : ℕ) (books : List Generation) → All (λ b. b.number ≤ used) books → used < number → book_of number books ≡ None
book_of-greater number used [] all greater = refl
book_of-greater number used (b ∷ books) all greater =
    let here = All-head (λ c. c.number ≤ used) b books all in
    let differs : (b.number == number) ≡ false = by_cases (b.number == number) refl here in
    ap (λ t. cond t (Some b) (book_of number books)) differs ∙ book_of-greater number used books (All-tail (λ c. c.number ≤ used) b books all) greater
  where
    by_cases : (t : Bool) → (b.number == number) ≡ t → b.number ≤ used → (b.number == number) ≡ false
    by_cases true same le = absurd (omega (arith, eqb-true b.number number same))
    by_cases false differs le = differs

-- so newer rules that come last are found
pub book_of-newest : (used : ℕ) (books : List Generation) (g : Generation) → All (λ b. b.number ≤ used) books → used < g.number → book_of g.number (books ++ g ∷ []) ≡ Some g
book_of-newest used books g all greater =
    find-append (λ b. b.number == g.number) books (g ∷ []) ∙ ap (λ o. option_or o (book_of g.number (g ∷ []))) (book_of-greater g.number used books all greater) ∙ ap (λ t. cond t (Some g) None) (eq-eqb g.number g.number refl)

-- and are then the greatest
pub AreUsed-newest : (used : ℕ) (books : List Generation) (g : Generation) → AreUsed books used → used < g.number → AreUsed (books ++ g ∷ []) g.number
AreUsed-newest used books g are greater = record {
  rising = all_pairs_push (λ a b. a.number < b.number) books g are.rising (λ k d within. let here : (get_or books k d).number ≤ used = are.greatest k d within in omega arith);
  greatest = All-push (λ b. b.number ≤ g.number) books g (All-weaker (λ b. b.number ≤ used) (λ b. b.number ≤ g.number) (λ b le. omega arith) books are.greatest) (omega arith);
  there = ap is_some (book_of-newest used books g are.greatest greater);
}
