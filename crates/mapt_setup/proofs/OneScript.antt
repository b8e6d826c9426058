-- Two lists in one order whose ties stand alike are the same, so a script is one.
use Rattle.std.proofs.Common.{◌≡◌, ℕ, suc, ◌+◌, ◌<◌, Bool, true, false, cond, List, [], ◌∷◌, length, get_or, refl, sym, ap, subst, ◌∙◌, arith, ◌⊎◌, inl, inr}
use Rattle.std.specs.Prelude.{not, ◌&&◌}
use Rattle.std.specs.List.{filter}
use Rattle.std.specs.List.Sorted.{IsSortedBy, ties}
use Rattle.std.specs.Cmp.{IsStrictWeakOrder}
use Rattle.std.specs.Ordering.{is_lt}
use Rattle.std.proofs.lemmas.Bool.{false≢true}
use Rattle.std.proofs.lemmas.List.Sorted.{sorted_far}
use Rattle.mapt_setup.specs.declared.capture.Capture.{Capture}
use Rattle.mapt_setup.specs.declared.moves.MoveLine.{MoveLine}
use Rattle.mapt_setup.specs.declared.script.ScriptItem.{ScriptItem}
use Rattle.mapt_setup.specs.Script.{order, IsScript}
use Rattle.mapt_setup.proofs.Ordering.{order_ranks}

either : (b : Bool) → (b ≡ true) ⊎ (b ≡ false)
either true = inl refl
either false = inr refl

kept : {A : Type 0} (p : A → Bool) (x : A) (xs : List A) → p x ≡ true → filter p (x ∷ xs) ≡ x ∷ filter p xs
kept p x xs e = ap (λ (b : Bool). cond b (x ∷ filter p xs) (filter p xs)) e

left : {A : Type 0} (p : A → Bool) (x : A) (xs : List A) → p x ≡ false → filter p (x ∷ xs) ≡ filter p xs
left p x xs e = ap (λ (b : Bool). cond b (x ∷ filter p xs) (filter p xs)) e

same_head : {A : Type 0} (x y : A) (xs ys : List A) → x ∷ xs ≡ y ∷ ys → x ≡ y
same_head x y xs ys e = cc

same_tail : {A : Type 0} (x y : A) (xs ys : List A) → x ∷ xs ≡ y ∷ ys → xs ≡ ys
same_tail x y xs ys e = cc

not_empty : {A : Type 0} (x : A) (xs : List A) → [] ≡ x ∷ xs → ⊥
not_empty x xs e = cc

none_kept : {A : Type 0} (p : A → Bool) (xs : List A) → ((k : ℕ) (d : A) → k < length xs → p (get_or xs k d) ≡ false) → filter p xs ≡ []
none_kept p [] none = refl
none_kept p (x ∷ xs) none = left p x xs (none 0 x (omega arith)) ∙ none_kept p xs (λ k d within. none (suc k) d (omega arith))

tail_sorted : {A : Type 0} (lt : A → A → Bool) (x : A) (xs : List A) → IsSortedBy lt (x ∷ xs) → IsSortedBy lt xs
tail_sorted lt x xs up k d low within =
    subst (λ (n : ℕ). lt (get_or (x ∷ xs) n d) (get_or xs k d) ≡ false) (one_up k) (up (suc k) d (omega arith) (omega arith))
  where
    one_up : (n : ℕ) → suc n + 1 ≡ suc (n + 1)
    one_up n = omega arith

both_false : (a b : Bool) → a ≡ false → b ≡ false → (not a && not b) ≡ true
both_false a b e f = rw (e, f) refl

first_true : (a b : Bool) → a ≡ true → (not a && not b) ≡ false
first_true a b e = rw e refl

one_true : (a b : Bool) → (not a && not b) ≡ false → (a ≡ true) ⊎ (b ≡ true)
one_true true b e = inl refl
one_true false true e = inr refl
one_true false false e = cc

second_true : (a b : Bool) → b ≡ true → (not a && not b) ≡ false
second_true true b e = refl
second_true false b e = rw e refl

never_below : {A : Type 0} (lt : A → A → Bool) → IsStrictWeakOrder lt → (x : A) → lt x x ≡ false
never_below lt o x = elim (either (lt x x)) [
  | inl below ↦ o.one_way x x below
  | inr not ↦ not
]

-- one that is below the first of a sorted list ties with none of it
ties_none : {A : Type 0} (lt : A → A → Bool) → IsStrictWeakOrder lt → (x y : A) (ys : List A) → IsSortedBy lt (y ∷ ys) → lt x y ≡ true → filter (ties lt x) (y ∷ ys) ≡ []
ties_none {A} lt o x y ys up below = none_kept (ties lt x) (y ∷ ys) (λ k d within. first_true (lt x (get_or (y ∷ ys) k d)) (lt (get_or (y ∷ ys) k d) x) (above k d within))
  where
    above : (k : ℕ) (d : A) → k < length (y ∷ ys) → lt x (get_or (y ∷ ys) k d) ≡ true
    above k d within = elim (either (lt x (get_or (y ∷ ys) k d))) [
      | inl here ↦ here
      | inr other ↦ absurd (false≢true (sym (o.chain x (get_or (y ∷ ys) k d) y other (sorted_far lt o (y ∷ ys) up 0 k d (omega arith) within)) ∙ below))
    ]

-- the lists have the same elements that tie with any one, in the same order
pub record TieAlike {A : Type 0} (lt : A → A → Bool) (xs ys : List A) : Type 0 where
  pub at : (x : A) → filter (ties lt x) xs ≡ filter (ties lt x) ys

tie_self : {A : Type 0} (lt : A → A → Bool) → IsStrictWeakOrder lt → (x : A) → ties lt x x ≡ true
tie_self lt o x = both_false (lt x x) (lt x x) (never_below lt o x) (never_below lt o x)

tails_alike : {A : Type 0} (lt : A → A → Bool) (x y : A) (xs ys : List A) → x ≡ y → TieAlike lt (x ∷ xs) (y ∷ ys) → TieAlike lt xs ys
tails_alike {A} lt x y xs ys same alike = record { at = at }
  where
    at : (z : A) → filter (ties lt z) xs ≡ filter (ties lt z) ys
    at z = elim (either (ties lt z x)) [
      | inl ties_it ↦ same_tail x y (filter (ties lt z) xs) (filter (ties lt z) ys) (sym (kept (ties lt z) x xs ties_it) ∙ alike.at z ∙ kept (ties lt z) y ys (ap (λ (e : A). ties lt z e) (sym same) ∙ ties_it))
      | inr other ↦ sym (left (ties lt z) x xs other) ∙ alike.at z ∙ left (ties lt z) y ys (ap (λ (e : A). ties lt z e) (sym same) ∙ other)
    ]

heads_tie : {A : Type 0} (lt : A → A → Bool) → IsStrictWeakOrder lt → (x y : A) (xs ys : List A) → IsSortedBy lt (x ∷ xs) → IsSortedBy lt (y ∷ ys) → TieAlike lt (x ∷ xs) (y ∷ ys) → ties lt x y ≡ true
heads_tie lt o x y xs ys up_x up_y alike = elim (either (ties lt x y)) [
  | inl here ↦ here
  | inr other ↦ elim (one_true (lt x y) (lt y x) other) [
    | inl below ↦ absurd (not_empty x (filter (ties lt x) xs) (sym (ties_none lt o x y ys up_y below) ∙ sym (alike.at x) ∙ kept (ties lt x) x xs (tie_self lt o x)))
    | inr above ↦ absurd (not_empty y (filter (ties lt y) ys) (sym (ties_none lt o y x xs up_x above) ∙ alike.at y ∙ kept (ties lt y) y ys (tie_self lt o y)))
  ]
]

pub one_order : {A : Type 0} (lt : A → A → Bool) → IsStrictWeakOrder lt → (xs ys : List A) → IsSortedBy lt xs → IsSortedBy lt ys → TieAlike lt xs ys → xs ≡ ys
one_order lt o [] [] up_x up_y alike = refl
one_order lt o [] (y ∷ ys) up_x up_y alike = absurd (not_empty y (filter (ties lt y) ys) (alike.at y ∙ kept (ties lt y) y ys (tie_self lt o y)))
one_order lt o (x ∷ xs) [] up_x up_y alike = absurd (not_empty x (filter (ties lt x) xs) (sym (alike.at x) ∙ kept (ties lt x) x xs (tie_self lt o x)))
one_order lt o (x ∷ xs) (y ∷ ys) up_x up_y alike =
    let tie = heads_tie lt o x y xs ys up_x up_y alike in
    let same : x ≡ y = same_head x y (filter (ties lt x) xs) (filter (ties lt x) ys) (sym (kept (ties lt x) x xs (tie_self lt o x)) ∙ alike.at x ∙ kept (ties lt x) y ys tie) in
    ap (λ z. z ∷ xs) same ∙ ap (λ zs. y ∷ zs) (one_order lt o xs ys (tail_sorted lt x xs up_x) (tail_sorted lt y ys up_y) (tails_alike lt x y xs ys same alike))

pub one_script : (changes : List MoveLine) (captures : List Capture) (one other : List ScriptItem) → IsScript changes captures one → IsScript changes captures other → one ≡ other
one_script changes captures one other h g =
    let lt : ScriptItem → ScriptItem → Bool = λ x y. is_lt (order changes x y) in
    let alike : TieAlike lt one other = record { at = λ x. h.stable x ∙ sym (g.stable x) } in
    one_order lt (order_ranks changes) one other h.sorted g.sorted alike
