-- What stands at a place of two lists one behind the other, and of a list with one element changed; and lists whose elements are
-- all so.
use Rattle.std.proofs.Common.{◌≡◌, refl, ap, ℕ, zero, suc, ◌<◌, ◌⊎◌, inl, inr, Bool, true, false, List, [], ◌∷◌, ◌++◌, map, length, Some, arith}
use Rattle.std.specs.Prelude.{slice_get, slice_set, filter}

-- ---- places

pub get_front : {A : Type 0} (xs ys : List A) (k : ℕ) (x : A) → slice_get xs k ≡ Some x → slice_get (xs ++ ys) k ≡ Some x
get_front [] ys k x at = absurd (cc)
get_front (y ∷ xs) ys zero x at = at
get_front (y ∷ xs) ys (suc k) x at = get_front xs ys k x at

pub get_behind : {A : Type 0} (xs ys : List A) (x : A) → slice_get (xs ++ x ∷ ys) (length xs) ≡ Some x
get_behind [] ys x = refl
get_behind (y ∷ xs) ys x = get_behind xs ys x

pub get_within : {A : Type 0} (xs ys : List A) (k : ℕ) (x : A) → k < length xs → slice_get (xs ++ ys) k ≡ Some x → slice_get xs k ≡ Some x
get_within [] ys k x within at = absurd (omega arith)
get_within (y ∷ xs) ys zero x within at = at
get_within (y ∷ xs) ys (suc k) x within at = get_within xs ys k x (omega arith) at

-- it stands in front, or is the last
pub get_last : {A : Type 0} (xs : List A) (last : A) (k : ℕ) (x : A) → slice_get (xs ++ last ∷ []) k ≡ Some x → (slice_get xs k ≡ Some x) ⊎ (last ≡ x)
get_last [] last zero x at = inr (cc)
get_last [] last (suc k) x at = absurd (cc)
get_last (y ∷ xs) last zero x at = inl at
get_last (y ∷ xs) last (suc k) x at = get_last xs last k x at

-- one element changed
pub set_same : {A : Type 0} (xs : List A) (k : ℕ) (old new : A) → slice_get xs k ≡ Some old → slice_get (slice_set xs k new) k ≡ Some new
set_same [] k old new at = absurd (cc)
set_same (y ∷ xs) zero old new at = refl
set_same (y ∷ xs) (suc k) old new at = set_same xs k old new at

pub set_other : {A : Type 0} (xs : List A) (j k : ℕ) (new : A) → (k ≡ j → ⊥) → slice_get (slice_set xs k new) j ≡ slice_get xs j
set_other [] j k new differ = refl
set_other (y ∷ xs) zero zero new differ = absurd (differ refl)
set_other (y ∷ xs) zero (suc k) new differ = refl
set_other (y ∷ xs) (suc j) zero new differ = refl
set_other (y ∷ xs) (suc j) (suc k) new differ = set_other xs j k new (λ same. differ (ap suc same))

-- what is written of an element
pub get_written : {A B : Type 0} (f : A → B) (xs : List A) (k : ℕ) (y : B) → slice_get (map f xs) k ≡ Some y → (x : A) × (slice_get xs k ≡ Some x) × (y ≡ f x)
get_written f [] k y at = absurd (cc)
get_written f (x ∷ xs) zero y at = (x, refl, cc)
get_written f (x ∷ xs) (suc k) y at = get_written f xs k y at

pub get_map : {A B : Type 0} (f : A → B) (xs : List A) (k : ℕ) (x : A) → slice_get xs k ≡ Some x → slice_get (map f xs) k ≡ Some (f x)
get_map f [] k x at = absurd (cc)
get_map f (y ∷ xs) zero x at = let same : y ≡ x = cc in ap (λ z. Some (f z)) same
get_map f (y ∷ xs) (suc k) x at = get_map f xs k x at

-- ---- lists whose elements are all so

abbrev pub Every : {A : Type 0} → (A → Type 0) → List A → Type 0
Every {A} P [] = Unit {0}
Every {A} P (x ∷ xs) = P x × Every P xs

pub every_both : {A : Type 0} (P : A → Type 0) (xs ys : List A) → Every P xs → Every P ys → Every P (xs ++ ys)
every_both P [] ys left right = right
every_both P (x ∷ xs) ys left right = (left.0, every_both P xs ys left.1 right)

pub every_so : {A : Type 0} (P Q : A → Type 0) → ((x : A) → P x → Q x) → (xs : List A) → Every P xs → Every Q xs
every_so P Q so [] each = tt
every_so P Q so (x ∷ xs) each = (so x each.0, every_so P Q so xs each.1)

pub every_pair : {A : Type 0} (P Q R : A → Type 0) → ((x : A) → P x → Q x → R x) → (xs : List A) → Every P xs → Every Q xs → Every R xs
every_pair P Q R so [] left right = tt
every_pair P Q R so (x ∷ xs) left right = (so x left.0 right.0, every_pair P Q R so xs left.1 right.1)

pub every_behind : {A : Type 0} (P : A → Type 0) (xs : List A) (x : A) (ys : List A) → Every P (xs ++ x ∷ ys) → P x
every_behind P [] x ys each = each.0
every_behind P (y ∷ xs) x ys each = every_behind P xs x ys each.1

-- ---- tests

pub filter_all : {A : Type 0} (test : A → Bool) (xs : List A) → Every (λ x. test x ≡ true) xs → filter test xs ≡ xs
filter_all test [] each = refl
filter_all test (x ∷ xs) each = rw each.0 (ap (λ ys. x ∷ ys) (filter_all test xs each.1))

pub filter_none : {A : Type 0} (test : A → Bool) (xs : List A) → Every (λ x. test x ≡ false) xs → filter test xs ≡ []
filter_none test [] each = refl
filter_none test (x ∷ xs) each = rw each.0 (filter_none test xs each.1)
