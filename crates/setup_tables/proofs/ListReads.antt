-- Tables that say nothing, and lists of what tables say.
use Rattle.std.proofs.Common.{◌≡◌, ℕ, ◌+◌, ◌<◌, ◌≤◌, subst, arith, List, [], ◌∷◌, ◌++◌, map, take, length, get_or, Option, Some, None, IfNone, refl, sym, ap, ◌∙◌, option_map, add-one, zero, suc}
use Rattle.std.specs.List.{All, AllZip}
use Rattle.std.proofs.lemmas.Option.{same_Some, slice_get_read, slice_get-map}
use Rattle.std.proofs.Math.Seq.{take-suc}
use Rattle.std.proofs.lemmas.List.{take-map, map-append, length-map}
use Rattle.toml.specs.Data.{Data, string, integer, float, boolean, datetime, array, table, Members, as_table}
use Rattle.setup_tables.specs.Answer.{HasNone, OfTable, IsFirstBad}

-- a fact holds also where it is asked for at no value alone
pub at_none : {A P : Type 0} (o : Option A) → P → IfNone o P
at_none None p = p
at_none (Some x) p = tt

-- what a value that is a table says
pub says : {A : Type 0} (Says : Members → A → Type 0) (d : Data) (ms : Members) (x : A) → Some ms ≡ as_table d → Says ms x → OfTable Says d x
says Says (table ns) ms x same h = let P : Members → Type 0 = λ m. Says m x in subst P (same_Some _ _ same) h
says Says (string _) ms x same h = absurd (cc)
says Says (integer _) ms x same h = absurd (cc)
says Says (float _) ms x same h = absurd (cc)
says Says (boolean _) ms x same h = absurd (cc)
says Says (datetime _) ms x same h = absurd (cc)
says Says (array _) ms x same h = absurd (cc)

-- a value whose table says nothing has nothing
pub says_nothing : {A : Type 0} (Says : Members → A → Type 0) (d : Data) (ms : Members) → Some ms ≡ as_table d → HasNone Says ms → HasNone (OfTable Says) d
says_nothing Says (table ns) ms same none = λ x h. none x (let P : Members → Type 0 = λ m. Says m x in subst P (same_Some _ _ (sym same)) h)
says_nothing Says (string _) ms same none = λ x h. h
says_nothing Says (integer _) ms same none = λ x h. h
says_nothing Says (float _) ms same none = λ x h. h
says_nothing Says (boolean _) ms same none = λ x h. h
says_nothing Says (datetime _) ms same none = λ x h. h
says_nothing Says (array _) ms same none = λ x h. h

-- one more pair at the end
pub AllZip-push : {A B : Type 0} (R : A → B → Type 0) (xs : List A) (ys : List B) (x : A) (y : B) → AllZip R xs ys → R x y → AllZip R (xs ++ x ∷ []) (ys ++ y ∷ [])
AllZip-push R [] [] x y all here = (here, tt)
AllZip-push R [] (b ∷ ys) x y all here = absurd all
AllZip-push R (a ∷ xs) [] x y all here = absurd all
AllZip-push R (a ∷ xs) (b ∷ ys) x y all here = (all.0, AllZip-push R xs ys x y all.1 here)

-- one more element is read
pub read-push : {V D A : Type 0} (seen : V → D) (Is : D → A → Type 0) (vs : List V) (xs : List A) (i : ℕ) (v : V) (x : A)
    → i < length vs → v ≡ get_or vs i v → AllZip Is (map seen (take i vs)) xs → Is (seen v) x → AllZip Is (map seen (take (i + 1) vs)) (xs ++ x ∷ [])
read-push seen Is vs xs i v x within there all here =
    let more : take (i + 1) vs ≡ take i vs ++ v ∷ [] = rw add-one (take-suc vs i v within ∙ ap (λ y. take i vs ++ y ∷ []) (sym there)) in
    rw (more, map-append seen (take i vs) (v ∷ [])) (AllZip-push Is (map seen (take i vs)) xs (seen v) x all here)

-- the next element is the first bad one
pub first_bad : {V D A : Type 0} (seen : V → D) (Is : D → A → Type 0) (Bad : D → Type 0) (vs : List V) (xs : List A) (i : ℕ) (v : V)
    → i < length vs → v ≡ get_or vs i v → AllZip Is (map seen (take i vs)) xs → Bad (seen v) → IsFirstBad Is Bad (map seen vs) i
first_bad seen Is Bad vs xs i v within there all here = record {
  values = xs;
  before = rw (take-map seen i vs) all;
  element = seen v;
  there = slice_get-map seen vs i ∙ ap (option_map seen) (slice_get_read vs (length vs) i v refl within there);
  bad = here;
}

pub map-same : {A : Type 0} (xs : List A) → map (λ (x : A). x) xs ≡ xs
map-same [] = refl
map-same (x ∷ xs) = ap (λ more. x ∷ more) (map-same xs)

pub take_all : {A : Type 0} (i : ℕ) (xs : List A) → length xs ≤ i → take i xs ≡ xs
take_all zero [] h = refl
take_all zero (x ∷ xs) h = absurd (omega arith)
take_all (suc i) [] h = refl
take_all (suc i) (x ∷ xs) h = ap (λ more. x ∷ more) (take_all i xs (omega arith))

-- as many are read as there are
pub length-AllZip : {A B : Type 0} (R : A → B → Type 0) (xs : List A) (ys : List B) → AllZip R xs ys → length ys ≡ length xs
length-AllZip R [] [] all = refl
length-AllZip R [] (y ∷ ys) all = absurd all
length-AllZip R (x ∷ xs) [] all = absurd all
length-AllZip R (x ∷ xs) (y ∷ ys) all = ap suc (length-AllZip R xs ys all.1)

-- so many are read, of elements in memory
pub few_read : {V D A : Type 0} (seen : V → D) (Is : D → A → Type 0) (most : ℕ) (vs : List V) (xs : List A) → AllZip Is (map seen vs) xs → length vs ≤ most → length xs ≤ most
few_read seen Is most vs xs all few = omega (arith, length-AllZip Is (map seen vs) xs all, length-map vs seen)

-- what holds of each element holds of what each gives
pub all_given : {D A : Type 0} (P : D → Type 0) (R : D → A → Type 0) (Q : A → Type 0) → ((d : D) (x : A) → P d → R d x → Q x) → (ds : List D) (xs : List A) → All P ds → AllZip R ds xs → All Q xs
all_given P R Q gives [] [] all zip k e within = absurd (omega arith)
all_given P R Q gives [] (x ∷ xs) all zip k e within = absurd zip
all_given P R Q gives (d ∷ ds) [] all zip k e within = absurd zip
all_given P R Q gives (d ∷ ds) (x ∷ xs) all zip zero e within = gives d x (all 0 d (omega arith)) zip.0
all_given P R Q gives (d ∷ ds) (x ∷ xs) all zip (suc k) e within = all_given P R Q gives ds xs (λ j f below. all (suc j) f (omega arith)) zip.1 k e (omega arith)

pub all_read : {D A : Type 0} (R : D → A → Type 0) (Q : A → Type 0) → ((d : D) (x : A) → R d x → Q x) → (ds : List D) (xs : List A) → AllZip R ds xs → All Q xs
all_read R Q gives ds xs zip = all_given (λ d. Unit {0}) R Q (λ d x _ r. gives d x r) ds xs (λ k d within. tt) zip
