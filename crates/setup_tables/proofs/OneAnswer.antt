-- An answer of stages has at most one result, where each stage has.
use Rattle.std.proofs.Common.{◌≡◌, ℕ, ◌<◌, List, [], ◌∷◌, take, length, get_or, slice_get, Option, Some, None, IsSomeAnd, Result, Ok, Err, refl, sym, ap, subst, ◌∙◌, arith, inl, inr}
use Rattle.std.specs.List.{AllZip}
use Rattle.std.proofs.lemmas.Bool.{cases_order}
use Rattle.std.proofs.lemmas.List.{get_or-take, length-take}
use Rattle.std.proofs.lemmas.Option.{slice_get_within, slice_get-get_or, get_or_from_slice_get}
use Rattle.std.proofs.lemmas.Slice.Zip.{AllZip-left}
use Rattle.setup_tables.specs.declared.fault.SetupCause.{SetupCause}
use Rattle.setup_tables.specs.declared.fault.SetupFault.{SetupFault}
use Rattle.setup_tables.specs.declared.fault.SetupFault.TheVariants.{Refused}
use Rattle.setup_tables.specs.Answer.{◌>>=◌, IsThen, barring, exactly, such, the, each, IsFirstBad}

abbrev pub IsOne : {A : Type 0} → (Result A SetupFault → Type 0) → Type 0
IsOne {A} answer = (r s : Result A SetupFault) → answer r → answer s → r ≡ s

abbrev good : {A : Type 0} → A → Result A SetupFault
good x = Ok x

abbrev bad : {A : Type 0} → SetupFault → Result A SetupFault
bad e = Err e

same_value : {A : Type 0} (x y : A) → good x ≡ good y → x ≡ y
same_value x y e = cc

same_fault : {A : Type 0} (e f : SetupFault) → bad {A = A} e ≡ bad f → e ≡ f
same_fault e f same = cc

no_both : {A : Type 0} (x : A) (e : SetupFault) → bad e ≡ good x → ⊥
no_both x e same = cc

-- ---- one stage after another

both_go_on : {A B : Type 0} (first : Result A SetupFault → Type 0) (next : A → Result B SetupFault → Type 0) (r s : Result B SetupFault) → IsOne first → ((x : A) → IsOne (next x)) → IsThen first next r → IsThen first next s → r ≡ s
both_go_on first next r s one more h g =
    let same = same_value h.value g.value (one (Ok h.value) (Ok g.value) h.stage g.stage) in
    more g.value r s (subst (λ x. next x r) same h.rest) g.rest

one_stops : {A B : Type 0} (first : Result A SetupFault → Type 0) (next : A → Result B SetupFault → Type 0) (e : SetupFault) (s : Result B SetupFault) → IsOne first → first (Err e) → IsThen first next s → ⊥
one_stops first next e s one h g = no_both g.value e (one (Err e) (Ok g.value) h g.stage)

pub then_one : {A B : Type 0} (first : Result A SetupFault → Type 0) (next : A → Result B SetupFault → Type 0) → IsOne first → ((x : A) → IsOne (next x)) → IsOne (first >>= next)
then_one first next one more (Ok x) (Ok y) h g = both_go_on first next (Ok x) (Ok y) one more h g
then_one first next one more (Ok x) (Err f) h (inl g) = absurd (one_stops first next f (Ok x) one g h)
then_one first next one more (Ok x) (Err f) h (inr g) = both_go_on first next (Ok x) (Err f) one more h g
then_one first next one more (Err e) (Ok y) (inl h) g = absurd (one_stops first next e (Ok y) one h g)
then_one first next one more (Err e) (Ok y) (inr h) g = both_go_on first next (Err e) (Ok y) one more h g
then_one first next one more (Err e) (Err f) (inl h) (inl g) = ap Err (same_fault e f (one (Err e) (Err f) h g))
then_one first next one more (Err e) (Err f) (inl h) (inr g) = absurd (one_stops first next e (Err f) one h g)
then_one first next one more (Err e) (Err f) (inr h) (inl g) = absurd (one_stops first next f (Err e) one g h)
then_one first next one more (Err e) (Err f) (inr h) (inr g) = both_go_on first next (Err e) (Err f) one more h g

pub barring_one : {A : Type 0} (fault : Option SetupFault) (next : Result A SetupFault → Type 0) → IsOne next → IsOne (barring fault next)
barring_one None next one = one
barring_one (Some fault) next one = λ r s h g. h ∙ sym g

pub exactly_one : {A : Type 0} (x : Result A SetupFault) → IsOne (exactly x)
exactly_one x = λ r s h g. h ∙ sym g

-- ---- one value

pub the_one : {A : Type 0} (Is : A → Type 0) (fault : SetupFault) → ((x y : A) → Is x → Is y → x ≡ y) → IsOne (the Is fault)
the_one Is fault one (Ok x) (Ok y) h g = ap Ok (one x y h g)
the_one Is fault one (Ok x) (Err f) h g = absurd (g.1 x h)
the_one Is fault one (Err e) (Ok y) h g = absurd (h.1 y g)
the_one Is fault one (Err e) (Err f) h g = ap Err (h.0 ∙ sym g.0)

pub such_one : {A : Type 0} (Is : A → Type 0) → ((x y : A) → Is x → Is y → x ≡ y) → IsOne (such Is)
such_one Is one (Ok x) (Ok y) h g = ap Ok (one x y h g)
such_one Is one (Ok x) (Err f) h g = absurd g
such_one Is one (Err e) s h g = absurd h

-- ---- one value of each element

-- each element has one value at most, and a bad one none
pub record AreOne {D A : Type 0} (Is : D → A → Type 0) (Bad : D → Type 0) : Type 0 where
  pub one : (d : D) (x y : A) → Is d x → Is d y → x ≡ y
  pub none : (d : D) (x : A) → Is d x → Bad d → ⊥

values_one : {D A : Type 0} (Is : D → A → Type 0) → ((d : D) (x y : A) → Is d x → Is d y → x ≡ y) → (ds : List D) (xs ys : List A) → AllZip Is ds xs → AllZip Is ds ys → xs ≡ ys
values_one Is one [] [] [] h g = refl
values_one Is one [] [] (y ∷ ys) h g = absurd g
values_one Is one [] (x ∷ xs) ys h g = absurd h
values_one Is one (d ∷ ds) [] ys h g = absurd h
values_one Is one (d ∷ ds) (x ∷ xs) [] h g = absurd g
values_one Is one (d ∷ ds) (x ∷ xs) (y ∷ ys) h g = ap (λ v. v ∷ xs) (one d x y h.0 g.0) ∙ ap (λ vs. y ∷ vs) (values_one Is one ds xs ys h.1 g.1)

some_value : {A : Type 0} (o : Option A) (P : A → Type 0) → IsSomeAnd o P → (x : A) × P x
some_value None P h = absurd h
some_value (Some x) P h = (x, h)

value_at : {D A : Type 0} (Is : D → A → Type 0) (ds : List D) (xs : List A) (i : ℕ) (d : D) → AllZip Is ds xs → slice_get ds i ≡ Some d → (x : A) × Is d x
value_at Is ds xs i d all there = some_value (slice_get xs i) (Is d) (rw there at (AllZip-left Is ds xs all i))

-- an element before the place up to which there are values has one
value_before : {D A : Type 0} (Is : D → A → Type 0) (ds : List D) (xs : List A) (i j : ℕ) (d : D) → AllZip Is (take j ds) xs → i < j → slice_get ds i ≡ Some d → (x : A) × Is d x
value_before Is ds xs i j d all before there =
    let within = slice_get_within ds i d there in
    let short : i < length (take j ds) = omega (arith, length-take j ds, before, within) in
    let same : get_or (take j ds) i d ≡ d = get_or-take j ds i d before ∙ get_or_from_slice_get ds i d d there in
    value_at Is (take j ds) xs i d all (slice_get-get_or (take j ds) i d short ∙ ap Some same)

not_earlier : {D A : Type 0} (Is : D → A → Type 0) (Bad : D → Type 0) (ds : List D) (i j : ℕ) → AreOne Is Bad → IsFirstBad Is Bad ds i → IsFirstBad Is Bad ds j → i < j → ⊥
not_earlier Is Bad ds i j are h g before =
    let found = value_before Is ds g.values i j h.element g.before before h.there in
    are.none h.element found.0 found.1 h.bad

pub each_one : {D A : Type 0} (cause : SetupCause) (Is : D → A → Type 0) (Bad : D → Type 0) → AreOne Is Bad → (ds : List D) → IsOne (each cause Is Bad ds)
each_one cause Is Bad are ds (Ok xs) (Ok ys) h g = ap Ok (values_one Is are.one ds xs ys h g)
each_one cause Is Bad are ds (Ok xs) (Err f) h g =
    let found = value_at Is ds xs g.0 g.2.element h g.2.there in
    absurd (are.none g.2.element found.0 found.1 g.2.bad)
each_one cause Is Bad are ds (Err e) (Ok ys) h g =
    let found = value_at Is ds ys h.0 h.2.element g h.2.there in
    absurd (are.none h.2.element found.0 found.1 h.2.bad)
each_one cause Is Bad are ds (Err e) (Err f) h g =
    elim (cases_order h.0 g.0) [
      | inl same ↦ ap Err (h.1 ∙ ap (Refused cause) same ∙ sym g.1)
      | inr (inl before) ↦ absurd (not_earlier Is Bad ds h.0 g.0 are h.2 g.2 before)
      | inr (inr after) ↦ absurd (not_earlier Is Bad ds g.0 h.0 are g.2 h.2 after)
    ]
