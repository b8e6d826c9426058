-- Going over options one after the other: what is seen before an option, and what it adds.
use Rattle.std.proofs.Common.{◌≡◌, ℕ, ◌+◌, ◌≤◌, ◌<◌, Bool, true, false, cond, ◌||◌, Some, List, [], ◌∷◌, ◌++◌, length, get_or, take, drop, map, refl, sym, ap, ◌∙◌, arith, add-one, drop-cons, length-append}
use Rattle.std.specs.List.{list_any, count_by, list_all, AllZip}
use Rattle.std.proofs.lemmas.Bool.{le-leb}
use Rattle.std.proofs.lemmas.List.{take_more, take_all, drop_all, map-append, take-append-drop}
use Rattle.std.proofs.lemmas.List.Folds.{list_any-append, list_all-append}
use Rattle.std.proofs.lemmas.List.Sums.{sum_by_push}
use Rattle.std.proofs.lemmas.Grind.{flat_map-append}
use Rattle.s46_options.specs.declared.options.RawOption.{RawOption}
use Rattle.octets.specs.Field.{word}
use Rattle.s46_options.specs.declared.fault.OptionFault.{OptionFault}
use Rattle.s46_options.specs.declared.fault.OptionFault.TheVariants.{BadLength}
use Rattle.s46_options.specs.Options.{DhcpOption, spelled, spelled_all}
use Rattle.s46_options.specs.Raw.{option_of, options_of}
use Rattle.s46_options.specs.Faults.{Judge, place_behind, each_faults, all_faults, first}

-- what stands past the end of a list
abbrev pub nil : RawOption
nil = record { code = 0; octets = record { ref_ptr = (0, 0); now = [] } }

pub spelled_len : (option : DhcpOption) → length (spelled option) ≡ 4 + length option.octets
spelled_len option = omega arith

-- the options behind the first i
pub next_of : (raws : List RawOption) (i : ℕ) (d : RawOption) → i < length raws → options_of (drop i raws) ≡ option_of (get_or raws i d) ∷ options_of (drop (i + 1) raws)
next_of raws i d h = rw add-one (ap options_of (drop-cons raws i d h))

-- the first i options and one more
pub more_of : (raws : List RawOption) (i : ℕ) (d : RawOption) → i < length raws → options_of (take (i + 1) raws) ≡ options_of (take i raws) ++ option_of (get_or raws i d) ∷ []
more_of raws i d h = ap options_of (take_more raws i d h) ∙ map-append option_of (take i raws) (get_or raws i d ∷ [])

all_of : (raws : List RawOption) (i : ℕ) → options_of (take i raws) ++ options_of (drop i raws) ≡ options_of raws
all_of raws i = sym (map-append option_of (take i raws) (drop i raws)) ∙ ap options_of (take-append-drop i raws)

pub walk_next : (judge : ℕ → List DhcpOption → DhcpOption → List OptionFault) (at place : ℕ) (raws : List RawOption) (i : ℕ) (d : RawOption) → i < length raws → place ≡ place_behind at (options_of (take i raws)) → judge place (options_of (take i raws)) (option_of (get_or raws i d)) ≡ []
    → each_faults judge at [] (options_of raws) ≡ each_faults judge at (options_of (take i raws)) (options_of (drop i raws)) → each_faults judge at [] (options_of raws) ≡ each_faults judge at (options_of (take (i + 1) raws)) (options_of (drop (i + 1) raws))
walk_next judge at place raws i d lt here sound walk =
    let earlier = options_of (take i raws) in
    let option = option_of (get_or raws i d) in
    let later = options_of (drop (i + 1) raws) in
    walk
    ∙ ap (each_faults judge at earlier) (next_of raws i d lt)
    ∙ ap (λ (n : ℕ). judge n earlier option ++ each_faults judge at (earlier ++ option ∷ []) later) (sym here)
    ∙ ap (λ (xs : List OptionFault). xs ++ each_faults judge at (earlier ++ option ∷ []) later) sound
    ∙ ap (λ (xs : List DhcpOption). each_faults judge at xs later) (sym (more_of raws i d lt))

pub place_next : (at place : ℕ) (raws : List RawOption) (i : ℕ) (d : RawOption) → i < length raws → place ≡ place_behind at (options_of (take i raws)) → place + (4 + length (option_of (get_or raws i d)).octets) ≡ place_behind at (options_of (take (i + 1) raws))
place_next at place raws i d lt here =
    let earlier = options_of (take i raws) in
    let option = option_of (get_or raws i d) in
    let more : spelled_all (options_of (take (i + 1) raws)) ≡ spelled_all earlier ++ (spelled option ++ []) = ap spelled_all (more_of raws i d lt) ∙ flat_map-append spelled earlier (option ∷ []) in
    omega (arith, here, ap length more, length-append (spelled_all earlier) (spelled option ++ []), length-append (spelled option) [], spelled_len option)

-- an option stands within all of them
pub place_bound : (raws : List RawOption) (i : ℕ) (d : RawOption) → i < length raws → length (spelled_all (options_of (take i raws))) + (4 + length (option_of (get_or raws i d)).octets) ≤ length (spelled_all (options_of raws))
place_bound raws i d lt =
    let earlier = options_of (take i raws) in
    let option = option_of (get_or raws i d) in
    let later = options_of (drop (i + 1) raws) in
    let split : spelled_all (options_of raws) ≡ spelled_all earlier ++ (spelled option ++ spelled_all later) = ap spelled_all (sym (all_of raws i) ∙ ap (λ (xs : List DhcpOption). earlier ++ xs) (next_of raws i d lt)) ∙ flat_map-append spelled earlier (option ∷ later) in
    omega (arith, ap length split, length-append (spelled_all earlier) (spelled option ++ spelled_all later), length-append (spelled option) (spelled_all later), spelled_len option)

or_none : (b : Bool) → (b || false) ≡ b
or_none true = refl
or_none false = refl

pub any_next : (test : DhcpOption → Bool) (seen : Bool) (raws : List RawOption) (i : ℕ) (d : RawOption) → i < length raws → seen ≡ list_any test (options_of (take i raws)) → (seen || test (option_of (get_or raws i d))) ≡ list_any test (options_of (take (i + 1) raws))
any_next test seen raws i d lt is =
    let option = option_of (get_or raws i d) in
    ap (λ (b : Bool). b || test option) is
    ∙ ap (λ (b : Bool). list_any test (options_of (take i raws)) || b) (sym (or_none (test option)))
    ∙ sym (list_any-append test (options_of (take i raws)) (option ∷ []))
    ∙ sym (ap (list_any test) (more_of raws i d lt))

pub count_next : (test : DhcpOption → Bool) (raws : List RawOption) (i : ℕ) (d : RawOption) → i < length raws → count_by test (options_of (take (i + 1) raws)) ≡ count_by test (options_of (take i raws)) + cond (test (option_of (get_or raws i d))) 1 0
count_next test raws i d lt =
    ap (count_by test) (more_of raws i d lt)
    ∙ sum_by_push (λ (x : DhcpOption). cond (test x) 1 0) (options_of (take i raws)) (option_of (get_or raws i d))

-- a thing that is there once at most, and isn't there where it comes
pub once_next : (test seen : Bool) (before after : ℕ) → (test ≡ true → seen ≡ false) → before ≡ cond seen 1 0 → after ≡ before + cond test 1 0 → after ≡ cond (seen || test) 1 0
once_next true true before after alone b a = absurd (let e : true ≡ false = alone refl in cc)
once_next true false before after alone b a = omega (arith, a, b)
once_next false true before after alone b a = omega (arith, a, b)
once_next false false before after alone b a = omega (arith, a, b)

pub map_next : {A : Type 0} (f : A → DhcpOption) (xs : List A) (x : A) (raws : List RawOption) (i : ℕ) (d : RawOption) → i < length raws → f x ≡ option_of (get_or raws i d) → map f xs ≡ options_of (take i raws) → map f (xs ++ x ∷ []) ≡ options_of (take (i + 1) raws)
map_next {A} f xs x raws i d lt one all =
    map-append f xs (x ∷ [])
    ∙ ap (λ (ys : List DhcpOption). ys ++ f x ∷ []) all
    ∙ ap (λ (y : DhcpOption). options_of (take i raws) ++ y ∷ []) one
    ∙ sym (more_of raws i d lt)

pub all_next : {A : Type 0} (test : A → Bool) (xs : List A) (x : A) → list_all test xs ≡ true → test x ≡ true → list_all test (xs ++ x ∷ []) ≡ true
all_next {A} test xs x all one = rw (list_all-append test xs (x ∷ []), all, one) refl

zip_push : {A : Type 0} (R : DhcpOption → A → Type 0) (os : List DhcpOption) (xs : List A) (o : DhcpOption) (x : A) → AllZip R os xs → R o x → AllZip R (os ++ o ∷ []) (xs ++ x ∷ [])
zip_push {A} R [] [] o x all one = (one, tt)
zip_push {A} R [] (y ∷ ys) o x all one = absurd all
zip_push {A} R (p ∷ ps) [] o x all one = absurd all
zip_push {A} R (p ∷ ps) (y ∷ ys) o x all one = (all.0, zip_push R ps ys o x all.1 one)

pub zip_next : {A : Type 0} (R : DhcpOption → A → Type 0) (xs : List A) (x : A) (raws : List RawOption) (i : ℕ) (d : RawOption) → i < length raws → R (option_of (get_or raws i d)) x → AllZip R (options_of (take i raws)) xs → AllZip R (options_of (take (i + 1) raws)) (xs ++ x ∷ [])
zip_next {A} R xs x raws i d lt one all =
    rw (more_of raws i d lt) (zip_push R (options_of (take i raws)) xs (option_of (get_or raws i d)) x all one)

-- ---- behind the last option

pub all_taken : (raws : List RawOption) (i : ℕ) → length raws ≤ i → options_of (take i raws) ≡ options_of raws
all_taken raws i h = ap options_of (take_all i raws h)

pub walked : (judge : ℕ → List DhcpOption → DhcpOption → List OptionFault) (at : ℕ) (raws : List RawOption) (i : ℕ) → length raws ≤ i → each_faults judge at [] (options_of raws) ≡ each_faults judge at (options_of (take i raws)) (options_of (drop i raws)) → each_faults judge at [] (options_of raws) ≡ []
walked judge at raws i h walk =
    walk ∙ ap (λ (xs : List RawOption). each_faults judge at (options_of (take i raws)) (options_of xs)) (drop_all i raws h)

-- of all options none is wrong, and what is left begins one that passes the end: its first fault is the first of all
pub begun_first : (judge : Judge) (at place : ℕ) (options : List DhcpOption) (left : List ℕ) (e : OptionFault) → each_faults judge.whole at [] options ≡ [] → place ≡ place_behind at options → 4 ≤ length left → first (judge.begun place options (word left 0) ++ BadLength (place + 2) ∷ []) ≡ Some e → first (all_faults judge at (record { options = options; left = left })) ≡ Some e
begun_first judge at place options left e walk here long told = rw (walk, le-leb 4 (length left) long, ← here) told
