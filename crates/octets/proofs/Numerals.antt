-- Digits in a radix, and numbers that are spelled by them.
use Rattle.std.proofs.Common.{◌≡◌, ◌≢◌, ℕ, zero, suc, ◌+◌, ◌*◌, ◌/◌, ◌%◌, ◌^◌, ◌≤◌, ◌<◌, Bool, true, false, ◌&&◌, ◌||◌, eqb, ltb, Option, Some, None, Result, Ok, Err, List, [], ◌∷◌, length, get_or, drop, refl, sym, ap, ◌∙◌, arith, inl, inr}
use Rattle.std.proofs.Math.Nat.{pow-le-pow_left, pow-le-pow_right, mul-le-mul}
use Rattle.std.specs.Char.{digit_value}
use Rattle.std.specs.Result.{OkIff, result_ok}
use Rattle.std.specs.Str.Parse.{AllDigits, digits_value, digits_value_after}
use Rattle.std.specs.Fmt.{decimal}
use Rattle.std.proofs.lemmas.Int.Digits.{digits_value-lt}
use Rattle.std.specs.Prelude.{◌⊎◌, nat_lt, ◌==◌, if◌then◌else◌, slice_index}
use Rattle.std.proofs.lemmas.Bool.{lt-ltb, ltb-true, ltb-false, le-ltb, cases_lt, eq-eqb, and_cases, and_left, and_right}
use Rattle.std.proofs.lemmas.Str.Parse.{IsNumeralModel, numerals_by_value, tells_digits}
use Rattle.std.proofs.Math.Seq.{drop-cons}
use Rattle.std.proofs.Math.Numerals.{add-one}
use Rattle.octets.specs.Numeral.{◌>>=◌, IsShortNumeral, digits_from, numeral_at, small_decimal_at}
use Rattle.octets.proofs.Cuts.{not_equal}
use Rattle.std.proofs.lemmas.Fmt.{decimal_digit, decimal_step, decimal_is_IsNumeral, length-decimal-le, first_decimal, decimal-digits_value}

pub either : (b : Bool) → (b ≡ true) ⊎ (b ≡ false)
either true = inl refl
either false = inr refl

pub or_parts : (x y : Bool) → (x || y) ≡ false → (x ≡ false) × (y ≡ false)
or_parts true y e = absurd cc
or_parts false y e = (refl, e)

pub eqb_false : (a b : ℕ) → eqb a b ≡ false → a ≢ b
eqb_false a b e h = let t = eq-eqb a b h in absurd cc

-- the value of a step that was there
pub some_behind : {A B : Type 0} (o : Option A) (f : A → Option B) (y : B) → (o >>= f) ≡ Some y → (x : A) × (o ≡ Some x) × (f x ≡ Some y)
some_behind (Some x) f y e = (x, refl, e)
some_behind None f y e = absurd cc

-- up to three digits are a small number
pub digits_small : (radix : ℕ) (cs : List ℕ) → 2 ≤ radix → radix ≤ 16 → length cs ≤ 3 → AllDigits radix cs → digits_value radix cs < 4096
digits_small radix cs low high short h =
    let a = digits_value-lt radix cs h in
    let b : radix ^ length cs ≤ 16 ^ length cs = pow-le-pow_left high (length cs) in
    let c : 16 ^ length cs ≤ 16 ^ 3 = pow-le-pow_right (omega arith) short in
    omega (arith, a, b, c)

-- one digit more is no great number either
pub more_small : (value radix : ℕ) → value < 4096 → radix ≤ 16 → value * radix ≤ 65520
more_small value radix h high =
    let below : value ≤ 4095 = omega arith in
    let p : value * radix ≤ 4095 * 16 = mul-le-mul below high in
    omega (arith, p)

pub digit_in : (radix : ℕ) (cs : List ℕ) (i : ℕ) → AllDigits radix cs → i < length cs → digit_value (get_or cs i 0) < radix
digit_in radix [] i h lt = absurd (omega arith)
digit_in radix (c ∷ cs) zero h lt = h.0
digit_in radix (c ∷ cs) (suc i) h lt = digit_in radix cs i h.1 (omega arith)

-- a number below 256 in three digits less the leading zeros
pub decimal-three : (n : ℕ) → n < 256 → 100 ≤ n → decimal n ≡ (48 + n / 100) ∷ (48 + n / 10 % 10) ∷ (48 + n % 10) ∷ []
decimal-three n lt h =
    let a = decimal_step n (omega arith) (omega arith) in
    let b = decimal_step (n / 10) (omega arith) (omega arith) in
    let d = decimal_digit (n / 10 / 10) (omega arith) in
    let e : n / 10 / 10 ≡ n / 100 = omega arith in
    rw (a, b, d, e) refl

pub decimal-two : (n : ℕ) → n < 100 → 10 ≤ n → decimal n ≡ (48 + n / 10 % 10) ∷ (48 + n % 10) ∷ []
decimal-two n lt h =
    let a = decimal_step n h (omega arith) in
    let d = decimal_digit (n / 10) (omega arith) in
    let e : n / 10 ≡ n / 10 % 10 = omega arith in
    rw (a, d) (ap (λ (x : ℕ). (48 + x) ∷ (48 + n % 10) ∷ []) e)

pub decimal-one : (n : ℕ) → n < 10 → decimal n ≡ (48 + n % 10) ∷ []
decimal-one n lt =
    let e : n ≡ n % 10 = omega arith in
    decimal_digit n lt ∙ ap (λ (x : ℕ). (48 + x) ∷ []) e

-- one digit more is read
pub digits_from-more : (radix n i : ℕ) (text : List ℕ) → i < length text → digit_value (get_or text i 0) < radix → digits_from radix n (drop i text) ≡ digits_from radix (n * radix + digit_value (get_or text i 0)) (drop (i + 1) text)
digits_from-more radix n i text lt h =
    rw (add-one, drop-cons text i 0) (rw (lt-ltb (digit_value (get_or text i 0)) radix h) refl)

-- ---- what is read of digits

pub digits_from-some : (radix n m : ℕ) (cs : List ℕ) → digits_from radix n cs ≡ Some m → AllDigits radix cs × (m ≡ digits_value_after radix n cs)
digits_from-some radix n m [] e = (tt, cc)
digits_from-some radix n m (c ∷ cs) e =
    elim (ltb_cases (digit_value c) radix) [
      | inl t ↦ let f : digits_from radix (n * radix + digit_value c) cs ≡ Some m = rw t.0 at e in let ih = digits_from-some radix (n * radix + digit_value c) m cs f in ((t.1, ih.0), ih.1)
      | inr t ↦ absurd (let f : None ≡ Some m = rw t.0 at e in cc)
    ]
  where
    ltb_cases : (a b : ℕ) → ((ltb a b ≡ true) × (a < b)) ⊎ ((ltb a b ≡ false) × (b ≤ a))
    ltb_cases a b = elim (cases_lt a b) [ inl lt ↦ inl (lt-ltb a b lt, lt) | inr le ↦ inr (le-ltb a b le, le) ]

pub digits_from-all : (radix n : ℕ) (cs : List ℕ) → AllDigits radix cs → digits_from radix n cs ≡ Some (digits_value_after radix n cs)
digits_from-all radix n [] h = refl
digits_from-all radix n (c ∷ cs) h = rw (lt-ltb (digit_value c) radix h.0) (digits_from-all radix (n * radix + digit_value c) cs h.1)

pub numeral_tells : (radix n : ℕ) (text : List ℕ) → numeral_at radix text ≡ Some n → IsShortNumeral radix text n
unfolding numeral_at
numeral_tells radix n text e =
    elim (either (length text == 0 || nat_lt 4 (length text))) [
      | inl t ↦ absurd (let f : None ≡ Some n = rw t at e in cc)
      | inr t ↦
          let f : digits_from radix 0 text ≡ Some n = rw t at e in
          let d = digits_from-some radix 0 n text f in
          let p = or_parts (length text == 0) (nat_lt 4 (length text)) t in
          let full : length text ≢ 0 = eqb_false (length text) 0 p.0 in
          record { digits = (omega (arith, full), d.0); short = ltb-false _ _ p.1; value = d.1 }
    ]

pub numeral_again : (radix n : ℕ) (text : List ℕ) → IsShortNumeral radix text n → numeral_at radix text ≡ Some n
unfolding numeral_at
numeral_again radix n text h =
    let full : (length text == 0) ≡ false = not_equal (length text) 0 (omega (arith, h.digits.0)) in
    let short : nat_lt 4 (length text) ≡ false = le-ltb _ _ h.short in
    rw (full, short) (digits_from-all radix 0 text h.digits.1 ∙ ap (λ (m : ℕ). Some m) (sym h.value))

-- four hexadecimal digits have 16 bits
pub numeral_fits : (n : ℕ) (text : List ℕ) → numeral_at 16 text ≡ Some n → n < 65536
numeral_fits n text e =
    let s = numeral_tells 16 n text e in
    let a = digits_value-lt 16 text s.digits.1 in
    let b : 16 ^ length text ≤ 16 ^ 4 = pow-le-pow_right (omega arith) s.short in
    omega (arith, a, b, s.value)

-- ---- decimal numbers below 256

own : IsNumeralModel (AllDigits 10) (digits_value 10)
own = numerals_by_value (AllDigits 10) tells_digits

pub small_again : (n : ℕ) → n < 256 → small_decimal_at (decimal n) ≡ Some n
unfolding small_decimal_at
small_again n lt =
    let numeral = decimal_is_IsNumeral n (omega arith) in
    let short = length-decimal-le 3 n (omega arith) (omega arith) (omega arith) in
    let read : numeral_at 10 (decimal n) ≡ Some n = numeral_again 10 n (decimal n) (record { digits = numeral.0; short = omega (arith, short); value = sym numeral.1 }) in
    let plain : (nat_lt 1 (length (decimal n)) && slice_index (decimal n) 0 == 48) ≡ false = no_zero n lt in
    rw (plain, read, lt-ltb n 256 lt) refl
  where
    no_zero : (n : ℕ) → n < 256 → (nat_lt 1 (length (decimal n)) && slice_index (decimal n) 0 == 48) ≡ false
    no_zero zero lt =
        let one : length (decimal 0) ≤ 1 = length-decimal-le 1 0 (omega arith) (omega arith) (omega arith) in
        and_left (nat_lt 1 (length (decimal 0))) (slice_index (decimal 0) 0 == 48) (le-ltb 1 (length (decimal 0)) one)
    no_zero (suc n) lt =
        let above : 48 < slice_index (decimal (suc n)) 0 = first_decimal (suc n) (omega arith) (omega arith) in
        let other : slice_index (decimal (suc n)) 0 ≢ 48 = omega arith in
        and_right (nat_lt 1 (length (decimal (suc n)))) (slice_index (decimal (suc n)) 0 == 48) (not_equal (slice_index (decimal (suc n)) 0) 48 other)

pub small_tells : (n : ℕ) (text : List ℕ) → small_decimal_at text ≡ Some n → (text ≡ decimal n) × (n < 256)
unfolding small_decimal_at
small_tells n text e =
    elim (either (nat_lt 1 (length text) && slice_index text 0 == 48)) [
      | inl t ↦ absurd (let f : None ≡ Some n = rw t at e in cc)
      | inr t ↦
          let f : (numeral_at 10 text >>= λ m. if nat_lt m 256 then Some m else None) ≡ Some n = rw t at e in
          let b = some_behind (numeral_at 10 text) (λ m. if nat_lt m 256 then Some m else None) n f in
          let s = numeral_tells 10 b.0 text b.1 in
          let g = below_tells b.0 n b.2 in
          let same : decimal (digits_value 10 text) ≡ text = decimal-digits_value own text s.digits.1 s.digits.0 (no_leading text t s.digits.0) (omega (arith, g.0, s.value)) in
          (sym same ∙ ap decimal (sym s.value ∙ g.1), omega (arith, g.0, g.1))
    ]
  where
    below_tells : (m n : ℕ) → (if nat_lt m 256 then Some m else None) ≡ Some n → (m < 256) × (m ≡ n)
    below_tells m n e =
        elim (either (nat_lt m 256)) [
          | inl t ↦ let f : Some m ≡ Some n = rw t at e in (ltb-true _ _ t, cc)
          | inr t ↦ absurd (let f : None ≡ Some n = rw t at e in cc)
        ]

    no_leading : (text : List ℕ) → (nat_lt 1 (length text) && slice_index text 0 == 48) ≡ false → 0 < length text → get_or text 0 0 ≡ 48 → length text ≡ 1
    no_leading text t full e =
        elim (and_cases (nat_lt 1 (length text)) (slice_index text 0 == 48) t) [
          | inl one ↦ let le : length text ≤ 1 = ltb-false 1 (length text) one in omega arith
          | inr other ↦ absurd (eqb_false (slice_index text 0) 48 other e)
        ]

-- a number that fits its type is kept
pub kept : {E : Type 0} (r : Result ℕ E) (n : ℕ) → OkIff r (n < 65536) n → n < 65536 → result_ok r ≡ Some n
kept (Ok m) n h lt = ap (λ (x : ℕ). Some x) h.1
kept (Err e) n h lt = absurd (h lt)
