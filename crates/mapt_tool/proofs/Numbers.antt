-- A word is read as a number exactly where it is that number's decimal digits, and as an address exactly where
-- it is the address's text.
use Rattle.std.proofs.Common.{◌≡◌, ◌≢◌, ℕ, zero, suc, ◌+◌, ◌-◌, ◌*◌, ◌/◌, ◌%◌, ◌≤◌, ◌<◌, Bool, true, false, ◌&&◌, List, [], ◌∷◌, ◌++◌, length, get_or, Option, Some, None, refl, sym, ap, ◌∙◌, inl, inr, append-nil, append_assoc, arith}
use Rattle.std.specs.Prelude.{nat_le, ◌==◌, if◌then◌else◌, IfSome, IfNone}
use Rattle.std.specs.Fmt.{decimal}
use Rattle.std.proofs.lemmas.Bool.{leb-true, le-leb, eqb-false}
use Rattle.std.proofs.lemmas.Bool.Decides.{eqb_tells}
use Rattle.std.proofs.lemmas.Fmt.{decimal_digit, decimal_step, decimal_by_steps, decimal_nonempty, first_decimal}
use Rattle.mapt_tool.specs.Words.{digits_up_to, number_up_to}

abbrev some : ℕ → Option ℕ
some n = Some n

some_is : (m n : ℕ) → some m ≡ some n → m ≡ n
some_is m n e = cc

no_some : (n : ℕ) → None ≡ some n → ⊥
no_some n e = cc

-- what a digit that was taken tells
record Taken (most n c : ℕ) (cs : List ℕ) (m : ℕ) : Type 0 where
  low : 48 ≤ c
  high : c ≤ 57
  within : 10 * n + (c - 48) ≤ most
  rest : digits_up_to most (10 * n + (c - 48)) cs ≡ Some m

taken : (most n c : ℕ) (cs : List ℕ) (m : ℕ) (a b d : Bool) → nat_le 48 c ≡ a → nat_le c 57 ≡ b → nat_le (10 * n + (c - 48)) most ≡ d
    → (if (a && b) && d then digits_up_to most (10 * n + (c - 48)) cs else None) ≡ Some m → Taken most n c cs m
taken most n c cs m true true true low high fits read = record { low = leb-true 48 c low; high = leb-true c 57 high; within = leb-true (10 * n + (c - 48)) most fits; rest = read }
taken most n c cs m true true false low high fits read = absurd (no_some m read)
taken most n c cs m true false d low high fits read = absurd (no_some m read)
taken most n c cs m false b d low high fits read = absurd (no_some m read)

digit_taken : (most n c : ℕ) (cs : List ℕ) (m : ℕ) → digits_up_to most n (c ∷ cs) ≡ Some m → Taken most n c cs m
digit_taken most n c cs m read = taken most n c cs m (nat_le 48 c) (nat_le c 57) (nat_le (10 * n + (c - 48)) most) refl refl refl read

next_digits : (n c : ℕ) (front : List ℕ) → 1 ≤ n → n ≤ 65535 → 48 ≤ c → c ≤ 57 → front ≡ decimal n → front ++ c ∷ [] ≡ decimal (10 * n + (c - 48))
next_digits n c front more bound low high is =
    let next = 10 * n + (c - 48) in
    let step : decimal next ≡ decimal (next / 10) ++ ((48 + next % 10) ∷ []) = decimal_step next (omega arith) (omega arith) in
    let ten : next / 10 ≡ n = omega arith in
    let last : 48 + next % 10 ≡ c = omega arith in
    ap (λ (x : List ℕ). x ++ c ∷ []) is ∙ sym (step ∙ ap (λ (x : ℕ). decimal x ++ ((48 + next % 10) ∷ [])) ten ∙ ap (λ (x : ℕ). decimal n ++ (x ∷ [])) last)

-- the digits so far are the decimal of a number that isn't 0, and the rest goes on
digits_go : (most n m : ℕ) (front cs : List ℕ) → most ≤ 65535 → n ≤ most → 1 ≤ n → front ≡ decimal n → digits_up_to most n cs ≡ Some m → (front ++ cs ≡ decimal m) × (m ≤ most)
digits_go most n m front [] bound small more is read =
    let same : n ≡ m = some_is n m read in
    (append-nil front ∙ is ∙ ap decimal same, omega (arith, same))
digits_go most n m front (c ∷ cs) bound small more is read =
    let t = digit_taken most n c cs m read in
    let digits = next_digits n c front more (omega arith) t.low t.high is in
    let rest = digits_go most (10 * n + (c - 48)) m (front ++ c ∷ []) cs bound t.within (omega arith) digits t.rest in
    (sym (append_assoc front (c ∷ []) cs) ∙ rest.0, rest.1)

-- the first digit
one_digit : (c : ℕ) → 48 ≤ c → c ≤ 57 → c ∷ [] ≡ decimal (10 * 0 + (c - 48))
one_digit c low high =
    let glyph : 48 + (10 * 0 + (c - 48)) ≡ c = omega arith in
    sym (decimal_digit (10 * 0 + (c - 48)) (omega arith) ∙ ap (λ (x : ℕ). x ∷ []) glyph)

no_zero : (c : ℕ) → (c == 48) ≡ false → c ≢ 48
no_zero c e same = eqb-false c 48 e same

many_digits : (most m c d : ℕ) (cs : List ℕ) (b : Bool) → most ≤ 65535 → (c == 48) ≡ b → (if b then None else digits_up_to most 0 (c ∷ d ∷ cs)) ≡ Some m → (c ∷ d ∷ cs ≡ decimal m) × (m ≤ most)
many_digits most m c d cs true bound e read = absurd (no_some m read)
many_digits most m c d cs false bound e read =
    let t = digit_taken most 0 c (d ∷ cs) m read in
    let other : c ≢ 48 = no_zero c e in
    digits_go most (10 * 0 + (c - 48)) m (c ∷ []) (d ∷ cs) bound t.within (omega arith) (one_digit c t.low t.high) t.rest

pub number_found : (most m : ℕ) (word : List ℕ) → most ≤ 65535 → number_up_to most word ≡ Some m → (m ≤ most) × (word ≡ decimal m)
number_found most m [] bound read = absurd (no_some m read)
number_found most m (c ∷ []) bound read =
    let t = digit_taken most 0 c [] m read in
    let same : 10 * 0 + (c - 48) ≡ m = some_is (10 * 0 + (c - 48)) m t.rest in
    (omega (arith, same, t.within), one_digit c t.low t.high ∙ ap decimal same)
number_found most m (c ∷ d ∷ cs) bound read =
    let found = many_digits most m c d cs (c == 48) bound refl read in
    (found.1, found.0)

-- ---- the digits of a number are read

-- one more digit behind others
digits-push : (most a n : ℕ) (ds : List ℕ) (c : ℕ) → digits_up_to most a ds ≡ Some n → 48 ≤ c → c ≤ 57 → 10 * n + (c - 48) ≤ most → digits_up_to most a (ds ++ c ∷ []) ≡ Some (10 * n + (c - 48))
digits-push most a n [] c read low high fits =
    let same : a ≡ n = some_is a n read in
    rw (same, le-leb 48 c low, le-leb c 57 high, le-leb (10 * n + (c - 48)) most fits) refl
digits-push most a n (d ∷ ds) c read low high fits =
    let t = digit_taken most a d ds n read in
    rw (le-leb 48 d t.low, le-leb d 57 t.high, le-leb (10 * a + (d - 48)) most t.within) (digits-push most (10 * a + (d - 48)) n ds c t.rest low high fits)

digit_first : (most m : ℕ) → m < 10 → m ≤ most → digits_up_to most 0 ((48 + m) ∷ []) ≡ Some m
digit_first most m lt le =
    let same : 10 * 0 + (48 + m - 48) ≡ m = omega arith in
    let fits : 10 * 0 + (48 + m - 48) ≤ most = omega arith in
    let low : 48 ≤ 48 + m = omega arith in
    let high : 48 + m ≤ 57 = omega arith in
    rw (le-leb 48 (48 + m) low, le-leb (48 + m) 57 high, le-leb (10 * 0 + (48 + m - 48)) most fits) (ap some same)

digit_more : (most m : ℕ) (ds : List ℕ) → digits_up_to most 0 ds ≡ Some (m / 10) → 10 ≤ m → m ≤ most → digits_up_to most 0 (ds ++ ((48 + m % 10) ∷ [])) ≡ Some m
digit_more most m ds so_far ten le =
    let same : 10 * (m / 10) + (48 + m % 10 - 48) ≡ m = omega arith in
    digits-push most 0 (m / 10) ds (48 + m % 10) so_far (omega arith) (omega arith) (omega arith) ∙ ap some same

pub digits_again : (most n : ℕ) → most ≤ 65535 → n ≤ most → digits_up_to most 0 (decimal n) ≡ Some n
digits_again most n bound within =
    decimal_by_steps (λ m ds. m ≤ most → digits_up_to most 0 ds ≡ Some m)
    (λ m lt le. digit_first most m lt le)
    (λ m ds ten so_far le. digit_more most m ds (so_far (omega arith)) ten le)
    n (omega arith) within

positive_of : (n c d : ℕ) (cs : List ℕ) → c ∷ d ∷ cs ≡ decimal n → 0 < n
positive_of zero c d cs is = absurd (omega (arith, ap length (is ∙ decimal_digit 0 (omega arith))))
positive_of (suc n) c d cs is = omega arith

other_digit : (a b : ℕ) → (a ≡ b → ⊥) → (a == b) ≡ false
other_digit a b differ = elim (eqb_tells a b) [ inl h ↦ absurd (differ h.1) | inr h ↦ h.0 ]

-- a text of one digit, or of several without a leading zero
leads : (most n : ℕ) (word : List ℕ) → word ≡ decimal n → n ≤ 65535 → digits_up_to most 0 word ≡ Some n → number_up_to most word ≡ Some n
leads most n [] is bound read = absurd (omega (arith, ap length is, decimal_nonempty n (omega arith)))
leads most n (c ∷ []) is bound read = read
leads most n (c ∷ d ∷ cs) is bound read =
    let positive : 0 < n = positive_of n c d cs is in
    let first : 48 < get_or (decimal n) 0 0 = first_decimal n positive (omega arith) in
    let is_c : c ≡ get_or (decimal n) 0 0 = ap (λ (x : List ℕ). get_or x 0 0) is in
    let more : (c == 48) ≡ false = other_digit c 48 (λ (same : c ≡ 48). omega arith) in
    rw more read

pub number_again : (most n : ℕ) → most ≤ 65535 → n ≤ most → number_up_to most (decimal n) ≡ Some n
number_again most n bound within = leads most n (decimal n) refl (omega arith) (digits_again most n bound within)

-- what is read of a word is what it spells
pub number_is : (most : ℕ) (word : List ℕ) (o : Option ℕ) → most ≤ 65535 → o ≡ number_up_to most word → IfSome o (λ n. (n ≤ most) × (word ≡ decimal n))
number_is most word None bound read = tt
number_is most word (Some n) bound read = number_found most n word bound (sym read)

pub number_is_none : (most : ℕ) (word : List ℕ) (o : Option ℕ) → most ≤ 65535 → o ≡ number_up_to most word → IfNone o ((n : ℕ) → n ≤ most → word ≡ decimal n → ⊥)
number_is_none most word None bound read = λ n within is. no_some n (read ∙ ap (number_up_to most) is ∙ number_again most n bound within)
number_is_none most word (Some n) bound read = tt
