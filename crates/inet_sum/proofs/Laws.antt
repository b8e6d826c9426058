-- What else holds of internet sums.
use Rattle.std.proofs.Common.{◌≡◌, ℕ, ◌+◌, ◌/◌, ◌%◌, ◌^◌, ◌<◌, ◌≤◌, List, [], ◌∷◌, ◌++◌, length, ap, ◌∙◌, arith}
use Rattle.std.specs.Int.{bytes_high_first}
use Rattle.inet_sum.specs.Sum.{words, folded, check_sum, adjusted, as_udp, IsRight}

-- texts of whole words add up
pub words-append : (xs ys : List ℕ) → length xs % 2 ≡ 0 → words (xs ++ ys) ≡ words xs + words ys
words-append [] ys even = omega arith
words-append (x ∷ []) ys even = absurd (omega arith)
words-append (x ∷ y ∷ xs) ys even = omega (arith, words-append xs ys (omega arith))

-- a number of 16 bits is one word
pub words-in_word : (n : ℕ) → n < 65536 → words (bytes_high_first 2 n) ≡ n
words-in_word n fits = omega arith

-- a number of 32 bits is two words
pub words-in_quad : (n : ℕ) → n < 2 ^ 32 → words (bytes_high_first 4 n) ≡ n / 65536 + n % 65536
words-in_quad n fits = omega arith

-- words with their check sum fold to 65535
pub folded-check_sum : (w : ℕ) → folded (w + check_sum w) ≡ 65535
folded-check_sum w = grind arith

-- what folds to 65535 is above 0 and a multiple of it, and the other way round
pub folded_full : (w : ℕ) → 0 < w → w % 65535 ≡ 0 → folded w ≡ 65535
folded_full w some whole = grind arith

pub full_folded : (w : ℕ) → folded w ≡ 65535 → (0 < w) × (w % 65535 ≡ 0)
full_folded w full = (grind arith, grind arith)

-- a text is right once its check sum is put in at a whole word
pub right_with_check : (front back : List ℕ) (w : ℕ) → length front % 2 ≡ 0 → w ≡ words front + words back → IsRight (front ++ (bytes_high_first 2 (check_sum w) ++ back))
right_with_check front back w even is =
    let apart = words-append front (bytes_high_first 2 (check_sum w) ++ back) even in
    let small : check_sum w ≤ 65535 = omega arith in
    let e : words (front ++ (bytes_high_first 2 (check_sum w) ++ back)) ≡ w + check_sum w = omega arith in
    ap folded e ∙ folded-check_sum w

-- the sum of a text and its adjusted check sum is alike the old one, modulo 65535
alike_adjusted : (rest rest' c old new : ℕ) → rest' + old ≡ rest + new → (rest' + adjusted c old new) % 65535 ≡ (rest + c) % 65535
alike_adjusted rest rest' c old new change = omega arith

-- A right sum stays right: the words beside the check sum c had the sum `rest` and have `rest'`, as words of
-- sum `old` became words of sum `new`. A text of words 0 alone is never right.
pub right_adjusted : (rest rest' c old new : ℕ) → folded (rest + c) ≡ 65535 → rest' + old ≡ rest + new → 0 < rest' + adjusted c old new → folded (rest' + adjusted c old new) ≡ 65535
right_adjusted rest rest' c old new right change some =
    folded_full _ some (alike_adjusted rest rest' c old new change ∙ (full_folded _ right).1)

some_as_udp : (x d : ℕ) → 0 < x + as_udp d
some_as_udp x d = grind arith

alike_as_udp : (x d : ℕ) → (x + as_udp d) % 65535 ≡ (x + d) % 65535
alike_as_udp x d = grind arith

-- words with their check sum as UDP writes it fold to 65535
pub folded-udp_check : (w : ℕ) → folded (w + as_udp (check_sum w)) ≡ 65535
folded-udp_check w =
    folded_full _ (some_as_udp w (check_sum w)) (alike_as_udp w (check_sum w) ∙ (full_folded _ (folded-check_sum w)).1)

-- The same for a check sum as UDP writes it, whatever the words are.
pub right_as_udp : (rest rest' c old new : ℕ) → folded (rest + c) ≡ 65535 → rest' + old ≡ rest + new → folded (rest' + as_udp (adjusted c old new)) ≡ 65535
right_as_udp rest rest' c old new right change =
    let alike = alike_adjusted rest rest' c old new change in
    let whole = (full_folded _ right).1 in
    folded_full _ (some_as_udp rest' (adjusted c old new)) (alike_as_udp rest' (adjusted c old new) ∙ (alike ∙ whole))
