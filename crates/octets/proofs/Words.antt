-- Octets with a number of 16 bits at a place: what changed, and what didn't.
use Rattle.std.proofs.Common.{◌≡◌, ℕ, suc, ◌+◌, ◌/◌, ◌%◌, ◌<◌, ◌≤◌, ◌⊎◌, inl, inr, List, length, arith, rules}
use Rattle.std.proofs.lemmas.List.{places}
use Rattle.octets.specs.Field.{octet, word, with_word}

-- there are as many octets
pub length-with_word : (at n : ℕ) (xs : List ℕ) → at + 2 ≤ length xs → length (with_word at n xs) ≡ length xs
length-with_word at n xs fits = search (rules, places)

-- another octet is as it was
pub octet-with_word : (at n : ℕ) (xs : List ℕ) (k : ℕ) → at + 2 ≤ length xs → (k < at) ⊎ (at + 2 ≤ k) → octet (with_word at n xs) k ≡ octet xs k
octet-with_word at n xs k fits apart = grind (arith, places)

-- the two octets at the place
pub octet-with_word_high : (at n : ℕ) (xs : List ℕ) → at + 2 ≤ length xs → n < 65536 → octet (with_word at n xs) at ≡ n / 256
octet-with_word_high at n xs fits small = grind (arith, places)

pub octet-with_word_low : (at n : ℕ) (xs : List ℕ) → at + 2 ≤ length xs → octet (with_word at n xs) (suc at) ≡ n % 256
octet-with_word_low at n xs fits = grind (arith, places)

-- the number at the place
pub word-with_word : (at n : ℕ) (xs : List ℕ) → at + 2 ≤ length xs → n < 65536 → word (with_word at n xs) at ≡ n
word-with_word at n xs fits small =
    let high = octet-with_word_high at n xs fits small in
    let low = octet-with_word_low at n xs fits in
    omega arith

-- a number at another place
pub word-with_word_other : (at n : ℕ) (xs : List ℕ) (k : ℕ) → at + 2 ≤ length xs → (k + 2 ≤ at) ⊎ (at + 2 ≤ k) → word (with_word at n xs) k ≡ word xs k
word-with_word_other at n xs k fits (inl below) =
    let high = octet-with_word at n xs k fits (inl (omega arith)) in
    let low = octet-with_word at n xs (suc k) fits (inl (omega arith)) in
    omega arith
word-with_word_other at n xs k fits (inr above) =
    let high = octet-with_word at n xs k fits (inr (omega arith)) in
    let low = octet-with_word at n xs (suc k) fits (inr (omega arith)) in
    omega arith
