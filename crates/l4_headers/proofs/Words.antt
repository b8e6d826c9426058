-- The sum of octets with another number of 16 bits at a whole word.
use Rattle.std.proofs.Common.{◌≡◌, ℕ, suc, ◌+◌, ◌%◌, ◌<◌, ◌≤◌, List, ◌++◌, length, take, drop, ap, arith, drop-cons}
use Rattle.std.proofs.lemmas.List.{length-take-le, take-append-drop}
use Rattle.octets.specs.Field.{word, in_word, with_word}
use Rattle.inet_sum.specs.Sum.{words}
use Rattle.inet_sum.proofs.Laws.{words-append}

-- a text from a whole word on
words-drop : (at : ℕ) (xs : List ℕ) → at + 2 ≤ length xs → words (drop at xs) ≡ word xs at + words (drop (at + 2) xs)
words-drop at xs fits =
    let two : at + 2 ≡ suc (suc at) = omega arith in
    let first : at < length xs = omega arith in
    let second : suc at < length xs = omega arith in
    rw (drop-cons xs at 0, drop-cons xs (suc at) 0, two) (omega arith)

-- the words' sum
pub words-with_word : (at n : ℕ) (xs : List ℕ) → at + 2 ≤ length xs → at % 2 ≡ 0 → n < 65536 → words (with_word at n xs) + word xs at ≡ words xs + n
words-with_word at n xs fits even small =
    let len = length-take-le at xs (omega arith) in
    let old = words-append (take at xs) (drop at xs) (omega arith) in
    let new = words-append (take at xs) (in_word n ++ drop (at + 2) xs) (omega arith) in
    let whole : words (take at xs ++ drop at xs) ≡ words xs = ap words (take-append-drop at xs) in
    let rest = words-drop at xs fits in
    omega arith
