-- A number that is written behind other octets is written there as it would be without them.
use Rattle.std.proofs.Common.{◌≡◌, ℕ, ◌+◌, List, ◌++◌, length, take, drop, ap, ◌∙◌, append_assoc, arith}
use Rattle.std.proofs.Math.Seq.{take-append-add, drop-append-add}
use Rattle.octets.specs.Field.{in_word, with_word}

word_behind : (front payload : List ℕ) (at number : ℕ) → with_word (length front + at) number (front ++ payload) ≡ front ++ with_word at number payload
word_behind front payload at number =
    let before : take (length front + at) (front ++ payload) ≡ front ++ take at payload = take-append-add front payload at in
    let place : length front + at + 2 ≡ length front + (at + 2) = omega arith in
    let after : drop (length front + at + 2) (front ++ payload) ≡ drop (at + 2) payload = ap (λ (n : ℕ). drop n (front ++ payload)) place ∙ drop-append-add front payload (at + 2) in
    rw (before, after) (append_assoc front (take at payload) (in_word number ++ drop (at + 2) payload))

-- three of them, one over the other
pub three_behind : (front payload : List ℕ) (at first second third a b c : ℕ) → at ≡ length front
    → with_word (at + third) c (with_word (at + second) b (with_word (at + first) a (front ++ payload)))
    ≡ front ++ with_word third c (with_word second b (with_word first a payload))
three_behind front payload at first second third a b c is =
    rw is (rw (word_behind front payload first a, word_behind front (with_word first a payload) second b) (word_behind front (with_word second b (with_word first a payload)) third c))
