-- Folding as it goes.
use Rattle.std.proofs.Common.{◌≡◌, ℕ, ◌+◌, ◌%◌, ◌≤◌, List, length, take, drop, sym, ap, ◌∙◌, arith}
use Rattle.std.proofs.lemmas.List.{take-append-drop, length-take-le}
use Rattle.inet_sum.specs.Sum.{words, folded}
use Rattle.inet_sum.proofs.Laws.{words-append}

-- what is folded before the rest is added folds alike
folded-folded : (a b : ℕ) → folded (folded a + b) ≡ folded (a + b)
folded-folded a b = grind arith

-- words in two pieces, the first of them whole
pub words_in_pieces : (n : ℕ) (octets : List ℕ) → n % 2 ≡ 0 → n ≤ length octets → words (take n octets) + words (drop n octets) ≡ words octets
words_in_pieces n octets even fits =
    let len : length (take n octets) ≡ n = length-take-le n octets fits in
    sym (words-append (take n octets) (drop n octets) (ap (λ (k : ℕ). k % 2) len ∙ even)) ∙ ap words (take-append-drop n octets)

-- the sum so far is folded, and the rest goes on from there
pub folded_on : (before n : ℕ) (octets : List ℕ) → n % 2 ≡ 0 → n ≤ length octets
    → folded (folded (before + words (take n octets)) + words (drop n octets)) ≡ folded (before + words octets)
folded_on before n octets even fits =
    let all = words_in_pieces n octets even fits in
    let e : (before + words (take n octets)) + words (drop n octets) ≡ before + words octets = omega arith in
    folded-folded (before + words (take n octets)) (words (drop n octets)) ∙ ap folded e
