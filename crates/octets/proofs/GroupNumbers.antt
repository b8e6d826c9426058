-- The number of groups, and of those round a gap.
use Rattle.std.proofs.Common.{◌≡◌, ℕ, zero, suc, ◌+◌, ◌-◌, ◌*◌, ◌^◌, ◌≤◌, List, [], ◌∷◌, ◌++◌, length, replicate, refl, sym, ap, ◌∙◌, add_assoc, arith}
use Rattle.std.proofs.Math.Nat.{add-mul, mul_assoc, mul_comm}
use Rattle.std.proofs.lemmas.Nat.{pow-add}
use Rattle.std.proofs.lemmas.Grind.{pow_more}
use Rattle.std.proofs.Math.Numerals.{add-one}
use Rattle.std.proofs.lemmas.List.{length-replicate}
use Rattle.std.proofs.lemmas.List.Sums.{fold-append}
use Rattle.octets.specs.Text6.{number_from, number_of_groups}
use Rattle.octets.proofs.Sizes.{groups_bits}

abbrev step : ℕ → ℕ → ℕ
step n g = n * 65536 + g

power_suc : (k : ℕ) → 65536 * 65536 ^ k ≡ 65536 ^ suc k
power_suc k = mul_comm 65536 (65536 ^ k) ∙ sym (pow_more 65536 k) ∙ ap (λ (n : ℕ). 65536 ^ n) (add-one k)

regroup : (n g p x : ℕ) → (n * 65536 + g) * p + x ≡ n * (65536 * p) + ((0 * 65536 + g) * p + x)
regroup n g p x =
    let a : (n * 65536 + g) * p ≡ n * (65536 * p) + g * p = add-mul (n * 65536) g p ∙ ap (λ (y : ℕ). y + g * p) (mul_assoc n 65536 p) in
    let b : (0 * 65536 + g) * p ≡ g * p = ap (λ (y : ℕ). y * p) (let z : 0 * 65536 + g ≡ g = omega arith in z) in
    ap (λ (y : ℕ). y + x) a ∙ add_assoc (n * (65536 * p)) (g * p) x ∙ ap (λ (y : ℕ). n * (65536 * p) + (y + x)) (sym b)

-- groups behind a number
pub number_from-split : (n : ℕ) (gs : List ℕ) → number_from n gs ≡ n * 65536 ^ length gs + number_of_groups gs
number_from-split n [] = omega arith
number_from-split n (g ∷ gs) =
    let p = 65536 ^ length gs in
    number_from-split (n * 65536 + g) gs
    ∙ regroup n g p (number_of_groups gs)
    ∙ ap (λ (y : ℕ). n * y + ((0 * 65536 + g) * p + number_of_groups gs)) (power_suc (length gs))
    ∙ ap (λ (y : ℕ). n * 65536 ^ suc (length gs) + y) (sym (number_from-split (0 * 65536 + g) gs))

zeros_are_none : (k n : ℕ) → n ≡ 0 → number_from n (replicate k 0) ≡ 0
zeros_are_none zero n h = h
zeros_are_none (suc k) n h = zeros_are_none k (n * 65536 + 0) (omega (arith, h))

-- the groups before a gap stand highest, those behind it lowest
pub number_round_gap : (before after : List ℕ) → length before + length after ≤ 7 → number_of_groups (before ++ replicate (8 - (length before + length after)) 0 ++ after) ≡ number_of_groups before * 2 ^ (16 * (8 - length before)) + number_of_groups after
number_round_gap before after le =
    let k = 8 - (length before + length after) in
    let b = number_of_groups before in
    let zeros = replicate k 0 in
    let moved : number_from b zeros ≡ b * 65536 ^ k =
    number_from-split b zeros
    ∙ ap (λ (y : ℕ). b * 65536 ^ length zeros + y) (zeros_are_none k 0 refl)
    ∙ ap (λ (y : ℕ). b * 65536 ^ y + 0) (length-replicate k 0)
    ∙ (let z : b * 65536 ^ k + 0 ≡ b * 65536 ^ k = omega arith in z) in
    let whole : number_of_groups (before ++ zeros ++ after) ≡ number_from (number_from b zeros) after =
    fold-append step 0 (before ++ zeros) after
    ∙ ap (λ (y : ℕ). number_from y after) (fold-append step 0 before zeros) in
    let up : b * 65536 ^ k * 65536 ^ length after ≡ b * 2 ^ (16 * (8 - length before)) =
    mul_assoc b (65536 ^ k) (65536 ^ length after)
    ∙ ap (λ (y : ℕ). b * y) (sym (pow-add 65536 k (length after)) ∙ ap (λ (y : ℕ). 65536 ^ y) (let z : k + length after ≡ 8 - length before = omega arith in z) ∙ sym (groups_bits (8 - length before))) in
    whole
    ∙ ap (λ (y : ℕ). number_from y after) moved
    ∙ number_from-split (b * 65536 ^ k) after
    ∙ ap (λ (y : ℕ). y + number_of_groups after) up
