-- How large the number of some groups is.
use Rattle.std.proofs.Common.{◌≡◌, ℕ, zero, suc, ◌+◌, ◌-◌, ◌*◌, ◌^◌, ◌≤◌, ◌<◌, refl, sym, ap, ◌∙◌, arith}
use Rattle.std.proofs.Math.Nat.{pow-le-pow_right, mul-le-mul_right, add-mul, one-mul}
use Rattle.std.proofs.lemmas.Nat.{pow-add}
use Rattle.std.proofs.Math.Numerals.{add-one}
use Rattle.std.proofs.lemmas.Grind.{pow_more}

-- one group more
pub more_fits : (value group count : ℕ) → value < 65536 ^ count → group < 65536 → value * 65536 + group < 65536 ^ (count + 1)
more_fits value group count h g =
    let below : value + 1 ≤ 65536 ^ count = omega arith in
    let top : (value + 1) * 65536 ≤ 65536 ^ count * 65536 = mul-le-mul_right 65536 below in
    rw (pow_more 65536 count) (omega arith)

pub eight_fit : (value count : ℕ) → count ≤ 8 → value < 65536 ^ count → value < 2 ^ 128
eight_fit value count le h =
    let top : 65536 ^ count ≤ 65536 ^ 8 = pow-le-pow_right (omega arith) le in
    omega arith

pub groups_bits : (k : ℕ) → 2 ^ (16 * k) ≡ 65536 ^ k
groups_bits zero = refl
groups_bits (suc k) =
    let e : 16 * suc k ≡ 16 * k + 16 = omega arith in
    ap (λ (n : ℕ). 2 ^ n) e ∙ pow-add 2 (16 * k) 16 ∙ ap (λ (p : ℕ). p * 65536) (groups_bits k) ∙ sym (pow_more 65536 k) ∙ ap (λ (n : ℕ). 65536 ^ n) (add-one k)

-- the groups before a gap, moved up behind it, and those behind the gap
moved : (a : ℕ) → a ≤ 8 → (65536 ^ a * 2 ^ (16 * (8 - a)) ≡ 2 ^ 128) × (2 ^ (16 * (8 - a)) ≡ 65536 ^ (8 - a))
moved a le =
    let up : 2 ^ (16 * (8 - a)) ≡ 65536 ^ (8 - a) = groups_bits (8 - a) in
    let all : a + (8 - a) ≡ 8 = omega arith in
    (ap (λ (p : ℕ). 65536 ^ a * p) up ∙ sym (pow-add 65536 a (8 - a)) ∙ ap (λ (k : ℕ). 65536 ^ k) all, up)

pub gap_fits : (a left b right : ℕ) → left < 65536 ^ a → right < 65536 ^ b → a + b < 8 → left * 2 ^ (16 * (8 - a)) + right < 2 ^ 128
gap_fits a left b right h g lt =
    let m = moved a (omega arith) in
    let below : left + 1 ≤ 65536 ^ a = omega arith in
    let up : (left + 1) * 2 ^ (16 * (8 - a)) ≤ 65536 ^ a * 2 ^ (16 * (8 - a)) = mul-le-mul_right (2 ^ (16 * (8 - a))) below in
    let small : 65536 ^ b ≤ 65536 ^ (8 - a) = pow-le-pow_right (omega arith) (omega arith) in
    let split : (left + 1) * 2 ^ (16 * (8 - a)) ≡ left * 2 ^ (16 * (8 - a)) + 2 ^ (16 * (8 - a)) = add-mul left 1 (2 ^ (16 * (8 - a))) ∙ ap (λ (x : ℕ). left * 2 ^ (16 * (8 - a)) + x) (one-mul (2 ^ (16 * (8 - a)))) in
    omega (arith, up, small, split, m.0, m.1)
