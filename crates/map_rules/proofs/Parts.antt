-- Numbers that are made of parts at powers of two.
use Rattle.std.proofs.Common.{◌≡◌, ℕ, suc, ◌+◌, ◌*◌, ◌/◌, ◌%◌, ◌^◌, ◌<◌, ◌≤◌, sym, ◌∙◌, ap, arith, lit<}
use Rattle.std.proofs.Math.Nat.{mul-le-mul_right, mod-eq_of_lt, div-lt_iff_lt-mul, pow-le-pow_right}
use Rattle.std.proofs.lemmas.Nat.{pow_pos, pow-add, div-add-mod'}

-- a power by its two exponents
pub power : (n i j : ℕ) → i + j ≡ n → 2 ^ n ≡ 2 ^ i * 2 ^ j
power n i j e = ap (λ x. 2 ^ x) (sym e) ∙ pow-add 2 i j

-- a number whose bits past the first are clear
pub clear-parts : (x n : ℕ) → x % 2 ^ n ≡ 0 → x / 2 ^ n * 2 ^ n ≡ x
clear-parts x n clear =
    let whole : x / 2 ^ n * 2 ^ n + x % 2 ^ n ≡ x = div-add-mod' x (2 ^ n) in
    omega arith

-- a shift by which nothing is lost
pub shift-fits : (x c j n : ℕ) → x < 2 ^ c → c + j ≤ n → x * 2 ^ j % 2 ^ n ≡ x * 2 ^ j
shift-fits x c j n less le =
    let some : 0 < 2 ^ j = pow_pos j in
    let up_to : suc x * 2 ^ j ≤ 2 ^ c * 2 ^ j = mul-le-mul_right (2 ^ j) less in
    let sizes : 2 ^ (c + j) ≡ 2 ^ c * 2 ^ j = pow-add 2 c j in
    let within : 2 ^ (c + j) ≤ 2 ^ n = pow-le-pow_right {n = 2} (lit< tt) {i = c + j} {j = n} le in
    mod-eq_of_lt (omega arith)

-- the high part of a number of c + d bits
pub high-small : (x c d n : ℕ) → c + d ≡ n → x < 2 ^ n → x / 2 ^ d < 2 ^ c
high-small x c d n e less = (div-lt_iff_lt-mul (pow_pos d)).1 (rw (power n c d e) at less)

-- sums of parts, regrouped
pub join-first : (x m D P W h t : ℕ) → x ≡ m * D → D ≡ P * W → x + (h * W + t) ≡ (m * P + h) * W + t
join-first x m D P W h t is_x is_D = rw (is_x, is_D) (omega arith)

pub join-rest : (x m D A C Q B W h l : ℕ) → x ≡ m * D → D ≡ A * Q * B → W ≡ C * Q * B → x + (h * W + l * B) ≡ ((m * A + h * C) * Q + l) * B
join-rest x m D A C Q B W h l is_x is_D is_W = rw (is_x, is_D, is_W) (omega arith)

-- a power by three exponents
pub power-three : (n i j k : ℕ) → i + j + k ≡ n → 2 ^ n ≡ 2 ^ i * 2 ^ j * 2 ^ k
power-three n i j k e = power n (i + j) k e ∙ ap (λ x. x * 2 ^ k) (pow-add 2 i j)
