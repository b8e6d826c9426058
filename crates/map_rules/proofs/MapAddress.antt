-- The parts of a MAP address.
use Rattle.std.proofs.Common.{◌≡◌, ℕ, suc, ◌+◌, ◌-◌, ◌*◌, ◌/◌, ◌%◌, ◌^◌, ◌<◌, ◌≤◌, refl, sym, ◌∙◌, arith, lit<}
use Rattle.std.proofs.Math.Nat.{mul-le-mul_right, pow-le-pow_right}
use Rattle.std.proofs.lemmas.Nat.{pow_pos, pow-add, div-mul-add, mod-mul-add}
use Rattle.octets.specs.Bits.{bits_at, IsClearFrom}
use Rattle.map_rules.proofs.Parts.{power, clear-parts, high-small}

-- what the parts are known to be
pub record HasSizes (bits n o ea addr v : ℕ) : Type 0 where
  pub clear : IsClearFrom 128 bits n
  pub edge : n + o ≤ 64
  pub bits_of_ea : ea < 2 ^ o
  pub four : addr < 2 ^ 32
  pub psid : v < 2 ^ 16

-- the address as the sum of its parts
abbrev pub sum_of : ℕ → ℕ → ℕ → ℕ → ℕ → ℕ → ℕ
sum_of bits n o ea addr v = bits + ea * 2 ^ (128 - n - o) + addr * 2 ^ 16 + v

-- EA bits that are the suffix and the PSID
pub ea-small : (r o addr v : ℕ) → r ≤ 32 → 32 ≤ o + r → v < 2 ^ (o + r - 32) → addr % 2 ^ (32 - r) * 2 ^ (o + r - 32) + v < 2 ^ o
ea-small r o addr v within least less =
    let some : 0 < 2 ^ (32 - r) = pow_pos (32 - r) in
    let part : addr % 2 ^ (32 - r) < 2 ^ (32 - r) = omega arith in
    let up_to : suc (addr % 2 ^ (32 - r)) * 2 ^ (o + r - 32) ≤ 2 ^ (32 - r) * 2 ^ (o + r - 32) = mul-le-mul_right (2 ^ (o + r - 32)) part in
    let sizes : 2 ^ o ≡ 2 ^ (32 - r) * 2 ^ (o + r - 32) = power o (32 - r) (o + r - 32) (omega arith) in
    omega arith

join-front : (x m D P W ea t v : ℕ) → x ≡ m * D → D ≡ P * W → x + ea * W + t + v ≡ (m * P + ea) * W + (t + v)
join-front x m D P W ea t v is_x is_D = rw (is_x, is_D) (omega arith)

-- the prefix and the EA bits in front
front : (bits n o ea addr v : ℕ) → HasSizes bits n o ea addr v → sum_of bits n o ea addr v ≡ (bits / 2 ^ (128 - n) * 2 ^ o + ea) * 2 ^ (128 - n - o) + (addr * 2 ^ 16 + v)
front bits n o ea addr v sizes =
    let prefix : bits ≡ bits / 2 ^ (128 - n) * 2 ^ (128 - n) = sym (clear-parts bits (128 - n) sizes.clear) in
    let width : 2 ^ (128 - n) ≡ 2 ^ o * 2 ^ (128 - n - o) = power (128 - n) o (128 - n - o) (omega (arith, sizes.edge)) in
    join-front bits (bits / 2 ^ (128 - n)) (2 ^ (128 - n)) (2 ^ o) (2 ^ (128 - n - o)) ea (addr * 2 ^ 16) v prefix width

tail-small : (n o addr v : ℕ) → n + o ≤ 64 → addr < 2 ^ 32 → v < 2 ^ 16 → addr * 2 ^ 16 + v < 2 ^ (128 - n - o)
tail-small n o addr v edge four psid =
    let width : 2 ^ 48 ≤ 2 ^ (128 - n - o) = pow-le-pow_right {n = 2} (lit< tt) {i = 48} {j = 128 - n - o} (omega arith) in
    let tail : addr * 2 ^ 16 + v < 2 ^ 48 = omega arith in
    omega arith

-- its first n + o bits
pub front-part : (bits n o ea addr v : ℕ) → HasSizes bits n o ea addr v → sum_of bits n o ea addr v / 2 ^ (128 - n - o) ≡ bits / 2 ^ (128 - n) * 2 ^ o + ea
front-part bits n o ea addr v sizes =
    rw (front bits n o ea addr v sizes) (div-mul-add (bits / 2 ^ (128 - n) * 2 ^ o + ea) (2 ^ (128 - n - o)) (addr * 2 ^ 16 + v) (tail-small n o addr v sizes.edge sizes.four sizes.psid))

-- it fits
pub sum-small : (bits n o ea addr v : ℕ) → bits < 2 ^ 128 → HasSizes bits n o ea addr v → sum_of bits n o ea addr v < 2 ^ 128
sum-small bits n o ea addr v fits sizes =
    let m : ℕ = bits / 2 ^ (128 - n) in
    let high : m < 2 ^ n = high-small bits n (128 - n) 128 (omega (arith, sizes.edge)) fits in
    let both : suc m * 2 ^ o ≤ 2 ^ n * 2 ^ o = mul-le-mul_right (2 ^ o) high in
    let first : 2 ^ (n + o) ≡ 2 ^ n * 2 ^ o = pow-add 2 n o in
    let under : suc (m * 2 ^ o + ea) ≤ 2 ^ (n + o) = omega (arith, sizes.bits_of_ea) in
    let scaled : suc (m * 2 ^ o + ea) * 2 ^ (128 - n - o) ≤ 2 ^ (n + o) * 2 ^ (128 - n - o) = mul-le-mul_right (2 ^ (128 - n - o)) under in
    let all : 2 ^ 128 ≡ 2 ^ (n + o) * 2 ^ (128 - n - o) = power 128 (n + o) (128 - n - o) (omega (arith, sizes.edge)) in
    let tail = tail-small n o addr v sizes.edge sizes.four sizes.psid in
    rw (front bits n o ea addr v sizes) (omega arith)

join-back : (Z W Y T addr v : ℕ) → W ≡ Y * T → T ≡ 2 ^ 48 → Z * W + (addr * 2 ^ 16 + v) ≡ (Z * Y * 2 ^ 32 + addr) * 2 ^ 16 + v
join-back Z W Y T addr v is_W is_T = rw (is_W, is_T) (omega arith)

-- the IPv4 address and the PSID behind
back : (bits n o ea addr v : ℕ) → HasSizes bits n o ea addr v → sum_of bits n o ea addr v ≡ ((bits / 2 ^ (128 - n) * 2 ^ o + ea) * 2 ^ (80 - n - o) * 2 ^ 32 + addr) * 2 ^ 16 + v
back bits n o ea addr v sizes =
    let width : 2 ^ (128 - n - o) ≡ 2 ^ (80 - n - o) * 2 ^ 48 = power (128 - n - o) (80 - n - o) 48 (omega (arith, sizes.edge)) in
    front bits n o ea addr v sizes ∙ join-back (bits / 2 ^ (128 - n) * 2 ^ o + ea) (2 ^ (128 - n - o)) (2 ^ (80 - n - o)) (2 ^ 48) addr v width refl

pub addr-part : (bits n o ea addr v : ℕ) → HasSizes bits n o ea addr v → bits_at 128 (sum_of bits n o ea addr v) 80 32 ≡ addr
addr-part bits n o ea addr v sizes =
    let y : ℕ = (bits / 2 ^ (128 - n) * 2 ^ o + ea) * 2 ^ (80 - n - o) in
    rw (back bits n o ea addr v sizes, div-mul-add (y * 2 ^ 32 + addr) (2 ^ 16) v sizes.psid) (mod-mul-add y (2 ^ 32) addr sizes.four)

pub psid-part : (bits n o ea addr v : ℕ) → HasSizes bits n o ea addr v → bits_at 128 (sum_of bits n o ea addr v) 112 16 ≡ v
psid-part bits n o ea addr v sizes =
    let y : ℕ = (bits / 2 ^ (128 - n) * 2 ^ o + ea) * 2 ^ (80 - n - o) in
    let one : sum_of bits n o ea addr v / 1 ≡ sum_of bits n o ea addr v = omega arith in
    rw (one, back bits n o ea addr v sizes) (mod-mul-add (y * 2 ^ 32 + addr) (2 ^ 16) v sizes.psid)
