-- A prefix in the least number of whole octets: the octets that aren't written are zeros.
use Rattle.std.proofs.Common.{◌≡◌, ℕ, zero, suc, ◌+◌, ◌-◌, ◌*◌, ◌/◌, ◌%◌, ◌^◌, ◌<◌, List, [], ◌∷◌, ◌++◌, length, take, replicate, refl, sym, ap, ◌∙◌, arith}
use Rattle.std.specs.Int.{byte_at, bytes_high_first}
use Rattle.std.proofs.Math.Nat.{one-le-pow, pow-succ', mul_assoc}
use Rattle.std.proofs.lemmas.Nat.{pow-add, div-mul-add}
use Rattle.std.proofs.lemmas.List.{append-nil, length-take-le}
use Rattle.byteorder.specs.Numbers.{length-bytes_high_first, big_number-reads_back}
use Rattle.octets.specs.Field.{sixteen, in_sixteen}
use Rattle.octets.specs.declared.prefix.Prefix6.{Prefix6}
use Rattle.s46_options.specs.Items.{octets_for, prefix_octets}
use Rattle.s46_options.specs.Faults.{prefix_number}
use Rattle.s46_options.proofs.Numbers.{byte_is}
use Rattle.s46_options.proofs.Contents.{parts_again}

pub div_whole : (a w : ℕ) → 0 < w → a * w / w ≡ a
div_whole a w some = ap (λ (n : ℕ). n / w) (let e : a * w ≡ a * w + 0 = omega arith in e) ∙ div-mul-add a w 0 some

all_zero : (m q x : ℕ) → x ≡ q * 256 ^ m → bytes_high_first m x ≡ replicate m 0
all_zero zero q x is = refl
all_zero (suc m) q x is =
    let some : 0 < 256 ^ m = omega (arith, one-le-pow m 256 (omega arith)) in
    let moved : x ≡ (q * 256) * 256 ^ m = is ∙ ap (λ (k : ℕ). q * k) (pow-succ' 256 m) ∙ sym (mul_assoc q 256 (256 ^ m)) in
    let head : byte_at m x ≡ 0 = byte_is m x ∙ ap (λ (y : ℕ). y / 256 ^ m % 256) moved ∙ ap (λ (y : ℕ). y % 256) (div_whole (q * 256) (256 ^ m) some) ∙ omega arith in
    ap (λ (y : ℕ). y ∷ bytes_high_first m x) head ∙ ap (λ (ys : List ℕ). 0 ∷ ys) (all_zero m (q * 256) x moved)

zeros_tail : (n k m q x : ℕ) → n ≡ k + m → x ≡ q * 256 ^ m → take k (bytes_high_first n x) ++ replicate m 0 ≡ bytes_high_first n x
zeros_tail n zero m q x all is = sym (all_zero m q x is) ∙ ap (λ (j : ℕ). bytes_high_first j x) (let e : m ≡ n = omega (arith, all) in e)
zeros_tail zero (suc k) m q x all is = absurd (omega (arith, all))
zeros_tail (suc n) (suc k) m q x all is = ap (λ (xs : List ℕ). byte_at n x ∷ xs) (zeros_tail n k m q x (omega (arith, all)) is)

pub in_bits : (m : ℕ) → 2 ^ (8 * m) ≡ 256 ^ m
in_bits zero = refl
in_bits (suc m) =
    ap (λ (k : ℕ). 2 ^ k) (let e : 8 * suc m ≡ 8 + 8 * m = omega arith in e)
    ∙ pow-add 2 8 (8 * m)
    ∙ ap (λ (k : ℕ). 256 * k) (in_bits m)
    ∙ sym (pow-succ' 256 m)

whole_octets : (x p e m : ℕ) → x % 2 ^ p ≡ 0 → p ≡ e + 8 * m → x ≡ (x / 2 ^ p * 2 ^ e) * 256 ^ m
whole_octets x p e m clear is =
    sym (parts_again x (2 ^ p) clear)
    ∙ ap (λ (k : ℕ). x / 2 ^ p * k) (ap (λ (k : ℕ). 2 ^ k) is ∙ pow-add 2 e (8 * m) ∙ ap (λ (k : ℕ). 2 ^ e * k) (in_bits m))
    ∙ sym (mul_assoc (x / 2 ^ p) (2 ^ e) (256 ^ m))

pub prefix_length : (prefix : Prefix6) → length (prefix_octets prefix) ≡ octets_for prefix.len
prefix_length prefix = length-take-le (octets_for prefix.len) (in_sixteen prefix.bits) (omega (arith, length-bytes_high_first 16 prefix.bits, prefix.within))

-- the octets of a prefix make its bits
pub prefix_back : (prefix : Prefix6) → prefix.bits < 2 ^ 128 → prefix_number (prefix_octets prefix) ≡ prefix.bits
unfolding prefix_number
prefix_back prefix small =
    let k = octets_for prefix.len in
    let m = 16 - k in
    let within = prefix.within in
    let x = prefix.bits in
    let p = 128 - prefix.len in
    let e = p - 8 * m in
    let whole : x ≡ (x / 2 ^ p * 2 ^ e) * 256 ^ m = whole_octets x p e m prefix.clear (omega arith) in
    let tail : take k (in_sixteen x) ++ replicate m 0 ≡ in_sixteen x = zeros_tail 16 k m (x / 2 ^ p * 2 ^ e) x (omega arith) whole in
    ap (λ (n : ℕ). sixteen (prefix_octets prefix ++ replicate (16 - n) 0) 0) (prefix_length prefix)
    ∙ ap (λ (xs : List ℕ). sixteen xs 0) (tail ∙ sym (append-nil (in_sixteen x)))
    ∙ big_number-reads_back 16 x [] small
