-- Octets that are added at the end leave the parts in front as they are, and a number that was written is
-- read again.
use Rattle.std.proofs.Common.{◌≡◌, ℕ, zero, suc, ◌+◌, ◌*◌, ◌/◌, ◌%◌, ◌^◌, ◌<◌, ◌≤◌, List, ◌∷◌, ◌++◌, length, take, drop, get_or, refl, sym, ap, ◌∙◌, arith}
use Rattle.std.specs.Int.{byte_at, bytes_high_first}
use Rattle.std.proofs.Math.Nat.{div-one, mod-eq_of_lt, one-le-pow, pow-succ'}
use Rattle.std.proofs.Math.Arith.{mod-mul}
use Rattle.std.proofs.lemmas.List.{take-append-le, drop-append-le, get_or_append_left, length-drop}
use Rattle.byteorder.specs.Endian.{big_from}
use Rattle.octets.specs.Field.{part}

-- a number of `count` octets at a place
pub number-append : (octets more : List ℕ) (at count : ℕ) → at + count ≤ length octets → big_from at count (octets ++ more) ≡ big_from at count octets
number-append octets more at zero h = refl
number-append octets more at (suc count) h =
    let first = get_or_append_left octets more 0 at (omega arith) in
    let rest = number-append octets more (suc at) count (omega arith) in
    rw (first, rest) refl

pub part-append : (octets more : List ℕ) (at count : ℕ) → at + count ≤ length octets → part (octets ++ more) at count ≡ part octets at count
part-append octets more at count h =
    ap (take count) (drop-append-le at octets more (omega arith)) ∙ take-append-le count (drop at octets) more (omega (arith, length-drop at octets))

-- an octet in front moves the places on
number-cons : (at count first : ℕ) (octets : List ℕ) → big_from (suc at) count (first ∷ octets) ≡ big_from at count octets
number-cons at zero first octets = refl
number-cons at (suc count) first octets =
    ap (λ (r : ℕ). get_or octets at 0 * 256 ^ count + r) (number-cons (suc at) count first octets)

byte_is : (k x : ℕ) → byte_at k x ≡ x / 256 ^ k % 256
byte_is zero x = ap (λ (y : ℕ). y % 256) (sym (div-one x))
byte_is (suc k) x = refl

low_digits : (count x : ℕ) (rest : List ℕ) → big_from 0 count (bytes_high_first count x ++ rest) ≡ x % 256 ^ count
low_digits zero x rest = omega arith
low_digits (suc count) x rest =
    let moved = number-cons 0 count (byte_at count x) (bytes_high_first count x ++ rest) in
    let lower = low_digits count x rest in
    let some : 0 < 256 ^ count = omega (arith, one-le-pow count 256 (omega arith)) in
    let split = mod-mul x {m = 256} {c = 256 ^ count} (omega arith) some in
    rw (moved, lower, byte_is count x, pow-succ' 256 count, split) refl

-- a number that was written is read again
pub number_back : (count x : ℕ) (rest : List ℕ) → x < 256 ^ count → big_from 0 count (bytes_high_first count x ++ rest) ≡ x
number_back count x rest fits = low_digits count x rest ∙ mod-eq_of_lt fits
