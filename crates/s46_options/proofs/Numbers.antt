-- Numbers as octets, highest first: octets are those of the number that they make.
use Rattle.std.proofs.Common.{◌≡◌, ℕ, zero, suc, ◌+◌, ◌*◌, ◌/◌, ◌%◌, ◌^◌, ◌<◌, List, [], ◌∷◌, ◌++◌, length, get_or, take, drop, replicate, refl, sym, ap, ◌∙◌, arith, inl, inr}
use Rattle.std.proofs.Math.Nat.{mod-lt, div-one}
use Rattle.std.proofs.lemmas.Nat.{div-mul-add, mod-mul-add}
use Rattle.std.proofs.lemmas.Bool.{cases_lt}
use Rattle.std.proofs.lemmas.List.{get_or_past, get_or-drop, length-replicate}
use Rattle.std.proofs.Math.ListN.{get_or-replicate}
use Rattle.std.specs.Int.{byte_at, bytes_high_first}
use Rattle.byteorder.specs.Endian.{big_from}
use Rattle.byteorder.specs.Numbers.{big_from-cons, big_from-lt, length-bytes_high_first, big_number-reads_back}
use Rattle.std.proofs.lemmas.List.{append-nil}

abbrev pub AreOctets : List ℕ → Type 0
AreOctets octets = (i : ℕ) → get_or octets i 0 < 256

pub octets_drop : (n : ℕ) (xs : List ℕ) → AreOctets xs → AreOctets (drop n xs)
octets_drop n xs h i = rw get_or-drop (h (n + i))

pub octets_take : (n : ℕ) (xs : List ℕ) → AreOctets xs → AreOctets (take n xs)
octets_take zero xs h i = omega arith
octets_take (suc n) [] h i = omega arith
octets_take (suc n) (x ∷ xs) h zero = h 0
octets_take (suc n) (x ∷ xs) h (suc i) = octets_take n xs (λ k. h (suc k)) i

pub octets_append : (xs ys : List ℕ) → AreOctets xs → AreOctets ys → AreOctets (xs ++ ys)
octets_append [] ys hx hy i = hy i
octets_append (x ∷ xs) ys hx hy zero = hx 0
octets_append (x ∷ xs) ys hx hy (suc i) = octets_append xs ys (λ k. hx (suc k)) hy i

pub octets_zeros : (n : ℕ) → AreOctets (replicate n 0)
octets_zeros n i =
    elim (cases_lt i n) [
      | inl lt ↦ rw (get_or-replicate {A = ℕ} n i 0 0 lt) (omega arith)
      | inr le ↦ rw (get_or_past {X = ℕ} (replicate n 0) i 0 (omega (arith, length-replicate {A = ℕ} n 0))) (omega arith)
    ]

pub byte_is : (k x : ℕ) → byte_at k x ≡ x / 256 ^ k % 256
byte_is zero x = ap (λ (y : ℕ). y % 256) (sym (div-one x))
byte_is (suc k) x = refl

byte_lt : (k x : ℕ) → byte_at k x < 256
byte_lt k x = rw (byte_is k x) (mod-lt (x / 256 ^ k) (omega arith))

pub octets_bytes : (n x : ℕ) → AreOctets (bytes_high_first n x)
octets_bytes zero x i = omega arith
octets_bytes (suc n) x zero = byte_lt n x
octets_bytes (suc n) x (suc i) = octets_bytes n x i

digits_same : (x y p r s : ℕ) → r < p → s < p → x * p + r ≡ y * p + s → (x ≡ y) × (r ≡ s)
digits_same x y p r s hr hs e = (
  sym (div-mul-add x p r hr) ∙ ap (λ (z : ℕ). z / p) e ∙ div-mul-add y p s hs,
  sym (mod-mul-add x p r hr) ∙ ap (λ (z : ℕ). z % p) e ∙ mod-mul-add y p s hs,
)

-- octets of one number are the same
pub same_octets : (n : ℕ) (xs ys : List ℕ) → length xs ≡ n → length ys ≡ n → AreOctets xs → AreOctets ys → big_from 0 n xs ≡ big_from 0 n ys → xs ≡ ys
same_octets zero [] [] lx ly hx hy e = refl
same_octets zero [] (y ∷ ys) lx ly hx hy e = absurd (omega (arith, ly))
same_octets zero (x ∷ xs) ys lx ly hx hy e = absurd (omega (arith, lx))
same_octets (suc n) [] ys lx ly hx hy e = absurd (omega (arith, lx))
same_octets (suc n) (x ∷ xs) [] lx ly hx hy e = absurd (omega (arith, ly))
same_octets (suc n) (x ∷ xs) (y ∷ ys) lx ly hx hy e =
    let hxs : AreOctets xs = λ i. hx (suc i) in
    let hys : AreOctets ys = λ i. hy (suc i) in
    let moved : x * 256 ^ n + big_from 0 n xs ≡ y * 256 ^ n + big_from 0 n ys = ap (λ (r : ℕ). x * 256 ^ n + r) (sym (big_from-cons 0 n x xs)) ∙ e ∙ ap (λ (r : ℕ). y * 256 ^ n + r) (big_from-cons 0 n y ys) in
    let both = digits_same x y (256 ^ n) (big_from 0 n xs) (big_from 0 n ys) (big_from-lt 0 n xs hxs) (big_from-lt 0 n ys hys) moved in
    let rest : xs ≡ ys = same_octets n xs ys (omega (arith, lx)) (omega (arith, ly)) hxs hys both.1 in
    let head : x ≡ y = both.0 in
    ap (λ (z : ℕ). z ∷ xs) head ∙ ap (λ (zs : List ℕ). y ∷ zs) rest

-- octets are those of their number
pub bytes_again : (n : ℕ) (xs : List ℕ) → length xs ≡ n → AreOctets xs → bytes_high_first n (big_from 0 n xs) ≡ xs
bytes_again n xs len h =
    let fits = big_from-lt 0 n xs h in
    let made = bytes_high_first n (big_from 0 n xs) in
    let back : big_from 0 n made ≡ big_from 0 n xs = ap (big_from 0 n) (sym (append-nil made)) ∙ big_number-reads_back n (big_from 0 n xs) [] fits in
    same_octets n made xs (length-bytes_high_first n (big_from 0 n xs)) len (octets_bytes n (big_from 0 n xs)) h back
