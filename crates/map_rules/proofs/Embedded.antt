-- The parts of an embedded address.
use Rattle.std.proofs.Common.{◌≡◌, ◌≢◌, ℕ, suc, ◌+◌, ◌-◌, ◌*◌, ◌/◌, ◌%◌, ◌^◌, ◌<◌, ◌≤◌, false, refl, sym, ◌∙◌, ap, subst, arith, IsTrue, inl, inr}
use Rattle.std.specs.Prelude.{◌==◌}
use Rattle.std.proofs.Math.Nat.{mul-le-mul_right, mod-eq_of_lt, mul-div_cancel}
use Rattle.std.proofs.lemmas.Nat.{shr-shr, one_shl, pow_pos, div-add-mod', div-mul-add, mod-mul-add}
use Rattle.std.proofs.lemmas.Bool.Decides.{nat_tests, eqb_tells}
use Rattle.octets.specs.Bits.{bits_at, IsClearFrom, SameFirst}
use Rattle.map_rules.specs.Embedding.{embedded, placed, is_embedding_prefix}
use Rattle.map_rules.proofs.Parts.{power, clear-parts, shift-fits, high-small, join-first, join-rest, power-three}

pub length-least : (bits len : ℕ) → IsTrue (is_embedding_prefix bits len) → 32 ≤ len
length-least bits len valid = grind (arith, nat_tests)

pub length-most : (bits len : ℕ) → IsTrue (is_embedding_prefix bits len) → len ≢ 96 → len ≤ 64
length-most bits len valid short = grind (arith, nat_tests)

-- with 96 bits
pub embedded-long : (bits addr : ℕ) → embedded bits 96 addr ≡ bits + addr
unfolding embedded
embedded-long bits addr = refl

-- with at most 64 bits: the address in two parts
pub embedded-short : (bits len addr : ℕ) → 32 ≤ len → len ≤ 64 → addr < 2 ^ 32 → embedded bits len addr ≡ bits + (addr / 2 ^ (len - 32) * 2 ^ 64 + addr % 2 ^ (len - 32) * 2 ^ (88 - len))
unfolding embedded
embedded-short bits len addr least most small =
    let short : (len == 96) ≡ false = grind (arith, nat_tests) in
    let behind : 32 - (0 + (64 - len)) ≡ len - 32 = omega arith in
    let end : 32 - (64 - len + (len - 32)) ≡ 0 = omega arith in
    let first : 128 - (len + (64 - len)) ≡ 64 = omega arith in
    let rest : 128 - (72 + (len - 32)) ≡ 88 - len = omega arith in
    let whole : addr / 1 ≡ addr = omega arith in
    let high : addr / 2 ^ (len - 32) % 2 ^ (64 - len) ≡ addr / 2 ^ (len - 32) = mod-eq_of_lt (high-small addr (64 - len) (len - 32) 32 (omega arith) small) in
    rw (short, behind, end, first, rest, high, whole) refl

rest-small : (len addr : ℕ) → 32 ≤ len → len ≤ 64 → addr % 2 ^ (len - 32) * 2 ^ (88 - len) < 2 ^ 64
rest-small len addr least most =
    let some : 0 < 2 ^ (len - 32) = pow_pos (len - 32) in
    let part : addr % 2 ^ (len - 32) < 2 ^ (len - 32) = omega arith in
    let some' : 0 < 2 ^ (88 - len) = pow_pos (88 - len) in
    let up_to : suc (addr % 2 ^ (len - 32)) * 2 ^ (88 - len) ≤ 2 ^ (len - 32) * 2 ^ (88 - len) = mul-le-mul_right (2 ^ (88 - len)) part in
    let sizes : 2 ^ 56 ≡ 2 ^ (len - 32) * 2 ^ (88 - len) = power 56 (len - 32) (88 - len) (omega arith) in
    omega arith

-- the first 64 bits of an embedded address
embedded-high : (bits len addr : ℕ) → IsClearFrom 128 bits len → 32 ≤ len → len ≤ 64 → addr < 2 ^ 32 → embedded bits len addr / 2 ^ 64 ≡ bits / 2 ^ (128 - len) * 2 ^ (64 - len) + addr / 2 ^ (len - 32)
embedded-high bits len addr clear least most small =
    let m : ℕ = bits / 2 ^ (128 - len) in
    let h : ℕ = addr / 2 ^ (len - 32) in
    let t : ℕ = addr % 2 ^ (len - 32) * 2 ^ (88 - len) in
    let prefix : m * 2 ^ (128 - len) ≡ bits = clear-parts bits (128 - len) clear in
    let sizes : 2 ^ (128 - len) ≡ 2 ^ (64 - len) * 2 ^ 64 = power (128 - len) (64 - len) 64 (omega arith) in
    let under : t < 2 ^ 64 = rest-small len addr least most in
    let parts : bits + (h * 2 ^ 64 + t) ≡ (m * 2 ^ (64 - len) + h) * 2 ^ 64 + t = join-first bits m (2 ^ (128 - len)) (2 ^ (64 - len)) (2 ^ 64) h t (sym prefix) sizes in
    rw (embedded-short bits len addr least most small, parts) (div-mul-add (m * 2 ^ (64 - len) + h) (2 ^ 64) t under)

-- the parts of an embedded address as it is cut
pub first-part : (bits len addr : ℕ) → IsClearFrom 128 bits len → 32 ≤ len → len ≤ 64 → addr < 2 ^ 32 → bits_at 128 (embedded bits len addr) len (64 - len) ≡ addr / 2 ^ (len - 32)
first-part bits len addr clear least most small =
    let at : 128 - (len + (64 - len)) ≡ 64 = omega arith in
    let inside : addr / 2 ^ (len - 32) < 2 ^ (64 - len) = high-small addr (64 - len) (len - 32) 32 (omega arith) small in
    rw (at, embedded-high bits len addr clear least most small) (mod-mul-add (bits / 2 ^ (128 - len)) (2 ^ (64 - len)) (addr / 2 ^ (len - 32)) inside)

pub rest-part : (bits len addr : ℕ) → IsClearFrom 128 bits len → 32 ≤ len → len ≤ 64 → addr < 2 ^ 32 → bits_at 128 (embedded bits len addr) 72 (len - 32) ≡ addr % 2 ^ (len - 32)
rest-part bits len addr clear least most small =
    let at : 128 - (72 + (len - 32)) ≡ 88 - len = omega arith in
    let m : ℕ = bits / 2 ^ (128 - len) in
    let h : ℕ = addr / 2 ^ (len - 32) in
    let l : ℕ = addr % 2 ^ (len - 32) in
    let prefix : m * 2 ^ (128 - len) ≡ bits = clear-parts bits (128 - len) clear in
    let sizes : 2 ^ (128 - len) ≡ 2 ^ (72 - len) * 2 ^ (len - 32) * 2 ^ (88 - len) = power-three (128 - len) (72 - len) (len - 32) (88 - len) (omega arith) in
    let mid : 2 ^ 64 ≡ 2 ^ 8 * 2 ^ (len - 32) * 2 ^ (88 - len) = power-three 64 8 (len - 32) (88 - len) (omega arith) in
    let parts : bits + (h * 2 ^ 64 + l * 2 ^ (88 - len)) ≡ ((m * 2 ^ (72 - len) + h * 2 ^ 8) * 2 ^ (len - 32) + l) * 2 ^ (88 - len) = join-rest bits m (2 ^ (128 - len)) (2 ^ (72 - len)) (2 ^ 8) (2 ^ (len - 32)) (2 ^ (88 - len)) (2 ^ 64) h l (sym prefix) sizes mid in
    let some : 0 < 2 ^ (len - 32) = pow_pos (len - 32) in
    let under : l < 2 ^ (len - 32) = omega arith in
    rw (at, embedded-short bits len addr least most small, parts, mul-div_cancel ((m * 2 ^ (72 - len) + h * 2 ^ 8) * 2 ^ (len - 32) + l) (pow_pos (88 - len))) (mod-mul-add (m * 2 ^ (72 - len) + h * 2 ^ 8) (2 ^ (len - 32)) l under)

-- the parts make the address again
pub parts-join : (len addr : ℕ) → 32 ≤ len → len ≤ 64 → addr < 2 ^ 32 → addr / 2 ^ (len - 32) * 2 ^ (len - 32) % 2 ^ 128 + addr % 2 ^ (len - 32) ≡ addr
parts-join len addr least most small =
    let inside : addr / 2 ^ (len - 32) < 2 ^ (64 - len) = high-small addr (64 - len) (len - 32) 32 (omega arith) small in
    let kept : addr / 2 ^ (len - 32) * 2 ^ (len - 32) % 2 ^ 128 ≡ addr / 2 ^ (len - 32) * 2 ^ (len - 32) = shift-fits (addr / 2 ^ (len - 32)) (64 - len) (len - 32) 128 inside (omega arith) in
    rw kept (div-add-mod' addr (2 ^ (len - 32)))

pub low-part : (bits addr : ℕ) → IsClearFrom 128 bits 96 → addr < 2 ^ 32 → bits_at 128 (embedded bits 96 addr) 96 32 ≡ addr
low-part bits addr clear small =
    let m : ℕ = bits / 2 ^ 32 in
    let prefix : m * 2 ^ 32 ≡ bits = clear-parts bits 32 clear in
    let one : (bits + addr) / 1 ≡ bits + addr = omega arith in
    let parts : bits + addr ≡ m * 2 ^ 32 + addr = omega arith in
    rw (embedded-long bits addr, one, parts) (mod-mul-add m (2 ^ 32) addr small)

-- what is cut from an embedded address
pub cut-short : (bits len s a : ℕ) → IsClearFrom 128 bits len → 32 ≤ len → len ≤ 64 → a < 2 ^ 32 → embedded bits len a ≡ s → bits_at 128 s len (64 - len) * 2 ^ (len - 32) % 2 ^ 128 + bits_at 128 s 72 (len - 32) ≡ a
cut-short bits len s a clear least most small e =
    let first : bits_at 128 s len (64 - len) ≡ a / 2 ^ (len - 32) = rw e at (first-part bits len a clear least most small) in
    let rest : bits_at 128 s 72 (len - 32) ≡ a % 2 ^ (len - 32) = rw e at (rest-part bits len a clear least most small) in
    rw (first, rest) (parts-join len a least most small)

pub cut-long : (bits len s a : ℕ) → len ≡ 96 → IsClearFrom 128 bits len → a < 2 ^ 32 → embedded bits len a ≡ s → bits_at 128 s 96 32 ≡ a
cut-long bits len s a long clear small e =
    let Clear : ℕ → Type 0 = λ n. IsClearFrom 128 bits n in
    let whole : embedded bits 96 a ≡ s = rw long at e in
    rw (← whole) (low-part bits a (subst Clear long clear) small)

-- an embedded address is one address's
pub embedded-one : (bits len a b : ℕ) → IsTrue (is_embedding_prefix bits len) → IsClearFrom 128 bits len → a < 2 ^ 32 → b < 2 ^ 32 → embedded bits len a ≡ embedded bits len b → a ≡ b
embedded-one bits len a b valid clear a_in b_in same =
    elim (eqb_tells len 96) [
      | inl long ↦ sym (cut-long bits len (embedded bits len b) a long.1 clear a_in same) ∙ cut-long bits len (embedded bits len b) b long.1 clear b_in refl
      | inr short ↦
          let least = length-least bits len valid in
          let most = length-most bits len valid short.1 in
          sym (cut-short bits len (embedded bits len b) a clear least most a_in same) ∙ cut-short bits len (embedded bits len b) b clear least most b_in refl
    ]

-- an embedded address from its parts as they are computed
pub embed-short : (bits len addr x y z first rest : ℕ) → 32 ≤ len → len ≤ 64 → addr < 2 ^ 32 → x ≡ addr → y ≡ x / 2 ^ (len - 32) → z ≡ x % (1 * 2 ^ (len - 32) % 2 ^ 64) → first ≡ placed y len (64 - len) → rest ≡ placed z 72 (len - 32) → bits + (first + rest) ≡ embedded bits len addr
embed-short bits len addr x y z first rest least most small is_x is_y is_z is_first is_rest =
    let at : 128 - (len + (64 - len)) ≡ 64 = omega arith in
    let behind : 128 - (72 + (len - 32)) ≡ 88 - len = omega arith in
    let one : 1 * 2 ^ (len - 32) % 2 ^ 64 ≡ 2 ^ (len - 32) = one_shl (len - 32) 64 (omega arith) in
    rw (embedded-short bits len addr least most small, is_first, is_rest, is_y, is_z, is_x, at, behind, one) refl

pub embed-long : (bits len addr x : ℕ) → len ≡ 96 → x ≡ addr → bits + x ≡ embedded bits len addr
embed-long bits len addr x long is_x = rw (long, is_x, embedded-long bits addr) refl

inside-long : (bits a : ℕ) → IsClearFrom 128 bits 96 → a < 2 ^ 32 → SameFirst 128 96 bits (embedded bits 96 a)
inside-long bits a clear small =
    let m : ℕ = bits / 2 ^ 32 in
    let prefix : m * 2 ^ 32 ≡ bits = clear-parts bits 32 clear in
    let parts : bits + a ≡ m * 2 ^ 32 + a = omega arith in
    sym (rw (embedded-long bits a, parts) (div-mul-add m (2 ^ 32) a small))

inside-short : (bits len a : ℕ) → IsClearFrom 128 bits len → 32 ≤ len → len ≤ 64 → a < 2 ^ 32 → SameFirst 128 len bits (embedded bits len a)
inside-short bits len a clear least most small =
    let s : ℕ = embedded bits len a in
    let m : ℕ = bits / 2 ^ (128 - len) in
    let inside : a / 2 ^ (len - 32) < 2 ^ (64 - len) = high-small a (64 - len) (len - 32) 32 (omega arith) small in
    let above : s / 2 ^ 64 / 2 ^ (64 - len) ≡ m = rw (embedded-high bits len a clear least most small) (div-mul-add m (2 ^ (64 - len)) (a / 2 ^ (len - 32)) inside) in
    let at : 64 + (64 - len) ≡ 128 - len = omega arith in
    sym (ap (λ x. s / 2 ^ x) (sym at) ∙ sym (shr-shr s 64 (64 - len)) ∙ above)

-- an embedded address begins with the prefix
pub embedded-inside : (bits len a : ℕ) → IsTrue (is_embedding_prefix bits len) → IsClearFrom 128 bits len → a < 2 ^ 32 → SameFirst 128 len bits (embedded bits len a)
embedded-inside bits len a valid clear small =
    elim (eqb_tells len 96) [
      | inl long ↦
          let Inside : ℕ → Type 0 = λ n. SameFirst 128 n bits (embedded bits n a) in
          let Clear : ℕ → Type 0 = λ n. IsClearFrom 128 bits n in
          subst Inside (sym long.1) (inside-long bits a (subst Clear long.1 clear) small)
      | inr short ↦ inside-short bits len a clear (length-least bits len valid) (length-most bits len valid short.1) small
    ]
