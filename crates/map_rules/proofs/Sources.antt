-- The source of a MAP address, and the address that is embedded in one, as values.
use Rattle.std.proofs.Common.{◌≡◌, ◌≢◌, ℕ, suc, ◌+◌, ◌-◌, ◌*◌, ◌/◌, ◌%◌, ◌^◌, ◌<◌, ◌≤◌, Bool, true, false, refl, ap, arith, inl, inr}
use Rattle.std.specs.Prelude.{Some, None, ◌==◌, ◌&&◌, nat_lt, if◌then◌else◌, IsTrue}
use Rattle.std.proofs.Math.Nat.{mul-le-mul_right}
use Rattle.std.proofs.lemmas.Nat.{pow_pos, div-add-mod'}
use Rattle.std.proofs.lemmas.Bool.Decides.{nat_tests, eqb_tells}
use Rattle.std.proofs.lemmas.Option.{none-some, same_Some}
use Rattle.octets.specs.Bits.{bits_at, IsClearFrom}
use Rattle.map_rules.specs.declared.rule.Rule.{Rule}
use Rattle.map_rules.specs.Embedding.{embedded, is_embedding_prefix, embedded_bits, extract_of}
use Rattle.map_rules.specs.Address.{carried_addr, carried_psid}
use Rattle.map_rules.specs.Rule.{psid_len, has_address, rule_address, IsSource, source_of}
use Rattle.map_rules.proofs.Parts.{power}
use Rattle.map_rules.proofs.Embedded.{length-least, length-most, first-part, rest-part, cut-long}
use Rattle.map_rules.proofs.Rules.{source-addr, source-psid}

-- ---- embedded addresses

-- a prefix of an embedding
pub record IsPrefix (bits len : ℕ) : Type 0 where
  pub valid : IsTrue (is_embedding_prefix bits len)
  pub clear : IsClearFrom 128 bits len

-- the bits of an embedded address are that address
embedded_bits-is : (bits len s a : ℕ) → IsPrefix bits len → a < 2 ^ 32 → embedded bits len a ≡ s → embedded_bits len s ≡ a
embedded_bits-is bits len s a p small e =
    elim (eqb_tells len 96) [
      | inl long ↦ rw long.0 (cut-long bits len s a long.1 p.clear small e)
      | inr short ↦
          let least : 32 ≤ len = length-least bits len p.valid in
          let most : len ≤ 64 = length-most bits len p.valid short.1 in
          let first : bits_at 128 s len (64 - len) ≡ a / 2 ^ (len - 32) = rw e at (first-part bits len a p.clear least most small) in
          let rest : bits_at 128 s 72 (len - 32) ≡ a % 2 ^ (len - 32) = rw e at (rest-part bits len a p.clear least most small) in
          rw (short.0, first, rest) (div-add-mod' a (2 ^ (len - 32)))
    ]

bits_at-small : (s from count : ℕ) → bits_at 128 s from count < 2 ^ count
bits_at-small s from count = let some : 0 < 2 ^ count = pow_pos count in omega arith

parts-small : (h l i j : ℕ) → i + j ≡ 32 → h < 2 ^ i → l < 2 ^ j → h * 2 ^ j + l < 2 ^ 32
parts-small h l i j e high low =
    let up_to : suc h * 2 ^ j ≤ 2 ^ i * 2 ^ j = mul-le-mul_right (2 ^ j) high in
    let size : 2 ^ 32 ≡ 2 ^ i * 2 ^ j = power 32 i j e in
    omega arith

embedded_bits-small : (bits len s : ℕ) → IsPrefix bits len → embedded_bits len s < 2 ^ 32
embedded_bits-small bits len s p =
    elim (eqb_tells len 96) [
      | inl long ↦ rw long.0 (bits_at-small s 96 32)
      | inr short ↦
          let least : 32 ≤ len = length-least bits len p.valid in
          let most : len ≤ 64 = length-most bits len p.valid short.1 in
          rw short.0 (parts-small (bits_at 128 s len (64 - len)) (bits_at 128 s 72 (len - 32)) (64 - len) (len - 32) (omega arith) (bits_at-small s len (64 - len)) (bits_at-small s 72 (len - 32)))
    ]

pub extract_of-found : (bits len s a : ℕ) → IsPrefix bits len → a < 2 ^ 32 → embedded bits len a ≡ s → extract_of bits len s ≡ Some a
unfolding extract_of
extract_of-found bits len s a p small e =
    let is : embedded_bits len s ≡ a = embedded_bits-is bits len s a p small e in
    let test : (embedded bits len a == s) ≡ true = grind (arith, nat_tests) in
    rw (is, test) refl

pub extract_of-none : (bits len s : ℕ) → IsPrefix bits len → ((a : ℕ) → a < 2 ^ 32 → embedded bits len a ≢ s) → extract_of bits len s ≡ None
unfolding extract_of
extract_of-none bits len s p none =
    let other : embedded bits len (embedded_bits len s) ≢ s = none (embedded_bits len s) (embedded_bits-small bits len s p) in
    let test : (embedded bits len (embedded_bits len s) == s) ≡ false = grind (arith, nat_tests) in
    rw test refl

if-Some : {A : Type 0} (b : Bool) (x y : A) → (if b then Some x else None) ≡ Some y → (b ≡ true) × (x ≡ y)
if-Some true x y e = (refl, same_Some x y e)
if-Some false x y e = absurd (none-some y e)

passed : (x y : ℕ) → (x == y) ≡ true → x ≡ y
passed x y e = grind (arith, nat_tests)

pub extract_of-exactly : (bits len s a : ℕ) → IsPrefix bits len → (extract_of bits len s ≡ Some a → (a < 2 ^ 32) × (embedded bits len a ≡ s)) × ((a < 2 ^ 32) × (embedded bits len a ≡ s) → extract_of bits len s ≡ Some a)
unfolding extract_of
extract_of-exactly bits len s a p = (
  λ e.
      let told = if-Some (embedded bits len (embedded_bits len s) == s) (embedded_bits len s) a e in
      let whole : embedded bits len (embedded_bits len s) ≡ s = passed _ s told.0 in
      rw (← told.1) (embedded_bits-small bits len s p, whole),
  λ is. extract_of-found bits len s a p is.0 is.1,
)

-- ---- the source of a MAP address

abbrev is_source : Rule → ℕ → Bool
is_source rule s =
    has_address rule (carried_addr s) && (nat_lt (carried_psid s) (2 ^ psid_len rule) && (rule_address rule (carried_addr s) (carried_psid s) == s))

is_source-is : (rule : Rule) (s : ℕ) → is_source rule s ≡ true → IsSource rule s (carried_addr s) (carried_psid s)
is_source-is rule s is = record {
  four = bits_at-small s 80 32;
  has = grind (arith, nat_tests);
  psid = grind (arith, nat_tests);
  whole = grind (arith, nat_tests);
}

pub source_of-found : (rule : Rule) (s addr v : ℕ) → IsSource rule s addr v → source_of rule s ≡ Some (addr, v)
unfolding source_of
source_of-found rule s addr v is =
    let a : carried_addr s ≡ addr = source-addr rule s addr v is in
    let p : carried_psid s ≡ v = source-psid rule s addr v is in
    let has : has_address rule addr ≡ true = (let e = is.has in grind (arith, nat_tests)) in
    let fits : nat_lt v (2 ^ psid_len rule) ≡ true = (let e = is.psid in grind (arith, nat_tests)) in
    let whole : (rule_address rule addr v == s) ≡ true = (let e = is.whole in grind (arith, nat_tests)) in
    rw (a, p, has, fits, whole) refl

unknown : (rule : Rule) (s : ℕ) (b : Bool) → is_source rule s ≡ b → ((addr v : ℕ) → ¬ IsSource rule s addr v) → b ≡ false
unknown rule s true is none = absurd (none _ _ (is_source-is rule s is))
unknown rule s false is none = refl

pub source_of-none : (rule : Rule) (s : ℕ) → ((addr v : ℕ) → ¬ IsSource rule s addr v) → source_of rule s ≡ None
unfolding source_of
source_of-none rule s none =
    ap (λ b. if b then Some (carried_addr s, carried_psid s) else None) (unknown rule s (is_source rule s) refl none)

pub source_of-exactly : (rule : Rule) (s addr v : ℕ) → (source_of rule s ≡ Some (addr, v) → IsSource rule s addr v) × (IsSource rule s addr v → source_of rule s ≡ Some (addr, v))
unfolding source_of
source_of-exactly rule s addr v = (
  λ e.
      let told = if-Some (is_source rule s) (carried_addr s, carried_psid s) (addr, v) e in
      let a : carried_addr s ≡ addr = ap (λ (p : ℕ × ℕ). p.0) told.1 in
      let p : carried_psid s ≡ v = ap (λ (p : ℕ × ℕ). p.1) told.1 in
      rw (← a, ← p) (is_source-is rule s told.0),
  source_of-found rule s addr v,
)
