-- What a rule gives is never inside the default mapping rule, which no rule's prefix overlaps.
use Rattle.std.proofs.Common.{◌≡◌, ◌⊎◌, ℕ, suc, ◌+◌, ◌*◌, ◌-◌, ◌/◌, ◌^◌, ◌<◌, ◌≤◌, Bool, true, false, cond, List, [], ◌∷◌, Option, Some, None, inl, inr, refl, sym, ap, ◌∙◌, subst, arith}
use Rattle.std.specs.Prelude.{◌==◌, ◌&&◌, ◌||◌, nat_le}
use Rattle.std.specs.Option.{option_or}
use Rattle.std.specs.List.{All}
use Rattle.std.proofs.Math.Bool.{or-true}
use Rattle.std.proofs.Math.Nat.{div-lt_iff_lt-mul}
use Rattle.std.proofs.lemmas.Nat.{shr-shr, pow_pos}
use Rattle.std.proofs.lemmas.Bool.Decides.{nat_tests}
use Rattle.octets.specs.declared.prefix.Prefix6.{Prefix6}
use Rattle.port_set.specs.PortSet.{in_set}
use Rattle.map_rules.specs.declared.rule.Rule.{Rule}
use Rattle.map_rules.specs.declared.dmr.Dmr.{Dmr}
use Rattle.map_rules.specs.Address.{psid_of}
use Rattle.map_rules.specs.Rule.{psid_len, has_address, rule_address, IsSource, ce6_of}
use Rattle.map_rules.proofs.Parts.{power}
use Rattle.map_rules.proofs.Rules.{source-ce6, address-inside, address-small}
use Rattle.rule_book.specs.Far.{has_addr6}
use Rattle.rule_book.specs.Overlap.{begins6, Overlaps6}
use Rattle.rule_book.specs.Owner.{owner_of}
use Rattle.rule_book.specs.Valid.{FitsRule, FitBook, IsValid}

-- two prefixes that have an address in common overlap: the shorter begins the longer
begins_common : (a b : Prefix6) (x : ℕ) → a.bits / 2 ^ (128 - a.len) ≡ x / 2 ^ (128 - a.len) → b.bits / 2 ^ (128 - b.len) ≡ x / 2 ^ (128 - b.len) → a.len ≤ b.len → begins6 a b ≡ true
begins_common a b x in_a in_b shorter =
    let whole : 128 - b.len + (b.len - a.len) ≡ 128 - a.len = omega (arith, b.within) in
    let of_b : b.bits / 2 ^ (128 - b.len) / 2 ^ (b.len - a.len) ≡ b.bits / 2 ^ (128 - a.len) = shr-shr b.bits (128 - b.len) (b.len - a.len) ∙ ap (λ n. b.bits / 2 ^ n) whole in
    let of_x : x / 2 ^ (128 - b.len) / 2 ^ (b.len - a.len) ≡ x / 2 ^ (128 - a.len) = shr-shr x (128 - b.len) (b.len - a.len) ∙ ap (λ n. x / 2 ^ n) whole in
    let same : a.bits / 2 ^ (128 - a.len) ≡ b.bits / 2 ^ (128 - a.len) = in_a ∙ sym of_x ∙ ap (λ y. y / 2 ^ (b.len - a.len)) (sym in_b) ∙ of_b in
    let len : nat_le a.len b.len ≡ true = grind (arith, nat_tests) in
    let bits : (a.bits / 2 ^ (128 - a.len) == b.bits / 2 ^ (128 - a.len)) ≡ true = grind (arith, nat_tests) in
    rw (len, bits) refl

equal_from_test : (x y : ℕ) → (x == y) ≡ true → x ≡ y
equal_from_test x y is = grind (arith, nat_tests)

either_way : (m n : ℕ) → (m ≤ n) ⊎ (n ≤ m)
either_way m n = elim (nat_le m n) as (λ b. nat_le m n ≡ b → (m ≤ n) ⊎ (n ≤ m)) [ true ↦ λ e. inl (grind (arith, nat_tests)) | false ↦ λ e. inr (grind (arith, nat_tests)) ] refl

overlap_common : (a b : Prefix6) (x : ℕ) → a.bits / 2 ^ (128 - a.len) ≡ x / 2 ^ (128 - a.len) → b.bits / 2 ^ (128 - b.len) ≡ x / 2 ^ (128 - b.len) → Overlaps6 a b
overlap_common a b x of_a of_b =
    elim (either_way a.len b.len) [
      | inl shorter ↦ ap (λ t. t || begins6 b a) (begins_common a b x of_a of_b shorter)
      | inr shorter ↦ ap (λ t. begins6 a b || t) (begins_common b a x of_b of_a shorter) ∙ or-true (begins6 a b)
    ]

no_test : (b : Bool) → (b ≡ true → ⊥) → b ≡ false
no_test true never = absurd (never refl)
no_test false never = refl

-- a MAP address is in no default mapping rule that its own rule doesn't overlap
pub outside_default : (rule : Rule) (dmr : Dmr) (s addr v : ℕ) → IsSource rule s addr v → ¬ Overlaps6 rule.prefix6 dmr.prefix → has_addr6 dmr.prefix s ≡ false
outside_default rule dmr s addr v is apart = no_test (has_addr6 dmr.prefix s) (λ inside. apart (overlap_common rule.prefix6 dmr.prefix s (address-inside rule s addr v is) (equal_from_test _ _ inside)))

-- ---- what the rules give

-- the first of the rules, and the others
pub first_rule : (P : Rule → Type 0) (r : Rule) (rules : List Rule) → All P (r ∷ rules) → P r
first_rule P r rules all = all 0 r (omega arith)

pub other_rules : (P : Rule → Type 0) (r : Rule) (rules : List Rule) → All P (r ∷ rules) → All P rules
other_rules P r rules all = λ k d within. all (suc k) d (omega arith)

-- an address that the rules give has what all MAP addresses of each rule have
pub owned_has : (P : Rule → Type 0) (Q : ℕ → Type 0) (rules : List Rule) (addr port s : ℕ) → addr < 2 ^ 32 → All P rules
    → ((rule : Rule) (s v : ℕ) → P rule → IsSource rule s addr v → Q s) → owner_of rules addr port ≡ Some s → Q s
owned_has P Q [] addr port s fits all has e = cc
owned_has P Q (r ∷ rules) addr port s fits all has e =
    by (ce6_of r addr port) refl (owned_has P Q rules addr port s fits (other_rules P r rules all) has) e
  where
    by : (o : Option ℕ) → ce6_of r addr port ≡ o → (owner_of rules addr port ≡ Some s → Q s) → option_or o (owner_of rules addr port) ≡ Some s → Q s
    by None is later found = later found
    by (Some x) is later found =
        let same : x ≡ s = cc in
        subst Q same (has r x (psid_of r.offset (psid_len r) port) (first_rule P r rules all) (source-ce6 r x addr port fits is).0)

-- a number with the same first bits as one that fits is one that fits
pub below_power : (x y m n : ℕ) → x / 2 ^ m ≡ y / 2 ^ m → y < 2 ^ (n + m) → x < 2 ^ (n + m)
below_power x y m n same small =
    let width : 2 ^ (n + m) ≡ 2 ^ n * 2 ^ m = power (n + m) n m (omega arith) in
    let low : y / 2 ^ m < 2 ^ n = (div-lt_iff_lt-mul (pow_pos m)).1 (subst (λ (w : ℕ). y < w) width small) in
    subst (λ (w : ℕ). x < w) (sym width) ((div-lt_iff_lt-mul (pow_pos m)).0 (subst (λ (q : ℕ). q < 2 ^ n) (sym same) low))

-- an IPv4 address to which a rule gives a MAP address is one of 32 bits
given_small : (rule : Rule) (addr port s : ℕ) → rule.prefix4.bits < 2 ^ 32 → ce6_of rule addr port ≡ Some s → addr < 2 ^ 32
unfolding ce6_of
given_small rule addr port s fits e = by (has_address rule addr) refl e
  where
    all : rule.prefix4.len + (32 - rule.prefix4.len) ≡ 32
    all = omega (arith, rule.prefix4.within)

    small : rule.prefix4.bits / 2 ^ (32 - rule.prefix4.len) ≡ addr / 2 ^ (32 - rule.prefix4.len) → addr < 2 ^ 32
    small same =
        subst (λ (n : ℕ). addr < 2 ^ n) all
        (below_power addr rule.prefix4.bits (32 - rule.prefix4.len) rule.prefix4.len (sym same) (subst (λ (n : ℕ). rule.prefix4.bits < 2 ^ n) (sym all) fits))

    by : (b : Bool) → has_address rule addr ≡ b
        → cond (b && in_set rule.offset (psid_len rule) (psid_of rule.offset (psid_len rule) port) port) (Some (rule_address rule addr (psid_of rule.offset (psid_len rule) port))) None ≡ Some s
        → addr < 2 ^ 32
    by true has is = small (equal_from_test _ _ has)
    by false has is = absurd (cc)

pub owned_fits : (rules : List Rule) (addr port s : ℕ) → All (λ (r : Rule). r.prefix4.bits < 2 ^ 32) rules → owner_of rules addr port ≡ Some s → addr < 2 ^ 32
owned_fits [] addr port s fit e = cc
owned_fits (r ∷ rules) addr port s fit e =
    by (ce6_of r addr port) refl (owned_fits rules addr port s (other_rules (λ (r : Rule). r.prefix4.bits < 2 ^ 32) r rules fit)) e
  where
    by : (o : Option ℕ) → ce6_of r addr port ≡ o → (owner_of rules addr port ≡ Some s → addr < 2 ^ 32) → option_or o (owner_of rules addr port) ≡ Some s → addr < 2 ^ 32
    by None is later found = later found
    by (Some x) is later found = given_small r addr port x (first_rule (λ (r : Rule). r.prefix4.bits < 2 ^ 32) r rules fit) is

-- ---- an owner is outside

-- an address of 128 bits that isn't inside
pub record IsOutside (dmr : Dmr) (s : ℕ) : Type 0 where
  pub small : s < 2 ^ 128
  pub outside : has_addr6 dmr.prefix s ≡ false

pub owner_outside : (rules : List Rule) (dmr : Dmr) (addr port s : ℕ) → IsValid rules dmr → FitBook rules dmr → owner_of rules addr port ≡ Some s → IsOutside dmr s
owner_outside rules dmr addr port s valid fit found =
    owned_has (λ (r : Rule). FitsRule r × (¬ Overlaps6 r.prefix6 dmr.prefix)) (IsOutside dmr) rules addr port s fits
    (λ k r within. (fit.each k r within, valid.apart_dmr k r within)) outside found
  where
    fits : addr < 2 ^ 32
    fits = owned_fits rules addr port s (λ k r within. (fit.each k r within).prefix4) found

    outside : (rule : Rule) (s v : ℕ) → FitsRule rule × (¬ Overlaps6 rule.prefix6 dmr.prefix) → IsSource rule s addr v → IsOutside dmr s
    outside rule s v is source = record {
      small = subst (λ (n : ℕ). n < 2 ^ 128) source.whole (address-small rule addr v is.0.prefix6 source.four source.psid);
      outside = outside_default rule dmr s addr v source is.1;
    }
