-- Values of the plain types whose numbers are the same are the same.
use Rattle.std.proofs.Common.{◌≡◌, ◌≤◌, ℕ, Bool, true, false, refl, subst, rules, tests}
use Rattle.std.specs.Prelude.{◌&&◌, nat_eq}
use native.Mathlib.Nat.{ℕ_set}
use native.Mathlib.Bridge.{le_prop}
use mathlib.Core.HLevel.{is_prop→PathP}
use Rattle.std.proofs.lemmas.Bool.{eqb-true}
use Rattle.octets.specs.Bits.{IsClearFrom}
use Rattle.octets.specs.declared.prefix.Prefix4.{Prefix4}
use Rattle.octets.specs.declared.prefix.Prefix6.{Prefix6}
use Rattle.octets.specs.declared.mtus.Mtus.{Mtus}

pub same_prefix4 : (p q : Prefix4) → p.bits ≡ q.bits → p.len ≡ q.len → p ≡ q
same_prefix4 p q bits len = λ i. record {
  bits = bits i;
  len = len i;
  within = is_prop→PathP (λ j. len j ≤ 32) (λ j. le_prop) p.within q.within i;
  clear = is_prop→PathP (λ j. IsClearFrom 32 (bits j) (len j)) (λ j. ℕ_set _ _) p.clear q.clear i;
}

pub same_prefix6 : (p q : Prefix6) → p.bits ≡ q.bits → p.len ≡ q.len → p ≡ q
same_prefix6 p q bits len = λ i. record {
  bits = bits i;
  len = len i;
  within = is_prop→PathP (λ j. len j ≤ 128) (λ j. le_prop) p.within q.within i;
  clear = is_prop→PathP (λ j. IsClearFrom 128 (bits j) (len j)) (λ j. ℕ_set _ _) p.clear q.clear i;
}

pub same_mtus : (m n : Mtus) → m.mtu4 ≡ n.mtu4 → m.mtu6 ≡ n.mtu6 → m ≡ n
same_mtus m n mtu4 mtu6 = λ i. record {
  mtu4 = mtu4 i;
  mtu6 = mtu6 i;
  least4 = is_prop→PathP (λ j. 1280 ≤ mtu4 j) (λ j. le_prop) m.least4 n.least4 i;
  most4 = is_prop→PathP (λ j. mtu4 j ≤ 9000) (λ j. le_prop) m.most4 n.most4 i;
  least6 = is_prop→PathP (λ j. 1280 ≤ mtu6 j) (λ j. le_prop) m.least6 n.least6 i;
  most6 = is_prop→PathP (λ j. mtu6 j ≤ 9000) (λ j. le_prop) m.most6 n.most6 i;
}

-- ---- what `==` of their numbers tells

-- both tests passed
pub both_true : (p q : Bool) → (p && q) ≡ true → (p ≡ true) × (q ≡ true)
both_true true true e = (refl, refl)
both_true true false e = cc
both_true false q e = cc

-- a test that every value passes beside itself passes for values that are the same
pub passes_same : {A : Type 0} (eq : A → A → Bool) → ((x : A) → eq x x ≡ true) → (x y : A) → x ≡ y → eq x y ≡ true
passes_same {A} eq reflexive x y same = let P : A → Type 0 = λ z. eq x z ≡ true in subst P same (reflexive x)

pub two_same : (a b : ℕ) → (nat_eq a a && nat_eq b b) ≡ true
two_same a b = search (rules, tests)

two_told : (a b c d : ℕ) → (nat_eq a b && nat_eq c d) ≡ true → (a ≡ b) × (c ≡ d)
two_told a b c d e =
    let t = both_true (nat_eq a b) (nat_eq c d) e in
    (eqb-true a b t.0, eqb-true c d t.1)

abbrev pub eq_prefix4 : Prefix4 → Prefix4 → Bool
eq_prefix4 p q = nat_eq p.bits q.bits && nat_eq p.len q.len

abbrev pub eq_prefix6 : Prefix6 → Prefix6 → Bool
eq_prefix6 p q = nat_eq p.bits q.bits && nat_eq p.len q.len

abbrev pub eq_mtus : Mtus → Mtus → Bool
eq_mtus m n = nat_eq m.mtu4 n.mtu4 && nat_eq m.mtu6 n.mtu6

pub prefix4_told : (p q : Prefix4) → (eq_prefix4 p q ≡ true → p ≡ q) × (p ≡ q → eq_prefix4 p q ≡ true)
prefix4_told p q =
    (λ e. let t = two_told p.bits q.bits p.len q.len e in same_prefix4 p q t.0 t.1, passes_same eq_prefix4 (λ x. two_same x.bits x.len) p q)

pub prefix6_told : (p q : Prefix6) → (eq_prefix6 p q ≡ true → p ≡ q) × (p ≡ q → eq_prefix6 p q ≡ true)
prefix6_told p q =
    (λ e. let t = two_told p.bits q.bits p.len q.len e in same_prefix6 p q t.0 t.1, passes_same eq_prefix6 (λ x. two_same x.bits x.len) p q)

pub mtus_told : (m n : Mtus) → (eq_mtus m n ≡ true → m ≡ n) × (m ≡ n → eq_mtus m n ≡ true)
mtus_told m n =
    (λ e. let t = two_told m.mtu4 n.mtu4 m.mtu6 n.mtu6 e in same_mtus m n t.0 t.1, passes_same eq_mtus (λ x. two_same x.mtu4 x.mtu6) m n)
