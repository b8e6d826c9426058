-- Port sets of one offset, PSID length and PSID are the same.
use Rattle.std.proofs.Common.{◌≡◌, ◌-◌, ◌^◌, ◌≤◌, ◌<◌, ℕ, Bool, true, subst, arith, rules, tests}
use Rattle.std.specs.Prelude.{◌&&◌, nat_eq}
use Rattle.std.proofs.lemmas.Bool.Decides.{nat_tests}
use native.Mathlib.Bridge.{le_prop}
use mathlib.Core.HLevel.{is_prop→PathP}
use Rattle.port_set.specs.declared.port_set.PortSet.{PortSet}

pub same_set : (s t : PortSet) → s.a ≡ t.a → s.k ≡ t.k → s.psid ≡ t.psid → s ≡ t
same_set s t a k psid = λ i. record {
  a = a i;
  k = k i;
  psid = psid i;
  offset = is_prop→PathP (λ j. a j ≤ 15) (λ j. le_prop) s.offset t.offset i;
  length = is_prop→PathP (λ j. k j ≤ 16 - a j) (λ j. le_prop) s.length t.length i;
  fits = is_prop→PathP (λ j. psid j < 2 ^ k j) (λ j. le_prop) s.fits t.fits i;
}

abbrev pub eq_set : PortSet → PortSet → Bool
eq_set s t = nat_eq s.a t.a && (nat_eq s.k t.k && nat_eq s.psid t.psid)

three_told : (a b c d e f : ℕ) → (nat_eq a b && (nat_eq c d && nat_eq e f)) ≡ true → (a ≡ b) × (c ≡ d) × (e ≡ f)
three_told a b c d e f t = (grind (arith, nat_tests), grind (arith, nat_tests), grind (arith, nat_tests))

pub three_same : (a b c : ℕ) → (nat_eq a a && (nat_eq b b && nat_eq c c)) ≡ true
three_same a b c = search (rules, tests)

pub set_told : (s t : PortSet) → (eq_set s t ≡ true → s ≡ t) × (s ≡ t → eq_set s t ≡ true)
set_told s t =
    let P : PortSet → Type 0 = λ x. eq_set s x ≡ true in
    (λ e. let told = three_told s.a t.a s.k t.k s.psid t.psid e in same_set s t told.0 told.1 told.2, λ same. subst P same (three_same s.a s.k s.psid))
