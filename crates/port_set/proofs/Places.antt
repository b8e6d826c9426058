-- Where the ports of a set stand: the layout of a set, and its ports by their number.
use Rattle.std.proofs.Common.{◌≡◌, ℕ, zero, suc, ◌+◌, ◌-◌, ◌*◌, ◌/◌, ◌%◌, ◌^◌, ◌<◌, ◌≤◌, ◌≢◌, Bool, true, false, refl, sym, ◌∙◌, ap, subst, arith, inl, inr, IsTrue, ◌⊎◌, lit<, lit≤}
use Rattle.std.specs.Prelude.{◌&&◌, ◌||◌, ◌==◌, nat_le, nat_lt, if◌then◌else◌}
use Rattle.std.proofs.Math.Nat.{mul-le-mul_right, mul-add-div_right, mul-add-mod_self_right, mod-eq_of_lt, div-lt_iff_lt-mul, div-mul-le_self, lt-div-mul-add}
use Rattle.std.proofs.Math.Pow.{pow-lt}
use Rattle.std.proofs.lemmas.Nat.{pow_pos, pow-add, div-add-mod'}
use Rattle.std.proofs.lemmas.Bool.Decides.{nat_tests, leb_tells, eqb_tells}
use Rattle.std.specs.Int.{from_bool}
use Rattle.port_set.specs.PortSet.{in_set, count_below}
use Rattle.port_set.specs.Layout.{HasLayout}
use Rattle.port_set.specs.declared.layout.Layout.{Layout}
use Rattle.port_set.proofs.Counting.{count-at, count-blocks, passed}

-- the sizes of a layout
pub record IsLayout (f R B V L : ℕ) : Type 0 where
  pub used : f < R
  pub some : 0 < L
  pub fits : V + L ≤ B
  pub whole : R * B ≡ 65536

-- x is in the v-th part of L numbers
test-part : (r L v : ℕ) → 0 < L → (r / L == v) ≡ (nat_le (v * L) r && nat_lt r (v * L + L))
test-part r L v some =
    elim (eqb_tells (r / L) v) [
      | inl same ↦
          let low : v * L ≤ r = rw same.1 at (div-mul-le_self r L) in
          let high : r < v * L + L = rw same.1 at (lt-div-mul-add {a = r} some) in
          rw same.0 (grind (arith, nat_tests))
      | inr other ↦
          let low : r / L * L ≤ r = div-mul-le_self r L in
          let high : r < r / L * L + L = lt-div-mul-add {a = r} some in
          elim (leb_tells (suc (r / L)) v) [
            | inl below ↦
                let step : suc (r / L) * L ≤ v * L = mul-le-mul_right L below.1 in
                let under : r < v * L = omega arith in
                rw other.0 (grind (arith, nat_tests))
            | inr above ↦
                let more : suc v ≤ r / L = omega (arith, above.1, other.1) in
                let step : suc v * L ≤ r / L * L = mul-le-mul_right L more in
                let over : v * L + L ≤ r = omega arith in
                rw other.0 (grind (arith, nat_tests))
          ]
    ]

-- the PSID bits of place r of block q
bits-in-block : (q r K L : ℕ) → 0 < L → r < K * L → (q * (K * L) + r) / L % K ≡ r / L
bits-in-block q r K L some less =
    let apart : q * (K * L) + r ≡ q * K * L + r = omega arith in
    let small : r / L < K = (div-lt_iff_lt-mul some).1 less in
    rw (apart, mul-add-div_right some (q * K) r, mul-add-mod_self_right q K (r / L)) (mod-eq_of_lt small)

-- a number is past the first block exactly where its block isn't the first
past-first : (q B r : ℕ) → r < B → nat_le B (q * B + r) ≡ nat_le 1 q
past-first zero B r less = grind (arith, nat_tests)
past-first (suc q) B r less = let at : suc q * B ≡ q * B + B = omega arith in rw at (grind (arith, nat_tests))

-- a set with PSID bits: blocks of K * L ports
lies-with : (a k v K L q r : ℕ) → k ≢ 0 → 2 ^ k ≡ K → 2 ^ (16 - a) ≡ K * L → 2 ^ (16 - a - k) ≡ L → 0 < L → r < K * L → in_set a k v (q * (K * L) + r) ≡ (nat_le (if a == 0 then 0 else 1) q && (nat_le (v * L) r && nat_lt r (v * L + L)))
lies-with a k v K L q r some_k is_K is_block is_L some r_in =
    let with_bits : (k == 0) ≡ false = grind (arith, nat_tests) in
    elim (eqb_tells a 0) [
      | inl none ↦
          rw (with_bits, none.0, is_L, is_K, bits-in-block q r K L some r_in, test-part r L v some) (grind (arith, nat_tests))
      | inr some_a ↦
          rw (with_bits, some_a.0, is_block, is_L, is_K, past-first q (K * L) r r_in, bits-in-block q r K L some r_in, test-part r L v some) refl
    ]

-- the layout of a set with PSID bits, with its sizes
pub set-lies : (a k v : ℕ) → a ≤ 15 → k ≤ 16 - a → k ≢ 0 → HasLayout (in_set a k v) (if a == 0 then 0 else 1) (2 ^ a) (2 ^ (16 - a)) (v * 2 ^ (16 - a - k)) (2 ^ (16 - a - k))
set-lies a k v a_in k_in some q r q_in r_in =
    let bits : 16 - a ≡ k + (16 - a - k) = omega arith in
    let block : 2 ^ (16 - a) ≡ 2 ^ k * 2 ^ (16 - a - k) = ap (λ n. 2 ^ n) bits ∙ pow-add 2 k (16 - a - k) in
    let inside : r < 2 ^ k * 2 ^ (16 - a - k) = rw block at r_in in
    let L : ℕ = 2 ^ (16 - a - k) in
    let Lies : ℕ → Type 0 = λ B. in_set a k v (q * B + r) ≡ (nat_le (if a == 0 then 0 else 1) q && (nat_le (v * L) r && nat_lt r (v * L + L))) in
    subst Lies (sym block) (lies-with a k v (2 ^ k) L q r some refl block refl (pow_pos (16 - a - k)) inside)

pub all-lies : (a v : ℕ) → HasLayout (in_set a 0 v) 0 1 65536 0 65536
all-lies a v q r q_in r_in =
    let small : nat_lt r 65536 ≡ true = grind (arith, nat_tests) in
    grind (arith, nat_tests, small)

two-le : (n : ℕ) → n ≢ 0 → 2 ≤ 2 ^ n
two-le n some = pow-lt {i = 0} {j = n} (omega arith)

pub set-sizes : (a k v : ℕ) → a ≤ 15 → k ≤ 16 - a → v < 2 ^ k → IsLayout (if a == 0 then 0 else 1) (2 ^ a) (2 ^ (16 - a)) (v * 2 ^ (16 - a - k)) (2 ^ (16 - a - k))
set-sizes a k v a_in k_in less =
    let bits : 16 - a ≡ k + (16 - a - k) = omega arith in
    let block : 2 ^ (16 - a) ≡ 2 ^ k * 2 ^ (16 - a - k) = ap (λ n. 2 ^ n) bits ∙ pow-add 2 k (16 - a - k) in
    let part : suc v * 2 ^ (16 - a - k) ≤ 2 ^ k * 2 ^ (16 - a - k) = mul-le-mul_right (2 ^ (16 - a - k)) less in
    let all : a + (16 - a) ≡ 16 = omega arith in
    record {
      used = elim (eqb_tells a 0) [ inl none ↦ rw none.0 (pow_pos a) | inr some ↦ rw some.0 (two-le a some.1) ];
      some = pow_pos (16 - a - k);
      fits = omega arith;
      whole = sym (pow-add 2 a (16 - a)) ∙ ap (λ n. 2 ^ n) all;
    }

-- runs stand apart where there is more than one
pub set-apart : (a k : ℕ) → a ≤ 15 → k ≤ 16 - a → k ≢ 0 → 2 ^ (16 - a - k) < 2 ^ (16 - a)
set-apart a k a_in k_in some =
    let bits : 16 - a ≡ k + (16 - a - k) = omega arith in
    let block : 2 ^ (16 - a) ≡ 2 ^ k * 2 ^ (16 - a - k) = ap (λ n. 2 ^ n) bits ∙ pow-add 2 k (16 - a - k) in
    let twice : 2 * 2 ^ (16 - a - k) ≤ 2 ^ k * 2 ^ (16 - a - k) = mul-le-mul_right (2 ^ (16 - a - k)) (two-le k some) in
    omega (arith, pow_pos (16 - a - k))

-- a port of the set, by block and place
pub record StandsAt (f R B V L x : ℕ) : Type 0 where
  pub in_blocks : x / B < R
  pub used : f ≤ x / B
  pub after : V ≤ x % B
  pub before : x % B < V + L

from-tests : (f q V L r : ℕ) → (nat_le f q && (nat_le V r && nat_lt r (V + L))) ≡ true → (f ≤ q) × (V ≤ r) × (r < V + L)
from-tests f q V L r e = (grind (arith, nat_tests), grind (arith, nat_tests), grind (arith, nat_tests))

pub stands : (p : ℕ → Bool) (f R B V L x : ℕ) → HasLayout p f R B V L → IsLayout f R B V L → x < 65536 → p x ≡ true → StandsAt f R B V L x
stands p f R B V L x lies sizes less passes =
    let some : 0 < B = omega arith in
    let whole : x / B * B + x % B ≡ x = div-add-mod' x B in
    let in_blocks : x / B < R = (div-lt_iff_lt-mul some).1 (omega arith) in
    let here : p (x / B * B + x % B) ≡ true = rw whole passes in
    let tests = from-tests f (x / B) V L (x % B) (sym (lies (x / B) (x % B) in_blocks (omega arith)) ∙ here) in
    record { in_blocks = in_blocks; used = tests.0; after = tests.1; before = tests.2 }

passed-in : (f V L q r : ℕ) → f ≤ q → V ≤ r → r < V + L → passed f V L q r ≡ r - V
passed-in f V L q r used after before = grind (arith, nat_tests)

-- how many ports of the set are below one of it
pub count-port : (p : ℕ → Bool) (f R B V L x : ℕ) → HasLayout p f R B V L → IsLayout f R B V L → StandsAt f R B V L x → count_below p x ≡ (x / B - f) * L + (x % B - V)
count-port p f R B V L x lies sizes at =
    let whole : x / B * B + x % B ≡ x = div-add-mod' x B in
    let count : count_below p (x / B * B + x % B) ≡ (x / B - f) * L + passed f V L (x / B) (x % B) = count-at p f R B V L lies sizes.fits (x / B) (x % B) at.in_blocks (omega (arith, at.before, sizes.fits)) in
    let here : count_below p x ≡ (x / B - f) * L + passed f V L (x / B) (x % B) = rw whole at count in
    here ∙ ap (λ n. (x / B - f) * L + n) (passed-in f V L (x / B) (x % B) at.used at.after at.before)

pub count-all : (p : ℕ → Bool) (f R B V L : ℕ) → HasLayout p f R B V L → IsLayout f R B V L → count_below p 65536 ≡ (R - f) * L
count-all p f R B V L lies sizes =
    subst (λ (n : ℕ). count_below p n ≡ (R - f) * L) sizes.whole (count-blocks p f R B V L lies sizes.fits R (omega arith))

-- the port below which there are n of the set
abbrev pub port_at : ℕ → ℕ → ℕ → ℕ → ℕ → ℕ
port_at f B V L n = (n / L + f) * B + (V + n % L)

pub port-small : (f R B V L n : ℕ) → IsLayout f R B V L → n < (R - f) * L → port_at f B V L n < 65536
port-small f R B V L n sizes less =
    let some : 0 < L = sizes.some in
    let block : n / L < R - f = (div-lt_iff_lt-mul some).1 less in
    let part : n % L < L = omega arith in
    let up_to : suc (n / L + f) * B ≤ R * B = mul-le-mul_right B (omega arith) in
    omega (arith, sizes.whole, sizes.fits)

port-block : (f R L n : ℕ) → 0 < L → n < (R - f) * L → n / L + f < R
port-block f R L n some less =
    let block : n / L < R - f = (div-lt_iff_lt-mul some).1 less in
    omega arith

pub port-passes : (p : ℕ → Bool) (f R B V L n : ℕ) → HasLayout p f R B V L → IsLayout f R B V L → n < (R - f) * L → p (port_at f B V L n) ≡ true
port-passes p f R B V L n lies sizes less =
    let some : 0 < L = sizes.some in
    let part : n % L < L = omega arith in
    let tests : (nat_le f (n / L + f) && (nat_le V (V + n % L) && nat_lt (V + n % L) (V + L))) ≡ true = grind (arith, nat_tests) in
    lies (n / L + f) (V + n % L) (port-block f R L n some less) (omega (arith, sizes.fits)) ∙ tests

pub count-port_at : (p : ℕ → Bool) (f R B V L n : ℕ) → HasLayout p f R B V L → IsLayout f R B V L → n < (R - f) * L → count_below p (port_at f B V L n) ≡ n
count-port_at p f R B V L n lies sizes less =
    let some : 0 < L = sizes.some in
    let part : n % L < L = omega arith in
    let count = count-at p f R B V L lies sizes.fits (n / L + f) (V + n % L) (port-block f R L n some less) (omega (arith, sizes.fits)) in
    let here : passed f V L (n / L + f) (V + n % L) ≡ n % L = grind (arith, nat_tests) in
    let block : n / L + f - f ≡ n / L = omega arith in
    count ∙ rw (here, block) (div-add-mod' n L)

pub all-sizes : IsLayout 0 1 65536 0 65536
all-sizes = record { used = lit< tt; some = lit< tt; fits = lit≤ tt; whole = refl }

from-positive : (a : ℕ) → from_bool (nat_lt 0 a) ≡ (if a == 0 then 0 else 1)
from-positive zero = refl
from-positive (suc a) = grind (arith, nat_tests)

-- the same for sizes that are given by equations
pub given-sizes : (a k v f R B s L : ℕ) → a ≤ 15 → k ≤ 16 - a → v < 2 ^ k → s ≡ v → f ≡ from_bool (nat_lt 0 a) → R ≡ 2 ^ a → B ≡ 2 ^ (16 - a) → L ≡ 2 ^ (16 - a - k) → IsLayout f R B (s * L) L
given-sizes a k v f R B s L a_in k_in less is_s is_f is_R is_B is_L = rw (is_s, is_f, is_R, is_B, is_L, from-positive a) (set-sizes a k v a_in k_in less)

pub given-lies : (a k v f R B s L : ℕ) → a ≤ 15 → k ≤ 16 - a → k ≢ 0 → s ≡ v → f ≡ from_bool (nat_lt 0 a) → R ≡ 2 ^ a → B ≡ 2 ^ (16 - a) → L ≡ 2 ^ (16 - a - k) → HasLayout (in_set a k v) f R B (s * L) L
given-lies a k v f R B s L a_in k_in some is_s is_f is_R is_B is_L = rw (is_s, is_f, is_R, is_B, is_L, from-positive a) (set-lies a k v a_in k_in some)

pub given-apart : (a k B L : ℕ) → a ≤ 15 → k ≤ 16 - a → k ≢ 0 → B ≡ 2 ^ (16 - a) → L ≡ 2 ^ (16 - a - k) → L < B
given-apart a k B L a_in k_in some is_B is_L = rw (is_B, is_L) (set-apart a k a_in k_in some)

pub sizes_of : (l : Layout) → IsLayout l.first l.blocks l.block l.start l.run
sizes_of l = record { used = l.used; some = l.some; fits = l.fits; whole = l.whole }

left-passes : (a x : ℕ) → (a ≡ 0) ⊎ (2 ^ (16 - a) ≤ x) → ((a == 0) || nat_le (2 ^ (16 - a)) x) ≡ true
left-passes a x (inl none) = rw none refl
left-passes a x (inr past) = grind (arith, nat_tests)

-- each port that the offset leaves is in the set of its PSID bits
pub in-some-set : (a k x : ℕ) → (a ≡ 0) ⊎ (2 ^ (16 - a) ≤ x) → (v : ℕ) × (v < 2 ^ k) × IsTrue (in_set a k v x)
in-some-set a zero x left = (0, pow_pos 0, refl)
in-some-set a (suc k) x left =
    let v : ℕ = x / 2 ^ (16 - a - suc k) % 2 ^ suc k in
    let some : 0 < 2 ^ suc k = pow_pos (suc k) in
    let same : (v == v) ≡ true = grind (arith, nat_tests) in
    (v, omega arith, rw (left-passes a x left, same) (grind (arith, nat_tests)))
