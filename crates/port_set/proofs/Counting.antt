-- How many numbers below a bound pass a test that has a layout: R blocks of B numbers, and in each from
-- block f on a run of L numbers that pass, from place V on.
use Rattle.std.proofs.Common.{◌≡◌, ℕ, zero, suc, ◌+◌, ◌-◌, ◌*◌, ◌<◌, ◌≤◌, Bool, true, false, refl, arith, min, inl, inr}
use Rattle.std.specs.Prelude.{◌&&◌, not, ◌==◌, nat_le, nat_lt, if◌then◌else◌}
use Rattle.std.proofs.lemmas.Bool.Decides.{nat_tests, leb_tells}
use Rattle.port_set.specs.PortSet.{count_below}
use Rattle.port_set.specs.Layout.{HasLayout}

pub count_below-zero : (p : ℕ → Bool) → count_below p 0 ≡ 0
unfolding count_below
count_below-zero p = refl

pub count_below-suc : (p : ℕ → Bool) (n : ℕ) → count_below p (suc n) ≡ count_below p n + (if p n then 1 else 0)
unfolding count_below
count_below-suc p n = refl

-- how many pass in block q before place r
abbrev pub passed : ℕ → ℕ → ℕ → ℕ → ℕ → ℕ
passed f V L q r = if nat_le f q then min L (r - V) else 0

passed-zero : (f V L q : ℕ) → passed f V L q 0 ≡ 0
passed-zero f V L q = grind (arith, nat_tests)

passed-suc : (f V L q r : ℕ) (b : Bool) → b ≡ (nat_le f q && (nat_le V r && nat_lt r (V + L))) → passed f V L q (suc r) ≡ passed f V L q r + (if b then 1 else 0)
passed-suc f V L q r b e = rw e (grind (arith, nat_tests))

passed-whole : (f V L B q : ℕ) → V + L ≤ B → (q - f) * L + passed f V L q B ≡ (suc q - f) * L
passed-whole f V L B q fits =
    elim (leb_tells f q) [
      | inl within ↦
          let one : suc q - f ≡ suc (q - f) = omega (arith, within.1) in
          rw (within.0, one) (omega arith)
      | inr past ↦
          let none : q - f ≡ 0 = omega (arith, past.1) in
          let still : suc q - f ≡ 0 = omega (arith, past.1) in
          rw (past.0, none, still) (omega arith)
    ]

count-in-block : (p : ℕ → Bool) (f R B V L q : ℕ) → HasLayout p f R B V L → q < R → count_below p (q * B) ≡ (q - f) * L → (r : ℕ) → r ≤ B → count_below p (q * B + r) ≡ (q - f) * L + passed f V L q r
count-in-block p f R B V L q lies in_range base zero le =
    let none = passed-zero f V L q in
    let at : q * B + 0 ≡ q * B = omega arith in
    rw at (omega (arith, base, none))
count-in-block p f R B V L q lies in_range base (suc r) le =
    let before : count_below p (q * B + r) ≡ (q - f) * L + passed f V L q r = count-in-block p f R B V L q lies in_range base r (omega arith) in
    let at : q * B + suc r ≡ suc (q * B + r) = omega arith in
    let next = passed-suc f V L q r (p (q * B + r)) (lies q r in_range (omega arith)) in
    let here = count_below-suc p (q * B + r) in
    rw at (omega (arith, before, next, here))

-- before block q
pub count-blocks : (p : ℕ → Bool) (f R B V L : ℕ) → HasLayout p f R B V L → V + L ≤ B → (q : ℕ) → q ≤ R → count_below p (q * B) ≡ (q - f) * L
count-blocks p f R B V L lies fits zero bound =
    let at : 0 * B ≡ 0 = omega arith in
    let none : 0 - f ≡ 0 = omega arith in
    rw (at, none) (omega (arith, count_below-zero p))
count-blocks p f R B V L lies fits (suc q) bound =
    let at : suc q * B ≡ q * B + B = omega arith in
    let before : count_below p (q * B) ≡ (q - f) * L = count-blocks p f R B V L lies fits q (omega arith) in
    let whole = count-in-block p f R B V L q lies (omega arith) before B (omega arith) in
    rw at (omega (arith, whole, passed-whole f V L B q fits))

-- before place r of block q
pub count-at : (p : ℕ → Bool) (f R B V L : ℕ) → HasLayout p f R B V L → V + L ≤ B → (q r : ℕ) → q < R → r ≤ B → count_below p (q * B + r) ≡ (q - f) * L + passed f V L q r
count-at p f R B V L lies fits q r in_range le =
    count-in-block p f R B V L q lies in_range (count-blocks p f R B V L lies fits q (omega arith)) r le

-- a count rises past each number that passes
pub count-monotone : (p : ℕ → Bool) (m d : ℕ) → count_below p m ≤ count_below p (m + d)
count-monotone p m zero = let at : m + 0 ≡ m = omega arith in rw at (omega arith)
count-monotone p m (suc d) =
    let at : m + suc d ≡ suc (m + d) = omega arith in
    let before : count_below p m ≤ count_below p (m + d) = count-monotone p m d in
    rw at (omega (arith, before, count_below-suc p (m + d)))

pub count-rises : (p : ℕ → Bool) (x y : ℕ) → p x ≡ true → x < y → count_below p x < count_below p y
count-rises p x y passes less =
    let at : suc x + (y - suc x) ≡ y = omega arith in
    let after : count_below p (suc x) ≤ count_below p y = rw at at (count-monotone p (suc x) (y - suc x)) in
    let here : count_below p (suc x) ≡ count_below p x + (if true then 1 else 0) = rw passes at (count_below-suc p x) in
    omega (arith, after, here)

-- two numbers that pass and have one count are one
pub count-tells : (p : ℕ → Bool) (x y : ℕ) → p x ≡ true → p y ≡ true → count_below p x ≡ count_below p y → x ≡ y
count-tells p x y px py same =
    elim (leb_tells (suc x) y) [
      | inl below ↦ absurd (omega (arith, same, count-rises p x y px below.1))
      | inr at_least ↦
          elim (leb_tells (suc y) x) [
            | inl above ↦ absurd (omega (arith, same, count-rises p y x py above.1))
            | inr at_most ↦ omega (arith, at_least.1, at_most.1)
          ]
    ]

passes-not_zero : (b : Bool) (n : ℕ) → (b && not (suc n == 0)) ≡ b
passes-not_zero true n = grind (arith, nat_tests)
passes-not_zero false n = refl

passes-zero : (b : Bool) → (b && not (0 == 0)) ≡ false
passes-zero true = refl
passes-zero false = refl

-- the count without the number 0
pub count-but-zero : (p : ℕ → Bool) (n : ℕ) → count_below (λ x. p x && not (x == 0)) (suc n) + (if p 0 then 1 else 0) ≡ count_below p (suc n)
count-but-zero p zero =
    let none : count_below (λ x. p x && not (x == 0)) 1 ≡ 0 =
    rw (count_below-suc (λ x. p x && not (x == 0)) 0, count_below-zero (λ x. p x && not (x == 0)), passes-zero (p 0)) refl in
    let one : count_below p 1 ≡ (if p 0 then 1 else 0) = rw (count_below-suc p 0, count_below-zero p) (omega arith) in
    omega (arith, none, one)
count-but-zero p (suc n) =
    let before : count_below (λ x. p x && not (x == 0)) (suc n) + (if p 0 then 1 else 0) ≡ count_below p (suc n) = count-but-zero p n in
    let other : count_below (λ x. p x && not (x == 0)) (suc (suc n)) ≡ count_below (λ x. p x && not (x == 0)) (suc n) + (if p (suc n) then 1 else 0) =
    rw (count_below-suc (λ x. p x && not (x == 0)) (suc n), passes-not_zero (p (suc n)) n) refl in
    omega (arith, before, other, count_below-suc p (suc n))
