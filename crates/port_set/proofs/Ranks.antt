-- Ranks: the counts of a set without port 0, and the runs by their number.
use Rattle.std.proofs.Common.{◌≡◌, ℕ, zero, suc, ◌+◌, ◌-◌, ◌*◌, ◌/◌, ◌%◌, ◌<◌, ◌≤◌, Bool, true, false, refl, sym, ◌∙◌, arith, inl, inr, IsTrue, ◌⊎◌, ◌↔◌, lit<}
use Rattle.std.specs.Prelude.{◌&&◌, not, ◌==◌, nat_le, nat_lt, if◌then◌else◌, Some, None}
use Rattle.std.proofs.lemmas.Bool.Decides.{nat_tests, leb_tells}
use Rattle.std.proofs.lemmas.Bool.{false≢true}
use Rattle.std.specs.Int.{from_bool}
use Rattle.std.proofs.Math.Nat.{mul-div_cancel, mul-mod_left, mul-le-mul_right}
use Rattle.port_set.specs.PortSet.{in_set, is_claimable, count_below, claimable_count, rank_of, begins_run, ends_run, IsRun}
use Rattle.port_set.specs.Layout.{HasLayout}
use Rattle.port_set.proofs.Counting.{count-at, passed, count-but-zero, count-rises, count-tells, count_below-zero}
use Rattle.port_set.proofs.Runs.{begins-lies, ends-at, ends-last}
use Rattle.port_set.proofs.Places.{IsLayout, stands, count-port, count-all, port_at, port-passes, count-port_at}

-- the test without 0
abbrev pub but_zero : (ℕ → Bool) → ℕ → Bool
but_zero p x = p x && not (x == 0)

-- 1 where 0 passes
abbrev pub zero_of : (ℕ → Bool) → ℕ
zero_of p = if p 0 then 1 else 0

pub but_zero-true : (p : ℕ → Bool) (x : ℕ) → but_zero p x ≡ true → (p x ≡ true) × (0 < x)
but_zero-true p x e = grind (arith, nat_tests)

true-but_zero : (p : ℕ → Bool) (x : ℕ) → p x ≡ true → 0 < x → but_zero p x ≡ true
true-but_zero p x passes some = rw passes (grind (arith, nat_tests))

positive : (p : ℕ → Bool) (x i : ℕ) → p x ≡ true → count_below p x ≡ i + zero_of p → 0 < x
positive p zero i passes count =
    let one : zero_of p ≡ 1 = rw passes refl in
    absurd (omega (arith, one, count, count_below-zero p))
positive p (suc n) i passes count = omega arith

pub count-claimable : (p : ℕ → Bool) (f R B V L : ℕ) → HasLayout p f R B V L → IsLayout f R B V L → count_below (but_zero p) 65536 + zero_of p ≡ (R - f) * L
count-claimable p f R B V L lies sizes = count-but-zero p 65535 ∙ count-all p f R B V L lies sizes

pub count-before : (p : ℕ → Bool) (x : ℕ) → 0 < x → count_below (but_zero p) x + zero_of p ≡ count_below p x
count-before p x some =
    let next : suc (x - 1) ≡ x = omega arith in
    rw next at (count-but-zero p (x - 1))

cancel : (a b z : ℕ) → a + z ≡ b + z → a ≡ b
cancel a b z e = omega arith

-- the port of rank i
pub port-claimable : (p : ℕ → Bool) (f R B V L i : ℕ) → HasLayout p f R B V L → IsLayout f R B V L → i + zero_of p < (R - f) * L → but_zero p (port_at f B V L (i + zero_of p)) ≡ true
port-claimable p f R B V L i lies sizes less =
    let n : ℕ = i + zero_of p in
    let x : ℕ = port_at f B V L n in
    let passes : p x ≡ true = port-passes p f R B V L n lies sizes less in
    true-but_zero p x passes (positive p x i passes (count-port_at p f R B V L n lies sizes less))

pub rank-port : (p : ℕ → Bool) (f R B V L i : ℕ) → HasLayout p f R B V L → IsLayout f R B V L → i + zero_of p < (R - f) * L → count_below (but_zero p) (port_at f B V L (i + zero_of p)) ≡ i
rank-port p f R B V L i lies sizes less =
    let n : ℕ = i + zero_of p in
    let x : ℕ = port_at f B V L n in
    let passes : p x ≡ true = port-passes p f R B V L n lies sizes less in
    let count : count_below p x ≡ n = count-port_at p f R B V L n lies sizes less in
    let before : count_below (but_zero p) x + zero_of p ≡ count_below p x = count-before p x (positive p x i passes count) in
    cancel (count_below (but_zero p) x) i (zero_of p) (before ∙ count)

-- what a rank tells
pub some-tells : (b : Bool) (n i : ℕ) → (if b then Some n else None) ≡ Some i → (b ≡ true) × (n ≡ i)
some-tells true n i e = (refl, cc)
some-tells false n i e = cc

-- the run of number i
run-sizes : (f R B V L : ℕ) → IsLayout f R B V L → IsLayout f R B V 1
run-sizes f R B V L sizes = record { used = sizes.used; some = lit< tt; fits = omega (arith, sizes.some, sizes.fits); whole = sizes.whole }

pub run-start : (f B V L i : ℕ) → 0 < L → port_at f B V L (i * L) ≡ (i + f) * B + V
run-start f B V L i some = rw (mul-div_cancel i some, mul-mod_left i L) (omega arith)

run-passes : (p : ℕ → Bool) (f R B V L q x : ℕ) → HasLayout p f R B V L → IsLayout f R B V L → q < R → f ≤ q → q * B + V ≤ x → x ≤ q * B + V + (L - 1) → IsTrue (p x)
run-passes p f R B V L q x lies sizes q_in used lo hi =
    let d : ℕ = x - (q * B + V) in
    let at : q * B + (V + d) ≡ x = omega arith in
    let inside : V + d < V + L = omega (arith, sizes.some) in
    let test : (nat_le f q && (nat_le V (V + d) && nat_lt (V + d) (V + L))) ≡ true = grind (arith, nat_tests) in
    rw (← at) (lies q (V + d) q_in (omega (arith, sizes.fits)) ∙ test)

first-place : (f q V L : ℕ) → 0 < V → (nat_le f (suc q) && (nat_le V 0 && nat_lt 0 (V + L))) ≡ false
first-place f q V L some = grind (arith, nat_tests)

starts-late : (R B V L q : ℕ) → (L < B) ⊎ (R ≡ 1) → V + L ≡ B → suc q < R → 0 < V
starts-late R B V L q (inl less) full more = omega arith
starts-late R B V L q (inr one) full more = absurd (omega arith)

run-ends : (p : ℕ → Bool) (f R B V L q : ℕ) → HasLayout p f R B V L → IsLayout f R B V L → (L < B) ⊎ (R ≡ 1) → q < R → IsTrue (p (q * B + V + (L - 1))) → IsTrue (ends_run p (q * B + V + (L - 1)))
run-ends p f R B V L q lies sizes apart q_in here =
    elim (leb_tells (suc (V + L)) B) [
      | inl room ↦
          let next : q * B + V + (L - 1) + 1 ≡ q * B + (V + L) = omega (arith, sizes.some) in
          let test : (nat_le f q && (nat_le V (V + L) && nat_lt (V + L) (V + L))) ≡ false = grind (arith, nat_tests) in
          ends-at p (q * B + V + (L - 1)) here (rw next (lies q (V + L) q_in room.1 ∙ test))
      | inr full ↦
          let whole : V + L ≡ B = omega (arith, full.1, sizes.fits) in
          elim (leb_tells (suc (suc q)) R) [
            | inl more ↦
                let next : q * B + V + (L - 1) + 1 ≡ suc q * B + 0 = omega (arith, sizes.some) in
                let none = first-place f q V L (starts-late R B V L q apart whole more.1) in
                ends-at p (q * B + V + (L - 1)) here (rw next (lies (suc q) 0 more.1 (omega (arith, sizes.some)) ∙ none))
            | inr last ↦
                let all : R ≡ suc q = omega (arith, last.1) in
                let blocks : suc q * B ≡ 65536 = rw all at sizes.whole in
                ends-last p (q * B + V + (L - 1)) here (omega (arith, sizes.some))
          ]
    ]

pub nth-run : (p : ℕ → Bool) (f R B V L i : ℕ) → HasLayout p f R B V L → IsLayout f R B V L → (L < B) ⊎ (R ≡ 1) → i < R - f → IsRun p ((i + f) * B + V) ((i + f) * B + V + (L - 1))
nth-run p f R B V L i lies sizes apart less =
    let base : ℕ = (i + f) * B + V in
    let in_blocks : i + f < R = omega arith in
    let starts : HasLayout (begins_run p) f R B V 1 = begins-lies p f R B V L lies sizes.fits sizes.some apart in
    let begin : (nat_le f (i + f) && (nat_le V V && nat_lt V (V + 1))) ≡ true = grind (arith, nat_tests) in
    let all : (x : ℕ) → base ≤ x → x ≤ base + (L - 1) → IsTrue (p x) = λ x lo hi. run-passes p f R B V L (i + f) x lies sizes in_blocks (omega arith) lo hi in
    record {
      ordered = omega arith;
      begins = starts (i + f) V in_blocks (omega (arith, sizes.fits, sizes.some)) ∙ begin;
      passes = all;
      ends = run-ends p f R B V L (i + f) lies sizes apart in_blocks (all (base + (L - 1)) (omega arith) (omega arith));
    }

pub run-index : (p : ℕ → Bool) (f R B V L i : ℕ) → HasLayout p f R B V L → IsLayout f R B V L → (L < B) ⊎ (R ≡ 1) → i < R - f → count_below (begins_run p) ((i + f) * B + V) ≡ i
run-index p f R B V L i lies sizes apart less =
    let starts : HasLayout (begins_run p) f R B V 1 = begins-lies p f R B V L lies sizes.fits sizes.some apart in
    let one = run-sizes f R B V L sizes in
    let count : count_below (begins_run p) ((i + f) * B + V) ≡ (i + f - f) * 1 + passed f V 1 (i + f) V = count-at (begins_run p) f R B V 1 starts one.fits (i + f) V (omega arith) (omega (arith, one.fits)) in
    let none : passed f V 1 (i + f) V ≡ 0 = grind (arith, nat_tests) in
    let block : i + f - f ≡ i = omega arith in
    count ∙ rw (none, block) (omega arith)

pub count-runs : (p : ℕ → Bool) (f R B V L : ℕ) → HasLayout p f R B V L → IsLayout f R B V L → (L < B) ⊎ (R ≡ 1) → count_below (begins_run p) 65536 ≡ R - f
count-runs p f R B V L lies sizes apart =
    let starts : HasLayout (begins_run p) f R B V 1 = begins-lies p f R B V L lies sizes.fits sizes.some apart in
    let all = count-all (begins_run p) f R B V 1 starts (run-sizes f R B V L sizes) in
    all ∙ omega arith

pub zero-is : (b c : Bool) → (IsTrue b ↔ IsTrue c) → from_bool b ≡ (if c then 1 else 0)
zero-is true true same = refl
zero-is true false same = absurd (false≢true (same.0 refl))
zero-is false true same = absurd (false≢true (same.1 refl))
zero-is false false same = refl

pub rank-when : (a k v x i : ℕ) → is_claimable a k v x ≡ true → count_below (is_claimable a k v) x ≡ i → rank_of a k v x ≡ Some i
rank-when a k v x i claims count = rw (claims, count) refl

pub rank-tells : (a k v x i : ℕ) → rank_of a k v x ≡ Some i → (is_claimable a k v x ≡ true) × (count_below (is_claimable a k v) x ≡ i)
rank-tells a k v x i e = some-tells (is_claimable a k v x) (count_below (is_claimable a k v) x) i e

-- a rank is below the count
pub rank-below : (a k v x i : ℕ) → x < 65536 → rank_of a k v x ≡ Some i → i < claimable_count a k v
rank-below a k v x i less e =
    let told = rank-tells a k v x i e in
    let rises = count-rises (is_claimable a k v) x 65536 told.0 less in
    omega (arith, told.1, rises)

-- two ports of one rank are one
pub rank-one : (a k v x y i : ℕ) → rank_of a k v x ≡ Some i → rank_of a k v y ≡ Some i → x ≡ y
rank-one a k v x y i ex ey =
    let tx = rank-tells a k v x i ex in
    let ty = rank-tells a k v y i ey in
    count-tells (is_claimable a k v) x y tx.0 ty.0 (tx.1 ∙ sym ty.1)

-- the port that is computed for a rank has it
pub rank-computed : (a k v f R B V L i z x : ℕ) → HasLayout (in_set a k v) f R B V L → IsLayout f R B V L → z ≡ zero_of (in_set a k v) → i + z < (R - f) * L → x ≡ port_at f B V L (i + z) → rank_of a k v x ≡ Some i
rank-computed a k v f R B V L i z x lies sizes is_z less is_x =
    let p : ℕ → Bool = in_set a k v in
    let within : i + zero_of p < (R - f) * L = rw is_z at less in
    let here : port_at f B V L (i + zero_of p) ≡ x = rw is_z at (sym is_x) in
    let claims : is_claimable a k v x ≡ true = rw here at (port-claimable p f R B V L i lies sizes within) in
    let count : count_below (but_zero p) x ≡ i = rw here at (rank-port p f R B V L i lies sizes within) in
    rank-when a k v x i claims count

-- the rank that is computed for a port
pub rank-computes : (a k v f R B V L z x : ℕ) → HasLayout (in_set a k v) f R B V L → IsLayout f R B V L → z ≡ zero_of (in_set a k v) → x < 65536 → is_claimable a k v x ≡ true → (z ≤ (x / B - f) * L + (x % B - V)) × (rank_of a k v x ≡ Some ((x / B - f) * L + (x % B - V) - z))
rank-computes a k v f R B V L z x lies sizes is_z less claims =
    let p : ℕ → Bool = in_set a k v in
    let told = but_zero-true p x claims in
    let count : count_below p x ≡ (x / B - f) * L + (x % B - V) = count-port p f R B V L x lies sizes (stands p f R B V L x lies sizes less told.0) in
    let before : count_below (but_zero p) x + z ≡ count_below p x = rw (← is_z) at (count-before p x told.1) in
    (omega arith, rank-when a k v x _ claims (omega arith))

pub run-last : (f R B V L i : ℕ) → IsLayout f R B V L → i < R - f → (i + f) * B + V + (L - 1) < 65536
run-last f R B V L i sizes less =
    let up_to : suc (i + f) * B ≤ R * B = mul-le-mul_right B (omega arith) in
    omega (arith, sizes.some, sizes.fits, sizes.whole)

-- ranks rise with the ports
pub ranks-rise : (a k v x y i j : ℕ) → rank_of a k v x ≡ Some i → rank_of a k v y ≡ Some j → x < y → i < j
ranks-rise a k v x y i j ex ey less =
    let tx = rank-tells a k v x i ex in
    let ty = rank-tells a k v y j ey in
    omega (arith, tx.1, ty.1, count-rises (is_claimable a k v) x y tx.0 less)
