-- Runs of numbers that pass a test.
use Rattle.std.proofs.Common.{◌≡◌, ℕ, zero, suc, ◌+◌, ◌-◌, ◌*◌, ◌<◌, ◌≤◌, Bool, true, false, refl, subst, arith, inl, inr, IsTrue, ◌⊎◌}
use Rattle.std.specs.Prelude.{◌&&◌, ◌||◌, not, ◌==◌, nat_le, nat_lt}
use Rattle.std.proofs.lemmas.Bool.Decides.{nat_tests, leb_tells}
use Rattle.port_set.specs.PortSet.{count_below, begins_run, ends_run, IsRun}
use Rattle.port_set.specs.Layout.{HasLayout}
use Rattle.port_set.proofs.Counting.{count-tells, count-rises}
use Rattle.std.proofs.lemmas.Bool.{false≢true}
use Rattle.std.proofs.Math.Bool.{and-false}

-- the numbers from first to last pass
abbrev pub AllPass : (ℕ → Bool) → ℕ → ℕ → Type 0
AllPass p first last = (x : ℕ) → first ≤ x → x ≤ last → IsTrue (p x)

both : (b c : Bool) → IsTrue b → IsTrue c → IsTrue (b && c)
both b c here there = rw (here, there) refl

-- one number more passes
AllPass-suc : (p : ℕ → Bool) (first n : ℕ) → AllPass p first n → IsTrue (p (suc n)) → AllPass p first (suc n)
AllPass-suc p first n below here x lo hi =
    elim (leb_tells x n) [
      | inl within ↦ below x lo within.1
      | inr past ↦
          let last : suc n ≡ x = omega (arith, past.1) in
          let P : ℕ → Type 0 = λ y. IsTrue (p y) in
          subst P last here
    ]

AllPass-before : (p : ℕ → Bool) (x last : ℕ) → IsTrue (p x) → AllPass p (suc x) last → AllPass p x last
AllPass-before p x last here above y lo hi =
    elim (leb_tells (suc x) y) [
      | inl within ↦ above y within.1 hi
      | inr past ↦
          let first : x ≡ y = omega (arith, past.1) in
          let P : ℕ → Type 0 = λ z. IsTrue (p z) in
          subst P first here
    ]

AllPass-one : (p : ℕ → Bool) (x : ℕ) → IsTrue (p x) → AllPass p x x
AllPass-one p x here y lo hi =
    let same : x ≡ y = omega arith in
    let P : ℕ → Type 0 = λ z. IsTrue (p z) in
    subst P same here

AllPass-join : (p : ℕ → Bool) (first x last : ℕ) → AllPass p first x → AllPass p x last → AllPass p first last
AllPass-join p first x last before after y lo hi =
    elim (leb_tells y x) [ inl within ↦ before y lo within.1 | inr past ↦ after y (omega (arith, past.1)) hi ]

-- where a run begins
begins-at : (p : ℕ → Bool) (n : ℕ) → IsTrue (p (suc n)) → p n ≡ false → IsTrue (begins_run p (suc n))
begins-at p n here none =
    let before : suc n - 1 ≡ n = omega arith in
    both (p (suc n)) _ here (rw (before, none) (grind (arith, nat_tests)))

begins-zero : (p : ℕ → Bool) → IsTrue (p 0) → IsTrue (begins_run p 0)
begins-zero p here = both (p 0) _ here refl

pub ends-at : (p : ℕ → Bool) (x : ℕ) → IsTrue (p x) → p (x + 1) ≡ false → IsTrue (ends_run p x)
ends-at p x here none = both (p x) _ here (rw none (grind (arith, nat_tests)))

pub ends-last : (p : ℕ → Bool) (x : ℕ) → IsTrue (p x) → x ≡ 65535 → IsTrue (ends_run p x)
ends-last p x here last = both (p x) _ here (rw last refl)

abbrev pub RunTo : (ℕ → Bool) → ℕ → Type 0
RunTo p x = (first : ℕ) × (first ≤ x) × IsTrue (begins_run p first) × AllPass p first x

abbrev pub RunFrom : (ℕ → Bool) → ℕ → Type 0
RunFrom p x = (last : ℕ) × (x ≤ last) × (last ≤ 65535) × IsTrue (ends_run p last) × AllPass p x last

start_more : (p : ℕ → Bool) (n : ℕ) → IsTrue (p (suc n)) → (b : Bool) → p n ≡ b → (IsTrue (p n) → RunTo p n) → RunTo p (suc n)
start_more p n here true e before =
    let at = before e in
    (at.0, omega (arith, at.1), at.2, AllPass-suc p at.0 n at.3 here)
start_more p n here false e before = (suc n, omega arith, begins-at p n here e, AllPass-one p (suc n) here)

end_more : (p : ℕ → Bool) (x : ℕ) → x + 1 ≤ 65535 → IsTrue (p x) → (b : Bool) → p (x + 1) ≡ b → (IsTrue (p (suc x)) → RunFrom p (suc x)) → RunFrom p x
end_more p x room here true e after =
    let next : x + 1 ≡ suc x = omega arith in
    let then : p (suc x) ≡ true = rw next at e in
    let at = after then in
    (at.0, omega (arith, at.1), at.2, at.3, AllPass-before p x at.0 here at.4)
end_more p x room here false e after = (x, omega arith, omega arith, ends-at p x here e, AllPass-one p x here)

-- each number that passes is in a run
pub run_start : (p : ℕ → Bool) (x : ℕ) → IsTrue (p x) → RunTo p x
run_start p zero here = (0, omega arith, begins-zero p here, AllPass-one p 0 here)
run_start p (suc n) here = start_more p n here (p n) refl (run_start p n)

pub run_end : (p : ℕ → Bool) (d x : ℕ) → x + d ≡ 65535 → IsTrue (p x) → RunFrom p x
run_end p zero x at here = (x, omega arith, omega arith, ends-last p x here (omega arith), AllPass-one p x here)
run_end p (suc d) x at here = end_more p x (omega arith) here (p (x + 1)) refl (run_end p d (suc x) (omega arith))

begins-is : (p : ℕ → Bool) (x : ℕ) (here zero before : Bool) → p x ≡ here → (x == 0) ≡ zero → p (x - 1) ≡ before → begins_run p x ≡ (here && (zero || not before))
begins-is p x here z before e0 e1 e2 = rw (e0, e1, e2) refl

-- the runs of a test with a layout begin at the starts of its stretches
begins-in : (f V L q r : ℕ) → 0 < L → ((nat_le f q && (nat_le V (suc r) && nat_lt (suc r) (V + L))) && (false || not (nat_le f q && (nat_le V r && nat_lt r (V + L))))) ≡ (nat_le f q && (nat_le V (suc r) && nat_lt (suc r) (V + 1)))
begins-in f V L q r some = grind (arith, nat_tests)

begins-first : (f V L : ℕ) (b : Bool) → 0 < L → ((nat_le f 0 && (nat_le V 0 && nat_lt 0 (V + L))) && (true || b)) ≡ (nat_le f 0 && (nat_le V 0 && nat_lt 0 (V + 1)))
begins-first f V L b some = grind (arith, nat_tests)

begins-next : (f V L B q : ℕ) → V + L ≤ B → L < B → 0 < L → ((nat_le f (suc q) && (nat_le V 0 && nat_lt 0 (V + L))) && (false || not (nat_le f q && (nat_le V (B - 1) && nat_lt (B - 1) (V + L))))) ≡ (nat_le f (suc q) && (nat_le V 0 && nat_lt 0 (V + 1)))
begins-next f V L B q fits less some = grind (arith, nat_tests)

pub begins-lies : (p : ℕ → Bool) (f R B V L : ℕ) → HasLayout p f R B V L → V + L ≤ B → 0 < L → (L < B) ⊎ (R ≡ 1) → HasLayout (begins_run p) f R B V 1
begins-lies p f R B V L lies fits some apart q (suc r) q_in r_in =
    let before : q * B + suc r - 1 ≡ q * B + r = omega arith in
    let not_zero : (q * B + suc r == 0) ≡ false = grind (arith, nat_tests) in
    rw (lies q (suc r) q_in r_in, not_zero, before, lies q r q_in (omega arith)) (begins-in f V L q r some)
begins-lies p f R B V L lies fits some apart zero zero q_in r_in =
    let at : 0 * B + 0 ≡ 0 = omega arith in
    let here : p 0 ≡ (nat_le f 0 && (nat_le V 0 && nat_lt 0 (V + L))) = rw at at (lies 0 0 q_in r_in) in
    rw (at, here) (begins-first f V L (not (p (0 - 1))) some)
begins-lies p f R B V L lies fits some (inl less) (suc q) zero q_in r_in =
    let before : suc q * B + 0 - 1 ≡ q * B + (B - 1) = omega arith in
    let not_zero : (suc q * B + 0 == 0) ≡ false = grind (arith, nat_tests) in
    rw (lies (suc q) 0 q_in r_in, not_zero, before, lies q (B - 1) (omega arith) (omega arith)) (begins-next f V L B q fits less some)
begins-lies p f R B V L lies fits some (inr one) (suc q) zero q_in r_in = absurd (omega arith)

-- no run that begins where another does is longer
not-longer : (p : ℕ → Bool) (first last end : ℕ) → IsRun p first last → IsRun p first end → end < 65536 → end ≤ last
not-longer p first last end run other small =
    elim (leb_tells (suc last) end) [
      | inl longer ↦
          let next : last + 1 ≤ end = omega (arith, longer.1) in
          let passes : p (last + 1) ≡ true = other.passes (last + 1) (omega (arith, run.ordered)) next in
          let last_one : (last == 65535) ≡ false = grind (arith, nat_tests) in
          absurd (false≢true (rw (last_one, passes, and-false) at run.ends))
      | inr shorter ↦ omega (arith, shorter.1)
    ]

pub run-one : (p : ℕ → Bool) (first last end : ℕ) → IsRun p first last → IsRun p first end → last < 65536 → end < 65536 → last ≡ end
run-one p first last end run other small end_small =
    let one : end ≤ last = not-longer p first last end run other end_small in
    let two : last ≤ end = not-longer p first end last other run small in
    omega arith

pub runs-told : (p : ℕ → Bool) (first last other end : ℕ) → IsRun p first last → IsRun p other end → last < 65536 → end < 65536 → count_below (begins_run p) first ≡ count_below (begins_run p) other → (first ≡ other) × (last ≡ end)
runs-told p first last other end run run' small end_small same =
    let begin : first ≡ other = count-tells (begins_run p) first other run.begins run'.begins same in
    let moved : IsRun p first end = rw begin run' in
    (begin, run-one p first last end run moved small end_small)

pub runs-cover : (p : ℕ → Bool) (x : ℕ) → x < 65536 → IsTrue (p x) → (first : ℕ) × (last : ℕ) × IsRun p first last × (first ≤ x) × (x ≤ last) × (last < 65536) × (count_below (begins_run p) first < count_below (begins_run p) 65536)
runs-cover p x small here =
    let start = run_start p x here in
    let end = run_end p (65535 - x) x (omega arith) here in
    let all : AllPass p start.0 end.0 = AllPass-join p start.0 x end.0 start.3 end.4 in
    let counted = count-rises (begins_run p) start.0 65536 start.2 (omega (arith, start.1)) in
    (start.0, end.0, record { ordered = omega (arith, start.1, end.1); begins = start.2; passes = all; ends = end.3 }, start.1, end.1, omega (arith, end.2), counted)
