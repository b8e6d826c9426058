-- The longest run of zeros is the one that is shortened.
use Rattle.std.proofs.Common.{◌≡◌, ℕ, zero, suc, ◌+◌, ◌≤◌, ◌<◌, true, false, List, [], ◌∷◌, get_or, drop, refl, sym, ap, ◌∙◌, arith, inl, inr}
use Rattle.std.specs.Prelude.{nat_le, ◌⊎◌}
use Rattle.std.proofs.lemmas.Bool.Decides.{eqb_tells, nat_tests}
use Rattle.std.proofs.lemmas.Bool.{cases_lt, lt-ltb, le-ltb}
use Rattle.std.proofs.lemmas.List.{get_or-take, get_or-drop, get_or-replicate}
use Rattle.octets.specs.Text6.{groups_of, zeros_first, Run, longer, longest_run, text6}
use Rattle.octets.specs.Run6.{AreZeros, IsShortenedRun, HasShortenedRun, HasNoRun, IsWritten6}
use Rattle.octets.proofs.Numerals.{either}
use Rattle.octets.proofs.Written6.{IsZeros, run_is}

zeros-behind : (g : ℕ) (gs : List ℕ) (start len : ℕ) → AreZeros (g ∷ gs) (suc start) len → AreZeros gs start len
zeros-behind g gs start len h =
    (omega (arith, h.0), λ i lt. let e : suc start + i ≡ suc (start + i) = omega arith in rw e at (h.1 i lt))

zeros-rest : (g : ℕ) (gs : List ℕ) (len : ℕ) → AreZeros (g ∷ gs) 0 (suc len) → AreZeros gs 0 len
zeros-rest g gs len h =
    (omega (arith, h.0), λ i lt. let e : 0 + suc i ≡ suc (0 + i) = omega arith in rw e at (h.1 (suc i) (omega arith)))

-- no more zeros stand first
first-most : (gs : List ℕ) (len : ℕ) → AreZeros gs 0 len → len ≤ zeros_first gs
first-most [] len h = omega (arith, h.0)
first-most (g ∷ gs) zero h = omega arith
first-most (g ∷ gs) (suc len) h =
    let ih = first-most gs len (zeros-rest g gs len h) in
    elim (eqb_tells g 0) [
      | inl t ↦ rw t.0 (omega (arith, ih))
      | inr t ↦ absurd (t.1 (h.1 0 (omega arith)))
    ]

-- none longer, and none earlier
record IsBest (gs : List ℕ) (run : Run) : Type 0 where
  longest : (start len : ℕ) → AreZeros gs start len → len ≤ run.len
  first : (start : ℕ) → start < run.start → ¬ AreZeros gs start run.len

best-here : (g : ℕ) (gs : List ℕ) (run : Run) → IsBest gs run → run.len ≤ zeros_first (g ∷ gs) → IsBest (g ∷ gs) (record { start = 0; len = zeros_first (g ∷ gs) })
best-here g gs run h le = record { longest = longest; first = λ start lt z. omega arith }
  where
    longest : (start len : ℕ) → AreZeros (g ∷ gs) start len → len ≤ zeros_first (g ∷ gs)
    longest zero len z = first-most (g ∷ gs) len z
    longest (suc start) len z = omega (arith, le, h.longest start len (zeros-behind g gs start len z))

best-later : (g : ℕ) (gs : List ℕ) (run : Run) → IsBest gs run → zeros_first (g ∷ gs) < run.len → IsBest (g ∷ gs) (record { start = run.start + 1; len = run.len })
best-later g gs run h lt = record { longest = longest; first = first }
  where
    longest : (start len : ℕ) → AreZeros (g ∷ gs) start len → len ≤ run.len
    longest zero len z = omega (arith, lt, first-most (g ∷ gs) len z)
    longest (suc start) len z = h.longest start len (zeros-behind g gs start len z)

    first : (start : ℕ) → start < run.start + 1 → ¬ AreZeros (g ∷ gs) start run.len
    first zero before z = omega (arith, lt, first-most (g ∷ gs) run.len z)
    first (suc start) before z = h.first start (omega arith) (zeros-behind g gs start run.len z)

at_most : (a b : ℕ) → nat_le a b ≡ true → a ≤ b
at_most a b t = grind (arith, nat_tests)

above : (a b : ℕ) → nat_le a b ≡ false → b < a
above a b t = grind (arith, nat_tests)

best-longer : (g : ℕ) (gs : List ℕ) (run : Run) → IsBest gs run → IsBest (g ∷ gs) (longer (zeros_first (g ∷ gs)) run)
best-longer g gs run h =
    elim (either (nat_le run.len (zeros_first (g ∷ gs)))) [
      | inl t ↦ rw t (best-here g gs run h (at_most run.len (zeros_first (g ∷ gs)) t))
      | inr t ↦ rw t (best-later g gs run h (above run.len (zeros_first (g ∷ gs)) t))
    ]

run-best : (gs : List ℕ) → IsBest gs (longest_run gs)
run-best [] = record { longest = λ start len z. omega (arith, z.0); first = λ start lt z. omega arith }
run-best (g ∷ gs) = best-longer g gs (longest_run gs) (run-best gs)

run-zeros : (gs : List ℕ) → AreZeros gs (longest_run gs).start (longest_run gs).len
run-zeros gs =
    let run = longest_run gs in
    let is : IsZeros gs run = run_is gs in
    (is.within, λ i lt. sym (get_or-drop run.start gs i 0) ∙ sym (get_or-take run.len (drop run.start gs) i 0 lt) ∙ ap (λ (xs : List ℕ). get_or xs i 0) is.zeros ∙ get_or-replicate run.len i 0 0 lt)

-- the text that is written
pub written : (n : ℕ) → IsWritten6 (text6 n) n
unfolding text6
written n =
    let gs = groups_of n in
    let run = longest_run gs in
    let best = run-best gs in
    elim (cases_lt run.len 2) [
      | inl few ↦ rw (lt-ltb run.len 2 few) (inl (record { none = λ start len z. omega (arith, few, best.longest start len z); spelled = refl }))
      | inr two ↦ rw (le-ltb run.len 2 two) (inr (record { start = run.start; len = run.len; run = record { zeros = run-zeros gs; several = two; none_longer = best.longest; none_earlier = best.first }; spelled = refl }))
    ]

-- two runs that are shortened are one
one-run : (gs : List ℕ) (start len other more : ℕ) → IsShortenedRun gs start len → IsShortenedRun gs other more → (start ≡ other) × (len ≡ more)
one-run gs start len other more a b =
    let same : len ≡ more = omega (arith, a.none_longer other more b.zeros, b.none_longer start len a.zeros) in
    let not_before : other < start → ⊥ = λ lt. a.none_earlier other lt (rw same b.zeros) in
    let not_behind : start < other → ⊥ = λ lt. b.none_earlier start lt (rw (← same) a.zeros) in
    (omega (arith, not_before, not_behind), same)

one-text : (gs one other : List ℕ) → HasNoRun gs one ⊎ HasShortenedRun gs one → HasNoRun gs other ⊎ HasShortenedRun gs other → one ≡ other
one-text gs one other (inl a) (inl b) = a.spelled ∙ sym b.spelled
one-text gs one other (inl a) (inr b) = absurd (omega (arith, b.run.several, a.none b.start b.len b.run.zeros))
one-text gs one other (inr a) (inl b) = absurd (omega (arith, a.run.several, b.none a.start a.len a.run.zeros))
one-text gs one other (inr a) (inr b) =
    let same = one-run gs a.start a.len b.start b.len a.run b.run in
    a.spelled ∙ rw (same.0, same.1) (sym b.spelled)

pub only_written : (text : List ℕ) (n : ℕ) → IsWritten6 text n → text ≡ text6 n
only_written text n h = one-text (groups_of n) text (text6 n) h (written n)
