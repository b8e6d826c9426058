-- A text of an IPv6 address round its first `::`.
use Rattle.std.proofs.Common.{◌≡◌, ◌≢◌, ℕ, zero, suc, ◌<◌, true, false, ◌&&◌, List, [], ◌∷◌, ◌++◌, length, get_or, take, drop, Option, Some, None, option_map, refl, ap, ◌∙◌, arith, inl, inr}
use Rattle.std.specs.Prelude.{◌==◌}
use Rattle.std.proofs.lemmas.Bool.{eqb-true, eq-eqb, and_parts, and_from}
use Rattle.octets.specs.Numeral.{colon}
use Rattle.octets.specs.Text6.{gap_at}
use Rattle.octets.proofs.Numerals.{either}

-- no `::` stands at this place or before it
abbrev pub NoGapBefore : ℕ → List ℕ → Type 0
NoGapBefore end text = (k : ℕ) → k < end → get_or text k 0 ≡ 58 → get_or text (suc k) 0 ≡ 58 → ⊥

test_false : (c d : ℕ) → (c ≡ 58 → d ≡ 58 → ⊥) → (c == colon && d == colon) ≡ false
test_false c d h =
    elim (either (c == colon && d == colon)) [
      | inl t ↦ let p = and_parts (c == colon) (d == colon) t in absurd (h (eqb-true c colon p.0) (eqb-true d colon p.1))
      | inr t ↦ t
    ]

test_true : (c d : ℕ) → c ≡ 58 → d ≡ 58 → (c == colon && d == colon) ≡ true
test_true c d p q = and_from (c == colon) (d == colon) (eq-eqb c colon p) (eq-eqb d colon q)

pub gap_at-place : (at : ℕ) (text : List ℕ) → suc at < length text → get_or text at 0 ≡ 58 → get_or text (suc at) 0 ≡ 58 → NoGapBefore at text → gap_at text ≡ Some (take at text, drop (suc (suc at)) text)
gap_at-place at [] lt p q before = absurd (omega arith)
gap_at-place at (c ∷ []) lt p q before = absurd (omega arith)
gap_at-place zero (c ∷ d ∷ cs) lt p q before = rw (test_true c d p q) refl
gap_at-place (suc at) (c ∷ d ∷ cs) lt p q before =
    let ih = gap_at-place at (d ∷ cs) (omega arith) p q (λ k h. before (suc k) (omega arith)) in
    rw (test_false c d (before 0 (omega arith)), ih) refl

pub gap_at-none : (text : List ℕ) → ((k : ℕ) → suc k < length text → get_or text k 0 ≡ 58 → get_or text (suc k) 0 ≡ 58 → ⊥) → gap_at text ≡ None
gap_at-none [] h = refl
gap_at-none (c ∷ []) h = refl
gap_at-none (c ∷ d ∷ cs) h =
    let ih = gap_at-none (d ∷ cs) (λ k lt. h (suc k) (omega arith)) in
    rw (test_false c d (h 0 (omega arith)), ih) refl

-- no `::` in the text, and no colon at its end
unfoldable pub IsSolid : List ℕ → Type 0
IsSolid [] = Unit {0}
IsSolid (c ∷ []) = c ≢ 58
IsSolid (c ∷ d ∷ cs) = (c ≡ 58 → d ≡ 58 → ⊥) × IsSolid (d ∷ cs)

pub solid_has_none : (text : List ℕ) → IsSolid text → gap_at text ≡ None
unfolding IsSolid
solid_has_none [] h = refl
solid_has_none (c ∷ []) h = refl
solid_has_none (c ∷ d ∷ cs) h = rw (test_false c d h.0, solid_has_none (d ∷ cs) h.1) refl

pub solid_then_gap : (left right : List ℕ) → IsSolid left → gap_at (left ++ colon ∷ colon ∷ right) ≡ Some (left, right)
unfolding IsSolid
solid_then_gap [] right h = refl
solid_then_gap (c ∷ []) right h = rw (test_false c 58 (λ p q. h p)) refl
solid_then_gap (c ∷ d ∷ cs) right h =
    rw (test_false c d h.0, solid_then_gap (d ∷ cs) right h.1) refl

-- what stands round a gap that was found
unfoldable pub GapTells : List ℕ → Option (List ℕ × List ℕ) → Type 0
GapTells text None = Unit {0}
GapTells text (Some parts) = text ≡ parts.0 ++ colon ∷ colon ∷ parts.1

gap_more : (c : ℕ) (cs : List ℕ) (found : Option (List ℕ × List ℕ)) → GapTells cs found → GapTells (c ∷ cs) (option_map (λ (parts : List ℕ × List ℕ). (c ∷ parts.0, parts.1)) found)
unfolding GapTells
gap_more c cs None t = tt
gap_more c cs (Some parts) t = ap (λ (xs : List ℕ). c ∷ xs) t

pub gap_tells : (text : List ℕ) → GapTells text (gap_at text)
unfolding GapTells
gap_tells [] = tt
gap_tells (c ∷ []) = tt
gap_tells (c ∷ d ∷ cs) =
    elim (either (c == colon && d == colon)) [
      | inl t ↦
          let p = and_parts (c == colon) (d == colon) t in
          let e : c ≡ 58 = eqb-true c colon p.0 in
          let f : d ≡ 58 = eqb-true d colon p.1 in
          rw t (ap (λ (x : ℕ). x ∷ d ∷ cs) e ∙ ap (λ (x : ℕ). 58 ∷ x ∷ cs) f)
      | inr t ↦ rw t (gap_more c (d ∷ cs) (gap_at (d ∷ cs)) (gap_tells (d ∷ cs)))
    ]
