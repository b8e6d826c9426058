-- A text that is cut at the first of an octet.
use Rattle.std.proofs.Common.{◌≡◌, ◌≢◌, ℕ, zero, suc, ◌-◌, ◌<◌, false, eqb, List, [], ◌∷◌, ◌++◌, length, get_or, take, drop, Option, Some, None, option_map, refl, ap, arith, inl, inr}
use Rattle.std.proofs.lemmas.Bool.{eq-eqb}
use Rattle.std.proofs.lemmas.List.{take_all, length-drop}
use Rattle.std.proofs.lemmas.Bool.Decides.{eqb_tells}
use Rattle.octets.specs.Numeral.{LacksBefore, cut_at}

-- the octet stands nowhere
abbrev pub Lacks : ℕ → List ℕ → Type 0
Lacks octet text = LacksBefore octet (length text) text

pub not_equal : (a b : ℕ) → a ≢ b → eqb a b ≡ false
not_equal a b h = elim (eqb_tells a b) [ inl t ↦ absurd (h t.1) | inr t ↦ t.0 ]

-- cut at the place of the first one
pub cut_at-place : (octet at : ℕ) (text : List ℕ) → at < length text → get_or text at 0 ≡ octet → LacksBefore octet at text → cut_at octet text ≡ Some (take at text, drop (suc at) text)
cut_at-place octet at [] lt is before = absurd (omega arith)
cut_at-place octet zero (c ∷ cs) lt is before = rw (eq-eqb c octet is) refl
cut_at-place octet (suc at) (c ∷ cs) lt is before =
    let ih = cut_at-place octet at cs (omega arith) is (λ i h. before (suc i) (omega arith)) in
    rw (not_equal c octet (before 0 (omega arith)), ih) refl

pub cut_at-none : (octet : ℕ) (text : List ℕ) → Lacks octet text → cut_at octet text ≡ None
cut_at-none octet [] h = refl
cut_at-none octet (c ∷ cs) h =
    let ih = cut_at-none octet cs (λ i lt. h (suc i) (omega arith)) in
    rw (not_equal c octet (h 0 (omega arith)), ih) refl

-- the rest of a text from a place on
pub rest_is : (k : ℕ) (text : List ℕ) → take (length text - k) (drop k text) ≡ drop k text
rest_is k text = take_all (length text - k) (drop k text) (omega (arith, length-drop k text))

-- a text without the octet, the octet, and any text
pub cut_at-append : (octet : ℕ) (before after : List ℕ) → Lacks octet before → cut_at octet (before ++ octet ∷ after) ≡ Some (before, after)
cut_at-append octet [] after h = rw (eq-eqb octet octet refl) refl
cut_at-append octet (c ∷ cs) after h =
    let ih = cut_at-append octet cs after (λ i lt. h (suc i) (omega arith)) in
    rw (not_equal c octet (h 0 (omega arith)), ih) refl

-- what a cut tells
unfoldable pub CutTells : ℕ → List ℕ → Option (List ℕ × List ℕ) → Type 0
CutTells octet text None = Lacks octet text
CutTells octet text (Some parts) = (text ≡ parts.0 ++ octet ∷ parts.1) × Lacks octet parts.0

pub lacks_cons : (octet c : ℕ) (cs : List ℕ) → c ≢ octet → Lacks octet cs → Lacks octet (c ∷ cs)
lacks_cons octet c cs h rest zero lt = h
lacks_cons octet c cs h rest (suc i) lt = rest i (omega arith)

cut_more : (octet c : ℕ) (cs : List ℕ) (cut : Option (List ℕ × List ℕ)) → c ≢ octet → CutTells octet cs cut → CutTells octet (c ∷ cs) (option_map (λ (parts : List ℕ × List ℕ). (c ∷ parts.0, parts.1)) cut)
unfolding CutTells
cut_more octet c cs None h t = lacks_cons octet c cs h t
cut_more octet c cs (Some parts) h t = (ap (λ (xs : List ℕ). c ∷ xs) t.0, lacks_cons octet c parts.0 h t.1)

pub cut_tells : (octet : ℕ) (text : List ℕ) → CutTells octet text (cut_at octet text)
unfolding CutTells
cut_tells octet [] = λ i lt. absurd (omega arith)
cut_tells octet (c ∷ cs) =
    elim (eqb_tells c octet) [
      | inl t ↦ rw t.0 (ap (λ (o : ℕ). o ∷ cs) t.1, λ i lt. absurd (omega arith))
      | inr t ↦ rw t.0 (cut_more octet c cs (cut_at octet cs) t.1 (cut_tells octet cs))
    ]

pub lacks_append : (octet : ℕ) (xs ys : List ℕ) → Lacks octet xs → Lacks octet ys → Lacks octet (xs ++ ys)
lacks_append octet [] ys h k = k
lacks_append octet (c ∷ cs) ys h k = lacks_cons octet c (cs ++ ys) (h 0 (omega arith)) (lacks_append octet cs ys (λ i lt. h (suc i) (omega arith)) k)
