-- The hexadecimal digits of a group, by their number.
use Rattle.std.proofs.Common.{◌≡◌, ℕ, ◌/◌, ◌%◌, ◌≤◌, ◌<◌, Bool, true, false, cond, eqb, suc, List, [], ◌∷◌, length, refl, ap, sym, ◌∙◌, arith, inl, inr}
use Rattle.std.specs.Fmt.{digits, digits_onto, digit_glyph}
use Rattle.std.proofs.lemmas.Fmt.{hex_one_digit, hex_two_digits}
use Rattle.std.proofs.lemmas.Bool.{cases_lt, eq-eqb, ne_eqb}

digits_onto-nil : (n : ℕ) → digits_onto 64 16 false n [] ≡ digits 16 false n
unfolding digits
digits_onto-nil n = refl

-- the last digit of a number, with so many more to come at most
choice : (k n : ℕ) (acc : List ℕ) (t : Bool) → eqb (n / 16) 0 ≡ t → digits_onto (suc k) 16 false n acc ≡ cond t (digit_glyph false (n % 16) ∷ acc) (digits_onto k 16 false (n / 16) (digit_glyph false (n % 16) ∷ acc))
choice k n acc t e = ap (λ (b : Bool). cond b (digit_glyph false (n % 16) ∷ acc) (digits_onto k 16 false (n / 16) (digit_glyph false (n % 16) ∷ acc))) e

digits_onto_last : (k n : ℕ) (acc : List ℕ) → n / 16 ≡ 0 → digits_onto (suc k) 16 false n acc ≡ digit_glyph false (n % 16) ∷ acc
digits_onto_last k n acc e = choice k n acc true (eq-eqb _ 0 e)

digits_onto_step : (k n : ℕ) (acc : List ℕ) → (n / 16 ≡ 0 → ⊥) → digits_onto (suc k) 16 false n acc ≡ digits_onto k 16 false (n / 16) (digit_glyph false (n % 16) ∷ acc)
digits_onto_step k n acc e = choice k n acc false (ne_eqb _ 0 e)

pub hex-one : (g : ℕ) → g < 16 → digits 16 false g ≡ digit_glyph false (g % 16) ∷ []
hex-one g lt =
    let same : g ≡ g % 16 = omega arith in
    hex_one_digit false g lt ∙ ap (λ (d : ℕ). digit_glyph false d ∷ []) same

pub hex-two : (g : ℕ) → g < 256 → 16 ≤ g → digits 16 false g ≡ digit_glyph false (g / 16 % 16) ∷ digit_glyph false (g % 16) ∷ []
hex-two g lt le =
    let same : g / 16 ≡ g / 16 % 16 = omega arith in
    hex_two_digits false g le lt ∙ ap (λ (d : ℕ). digit_glyph false d ∷ digit_glyph false (g % 16) ∷ []) same

pub hex-three : (g : ℕ) → g < 4096 → 256 ≤ g → digits 16 false g ≡ digit_glyph false (g / 256 % 16) ∷ digit_glyph false (g / 16 % 16) ∷ digit_glyph false (g % 16) ∷ []
hex-three g lt le =
    let low = digit_glyph false (g % 16) ∷ [] in
    let mid = digit_glyph false (g / 16 % 16) ∷ low in
    let same : g / 16 / 16 % 16 ≡ g / 256 % 16 = omega arith in
    sym (digits_onto-nil g)
    ∙ digits_onto_step 63 g [] (omega arith)
    ∙ digits_onto_step 62 (g / 16) low (omega arith)
    ∙ digits_onto_last 61 (g / 16 / 16) mid (omega arith)
    ∙ ap (λ (d : ℕ). digit_glyph false d ∷ mid) same

pub hex-four : (g : ℕ) → g < 65536 → 4096 ≤ g → digits 16 false g ≡ digit_glyph false (g / 4096) ∷ digit_glyph false (g / 256 % 16) ∷ digit_glyph false (g / 16 % 16) ∷ digit_glyph false (g % 16) ∷ []
hex-four g lt le =
    let low = digit_glyph false (g % 16) ∷ [] in
    let mid = digit_glyph false (g / 16 % 16) ∷ low in
    let high = digit_glyph false (g / 16 / 16 % 16) ∷ mid in
    let first : g / 16 / 16 / 16 % 16 ≡ g / 4096 = omega arith in
    let second : g / 16 / 16 % 16 ≡ g / 256 % 16 = omega arith in
    sym (digits_onto-nil g)
    ∙ digits_onto_step 63 g [] (omega arith)
    ∙ digits_onto_step 62 (g / 16) low (omega arith)
    ∙ digits_onto_step 61 (g / 16 / 16) mid (omega arith)
    ∙ digits_onto_last 60 (g / 16 / 16 / 16) high (omega arith)
    ∙ ap (λ (d : ℕ). digit_glyph false d ∷ high) first
    ∙ ap (λ (d : ℕ). digit_glyph false (g / 4096) ∷ digit_glyph false d ∷ mid) second

-- a group has at most four digits
pub hex-short : (g : ℕ) → g < 65536 → length (digits 16 false g) ≤ 4
hex-short g lt =
    elim (cases_lt g 16) [
      | inl a ↦ omega (arith, ap length (hex-one g a))
      | inr a ↦ elim (cases_lt g 256) [
        | inl b ↦ omega (arith, ap length (hex-two g b a))
        | inr b ↦ elim (cases_lt g 4096) [
          | inl c ↦ omega (arith, ap length (hex-three g c b))
          | inr c ↦ omega (arith, ap length (hex-four g lt c))
        ]
      ]
    ]
