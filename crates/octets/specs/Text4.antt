-- An IPv4 address as text: four decimal numbers without leading zeros, with a dot between any two.
use Rattle.std.specs.Prelude.{◌≡◌, ℕ, ◌+◌, ◌*◌, ◌^◌, ◌<◌, List, ◌∷◌, ◌++◌, Option, Some}
use Rattle.std.specs.Fmt.{decimal}
use Rattle.octets.specs.Bits.{bits_at}
use Rattle.octets.specs.Numeral.{◌>>=◌, dot, cut_at, small_decimal_at}

-- four texts with dots
abbrev pub dotted : List ℕ → List ℕ → List ℕ → List ℕ → List ℕ
dotted a b c d = a ++ dot ∷ (b ++ dot ∷ (c ++ dot ∷ d))

-- the number of four octets, the first one highest
abbrev pub number_of_octets : ℕ → ℕ → ℕ → ℕ → ℕ
number_of_octets a b c d = a * 2 ^ 24 + b * 2 ^ 16 + c * 2 ^ 8 + d

-- the text spells the address with this number
pub record IsText4 (text : List ℕ) (n : ℕ) : Type 0 where
  pub first : ℕ
  pub second : ℕ
  pub third : ℕ
  pub fourth : ℕ
  pub below : (first < 256) × (second < 256) × (third < 256) × (fourth < 256)
  pub spelled : text ≡ dotted (decimal first) (decimal second) (decimal third) (decimal fourth)
  pub value : n ≡ number_of_octets first second third fourth

-- the address's one text
unfoldable pub text4 : ℕ → List ℕ
text4 n = dotted (decimal (bits_at 32 n 0 8)) (decimal (bits_at 32 n 8 8)) (decimal (bits_at 32 n 16 8)) (decimal (bits_at 32 n 24 8))

-- what a text is read as, from left to right
unfoldable pub addr4_at : List ℕ → Option ℕ
addr4_at text = do
  a ← cut_at dot text
  b ← cut_at dot a.1
  c ← cut_at dot b.1
  first ← small_decimal_at a.0
  second ← small_decimal_at b.0
  third ← small_decimal_at c.0
  fourth ← small_decimal_at c.1
  Some (number_of_octets first second third fourth)
