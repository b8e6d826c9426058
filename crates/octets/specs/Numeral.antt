-- Texts made of numbers with an octet between any two, and how they are read from left to right.
use Rattle.std.specs.Prelude.{◌≡◌, ◌≢◌, ℕ, ◌+◌, ◌*◌, ◌<◌, ◌≤◌, List, [], ◌∷◌, length, slice_index, Option, Some, None, option_map, option_and_then, nat_lt, ◌&&◌, ◌||◌, ◌==◌, if◌then◌else◌}
use Rattle.std.specs.Char.{digit_value}
use Rattle.std.specs.Str.Parse.{IsNumeral, digits_value}

-- `b'.'`, `b'/'` and `b':'`
abbrev pub dot : ℕ
dot = 46

abbrev pub slash : ℕ
slash = 47

abbrev pub colon : ℕ
colon = 58

infixl 10 ◌>>=◌
abbrev pub ◌>>=◌ : {A B : Type 0} → Option A → (A → Option B) → Option B
o >>= f = option_and_then f o

-- what stands before the first such octet, and what stands behind it
abbrev pub cut_at : ℕ → List ℕ → Option (List ℕ × List ℕ)
cut_at octet [] = None
cut_at octet (c ∷ cs) = if c == octet then Some ([], cs) else option_map (λ parts. (c ∷ parts.0, parts.1)) (cut_at octet cs)

-- the octet stands nowhere before this place
abbrev pub LacksBefore : ℕ → ℕ → List ℕ → Type 0
LacksBefore octet end text = (i : ℕ) → i < end → slice_index text i ≢ octet

-- the number that these digits make behind the digits of n
abbrev pub digits_from : ℕ → ℕ → List ℕ → Option ℕ
digits_from radix n [] = Some n
digits_from radix n (c ∷ cs) = if nat_lt (digit_value c) radix then digits_from radix (n * radix + digit_value c) cs else None

-- one to four digits of a radix, and their number
pub record IsShortNumeral (radix : ℕ) (text : List ℕ) (n : ℕ) : Type 0 where
  pub digits : IsNumeral radix text
  pub short : length text ≤ 4
  pub value : n ≡ digits_value radix text

unfoldable pub numeral_at : ℕ → List ℕ → Option ℕ
numeral_at radix text = if length text == 0 || nat_lt 4 (length text) then None else digits_from radix 0 text

-- decimal digits without a leading zero, of a number below 256
unfoldable pub small_decimal_at : List ℕ → Option ℕ
small_decimal_at text =
    if nat_lt 1 (length text) && slice_index text 0 == 48 then None else (numeral_at 10 text >>= λ n. if nat_lt n 256 then Some n else None)

-- what is made of a value, or of none
abbrev pub or_else : {A B : Type 0} → Option A → B → (A → B) → B
or_else None none f = none
or_else (Some x) none f = f x
