-- A prefix as text: an address, a slash, and the length in decimal digits without leading zeros
-- (RFC 4632, section 3.1, and RFC 4291, section 2.3). No bit past the length is set.
use Rattle.std.specs.Prelude.{◌≡◌, ℕ, ◌-◌, ◌%◌, ◌^◌, ◌≤◌, List, ◌∷◌, ◌++◌, Option, Some, None, ◌&&◌, nat_le, ◌==◌, if◌then◌else◌}
use Rattle.std.specs.Fmt.{decimal}
use Rattle.octets.specs.Bits.{IsClearFrom}
use Rattle.octets.specs.Numeral.{◌>>=◌, slash, cut_at, small_decimal_at}
use Rattle.octets.specs.Text4.{IsText4, text4}
use Rattle.octets.specs.Text6.{IsText6, text6}

-- the text spells the prefix of these bits and this length, in an address of so many bits
pub record IsPrefixText (IsAddress : List ℕ → ℕ → Type 0) (width : ℕ) (text : List ℕ) (bits len : ℕ) : Type 0 where
  pub address : List ℕ
  pub spelled : text ≡ address ++ slash ∷ decimal len
  pub bits_are : IsAddress address bits
  pub within : len ≤ width
  pub clear : IsClearFrom width bits len

abbrev pub IsPrefixText4 : List ℕ → ℕ → ℕ → Type 0
IsPrefixText4 = IsPrefixText IsText4 32

abbrev pub IsPrefixText6 : List ℕ → ℕ → ℕ → Type 0
IsPrefixText6 = IsPrefixText IsText6 128

-- the prefix's canonical text
abbrev pub prefix_text4 : ℕ → ℕ → List ℕ
prefix_text4 bits len = text4 bits ++ slash ∷ decimal len

abbrev pub prefix_text6 : ℕ → ℕ → List ℕ
prefix_text6 bits len = text6 bits ++ slash ∷ decimal len

-- the bits and the length that a text is read as
unfoldable pub prefix_at : (List ℕ → Option ℕ) → ℕ → List ℕ → Option (ℕ × ℕ)
prefix_at address_at width text = do
  parts ← cut_at slash text
  bits ← address_at parts.0
  len ← small_decimal_at parts.1
  if nat_le len width && bits % 2 ^ (width - len) == 0 then Some (bits, len) else None
