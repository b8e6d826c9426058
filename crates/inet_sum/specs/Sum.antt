-- Internet sums as whole numbers (RFC 1071, RFC 1624).
use Rattle.std.specs.Prelude.{◌≡◌, ℕ, ◌+◌, ◌*◌, ◌-◌, ◌%◌, ◌==◌, if◌then◌else◌, List, [], ◌∷◌}

-- the sum of the 16-bit words, the high octet first; an odd end is padded with 0 (RFC 1071 section 1)
abbrev pub words : List ℕ → ℕ
words [] = 0
words (high ∷ []) = 256 * high
words (high ∷ low ∷ rest) = 256 * high + low + words rest

-- a sum in 16 bits: the carries are added in until none is left, so 0 comes of 0 alone (RFC 1071 section 2)
abbrev pub folded : ℕ → ℕ
folded w = if w == 0 then 0 else 1 + (w - 1) % 65535

-- the check sum of words with this sum: the complement of the fold
abbrev pub check_sum : ℕ → ℕ
check_sum w = 65535 - folded w

-- the check sum c after words of sum `old` in its text became words of sum `new` (RFC 1624): the number
-- below 65535 that is c + old - new modulo 65535. To add 65534 times `new` is to subtract it there.
abbrev pub adjusted : ℕ → ℕ → ℕ → ℕ
adjusted c old new = (c + old + 65534 * new) % 65535

-- a check sum as UDP writes it: 0 says that there is none, and 65535 stands in its place (RFC 768)
abbrev pub as_udp : ℕ → ℕ
as_udp c = if c == 0 then 65535 else c

-- the text, its check sum in it, has a right sum
abbrev pub IsRight : List ℕ → Type 0
IsRight octets = folded (words octets) ≡ 65535
