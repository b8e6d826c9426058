-- Bits of a number of a given width, by their position from the left, from 0.
use Rattle.std.specs.Prelude.{◌≡◌, ℕ, ◌+◌, ◌-◌, ◌/◌, ◌%◌, ◌^◌, ◌==◌, Bool, if◌then◌else◌}

-- the number in the `count` bits from position `from` on
abbrev pub bits_at : ℕ → ℕ → ℕ → ℕ → ℕ
bits_at width x from count = x / 2 ^ (width - (from + count)) % 2 ^ count

-- a flag as the number of its bit
abbrev pub bit_of : Bool → ℕ
bit_of flag = if flag then 1 else 0

-- no bit from this position on is set
abbrev pub IsClearFrom : ℕ → ℕ → ℕ → Type 0
IsClearFrom width x from = x % 2 ^ (width - from) ≡ 0

-- the first `count` bits of the two are the same
abbrev pub SameFirst : ℕ → ℕ → ℕ → ℕ → Type 0
SameFirst width count x y = x / 2 ^ (width - count) ≡ y / 2 ^ (width - count)

-- the same as a test
abbrev pub same_first : ℕ → ℕ → ℕ → ℕ → Bool
same_first width count x y = (x / 2 ^ (width - count)) == (y / 2 ^ (width - count))
