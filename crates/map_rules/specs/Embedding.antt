-- IPv4 addresses embedded in IPv6 addresses (RFC 6052, section 2.2), under a prefix of 32, 40, 48, 56,
-- 64 or 96 bits. Bits are counted from the left, from 0.
use Rattle.std.specs.Prelude.{ℕ, ◌+◌, ◌-◌, ◌*◌, ◌^◌, ◌==◌, ◌||◌, ◌&&◌, Bool, if◌then◌else◌, Option, Some, None}
use Rattle.octets.specs.Bits.{bits_at}

-- the prefix is of an embedding's length, and with 96 bits its bits 64 to 71 are zero
abbrev pub is_embedding_prefix : ℕ → ℕ → Bool
is_embedding_prefix bits len =
    (len == 32) || ((len == 40) || ((len == 48) || ((len == 56) || ((len == 64)
    || ((len == 96) && (bits_at 128 bits 64 8 == 0))))))

-- a number of `count` bits that stand in an IPv6 address from bit `from` on
abbrev pub placed : ℕ → ℕ → ℕ → ℕ
placed x from count = x * 2 ^ (128 - (from + count))

-- the prefix, and after it the bits of the IPv4 address, which skip bits 64 to 71; all other bits are
-- zero. The first 64 - len bits of the IPv4 address stand before these, the other len - 32 behind
unfoldable pub embedded : ℕ → ℕ → ℕ → ℕ
embedded bits len addr =
    bits + (if len == 96 then addr
    else (placed (bits_at 32 addr 0 (64 - len)) len (64 - len) + placed (bits_at 32 addr (64 - len) (len - 32)) 72 (len - 32)))

-- the bits of an IPv6 address at which an address stands that is embedded under a prefix of this length
abbrev pub embedded_bits : ℕ → ℕ → ℕ
embedded_bits len s =
    if len == 96 then bits_at 128 s 96 32 else bits_at 128 s len (64 - len) * 2 ^ (len - 32) + bits_at 128 s 72 (len - 32)

-- the IPv4 address that is embedded so as this IPv6 address under the prefix
unfoldable pub extract_of : ℕ → ℕ → ℕ → Option ℕ
extract_of bits len s = let a = embedded_bits len s in if embedded bits len a == s then Some a else None
