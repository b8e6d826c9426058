-- Prefixes that have addresses in common: one of the two begins the other.
use Rattle.std.specs.Prelude.{◌&&◌, ◌||◌, nat_le, Bool, IsTrue}
use Rattle.octets.specs.Bits.{same_first}
use Rattle.octets.specs.declared.prefix.Prefix4.{Prefix4}
use Rattle.octets.specs.declared.prefix.Prefix6.{Prefix6}

-- the second IPv4 prefix is at least as long and has the first one's bits
abbrev pub begins4 : Prefix4 → Prefix4 → Bool
begins4 a b = nat_le a.len b.len && same_first 32 a.len a.bits b.bits

-- two IPv4 prefixes have an address in common
abbrev pub overlaps4 : Prefix4 → Prefix4 → Bool
overlaps4 a b = begins4 a b || begins4 b a

abbrev pub Overlaps4 : Prefix4 → Prefix4 → Type 0
Overlaps4 a b = IsTrue (overlaps4 a b)

-- the second IPv6 prefix is at least as long and has the first one's bits
abbrev pub begins6 : Prefix6 → Prefix6 → Bool
begins6 a b = nat_le a.len b.len && same_first 128 a.len a.bits b.bits

-- two IPv6 prefixes have an address in common
abbrev pub overlaps6 : Prefix6 → Prefix6 → Bool
overlaps6 a b = begins6 a b || begins6 b a

abbrev pub Overlaps6 : Prefix6 → Prefix6 → Type 0
Overlaps6 a b = IsTrue (overlaps6 a b)
