-- Where octets are to go over IPv6, whatever else is wrong with them (RFC 8200, section 3).
use Rattle.std.specs.Prelude.{ℕ, nat_le, nat_eq, ◌/◌, ◌&&◌, Bool, List, length, Option, Some, None, if◌then◌else◌}
use Rattle.octets.specs.Field.{octet, sixteen}

-- they have room for a header, and its version
abbrev pub has_header6 : List ℕ → Bool
has_header6 octets = nat_le 40 (length octets) && nat_eq (octet octets 0 / 16) 6

-- the destination stands in octets 24 to 39
abbrev pub destination_in : List ℕ → Option ℕ
destination_in octets = if has_header6 octets then Some (sixteen octets 24) else None
