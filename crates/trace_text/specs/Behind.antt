-- The IPv4 address behind an IPv6 address of the domain (RFC 7597, section 6; RFC 6052, section 2.2). It goes by the default
-- mapping rule alone, which never changes: so it is one under all generations of rules.
use Rattle.std.specs.Prelude.{ℕ, if◌then◌else◌, Option, Some}
use Rattle.map_rules.specs.declared.dmr.Dmr.{Dmr}
use Rattle.map_rules.specs.Address.{carried_addr}
use Rattle.map_rules.specs.Embedding.{extract_of}
use Rattle.rule_book.specs.Far.{has_addr6}

-- inside the default mapping rule the address that is embedded, and else the one in bits 80 to 111 of a MAP address
abbrev pub ipv4_behind : Dmr → ℕ → Option ℕ
ipv4_behind dmr s =
    if has_addr6 dmr.prefix s then extract_of dmr.prefix.bits dmr.prefix.len s else Some (carried_addr s)
