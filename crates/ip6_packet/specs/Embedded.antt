-- The packet inside an ICMP error (RFC 4443, section 2.4): the headers, and as much of the payload as the error
-- holds. Its declared length may pass the octets that stand. Fragment fields are judged by nobody.
use Rattle.std.specs.Prelude.{◌≡◌, ◌≢◌, ℕ, ◌+◌, ◌/◌, ◌<◌, ◌≤◌, ◌⊎◌, List, length, Some, None}
use Rattle.octets.specs.Field.{octet}
use Rattle.ip6_packet.specs.Grammar.{payload_len, chain_of, HasFields6}
use Rattle.ip6_packet.specs.declared.head.Head6.{Head6}

-- the octets begin with whole headers, which have these fields: the chain ends within the octets that stand,
-- and the length is the declared one
pub record HasHeaders6 (h : Head6) (octets : List ℕ) : Type 0 where
  pub fields : HasFields6 h octets
  pub chain : chain_of octets ≡ Some (record { upper = h.upper; start = h.start; frag = h.frag; left = h.left })
  pub ends : h.start + h.length ≡ 40 + payload_len octets
  pub fixed : 40 ≤ length octets
  pub stands : h.start ≤ length octets

-- they begin with none: too few octets, another version, a chain that passes the octets or has a second
-- Fragment Header
abbrev pub LacksHeaders6 : List ℕ → Type 0
LacksHeaders6 octets =
    (length octets < 40)
    ⊎ ((octet octets 0 / 16 ≢ 6)
    ⊎ (chain_of octets ≡ None))
