-- ICMP messages of both versions (RFC 792; RFC 4443, section 2.1): type, code, sum, four octets whose use goes
-- by the type, and a body.
use Rattle.std.specs.Prelude.{◌≡◌, ℕ, ◌<◌, ◌≤◌, List, ◌∷◌, ◌++◌, length, drop}
use Rattle.octets.specs.Field.{octet, quad, in_word, in_quad}
use Rattle.octets.specs.declared.address.Addr6.{Addr6}
use Rattle.inet_sum.specs.Sum.{words, check_sum, IsRight}
use Rattle.l4_headers.specs.PseudoHeader.{pseudo_header6}
use Rattle.icmp_messages.specs.declared.icmp4.Icmp4.{Icmp4}
use Rattle.icmp_messages.specs.declared.icmp6.Icmp6.{Icmp6}

-- what the sum of an ICMPv6 message covers: the pseudo header of protocol 58, then the message (RFC 4443,
-- section 2.3; RFC 8200, section 8.1)
abbrev pub covered6 : Addr6 → Addr6 → List ℕ → List ℕ
covered6 src dst message = pseudo_header6 src dst 58 (length message) ++ message

-- the octets hold this ICMPv4 message, and its sum is right
pub record IsIcmp4 (m : Icmp4) (octets : List ℕ) : Type 0 where
  pub stands : 8 ≤ length octets
  pub kind : m.kind ≡ octet octets 0
  pub code : m.code ≡ octet octets 1
  pub rest : m.rest ≡ quad octets 4
  pub body : m.body ≡ drop 8 octets
  pub right : IsRight octets

-- the octets hold this ICMPv6 message, and its sum between these addresses is right
pub record IsIcmp6 (src dst : Addr6) (m : Icmp6) (octets : List ℕ) : Type 0 where
  pub stands : 8 ≤ length octets
  pub kind : m.kind ≡ octet octets 0
  pub code : m.code ≡ octet octets 1
  pub rest : m.rest ≡ quad octets 4
  pub body : m.body ≡ drop 8 octets
  pub right : IsRight (covered6 src dst octets)

-- the cause BadTransport: the 8 octets in front of the body don't stand
abbrev pub IsShort : List ℕ → Type 0
IsShort octets = length octets < 8

-- the cause IcmpSum: they stand, and the sum is wrong
abbrev pub IsWrongSum4 : List ℕ → Type 0
IsWrongSum4 octets = (8 ≤ length octets) × (IsRight octets → ⊥)

abbrev pub IsWrongSum6 : Addr6 → Addr6 → List ℕ → Type 0
IsWrongSum6 src dst octets = (8 ≤ length octets) × (IsRight (covered6 src dst octets) → ⊥)

-- the 8 octets in front of the body: type, code, this sum, and the four octets as a number
abbrev pub front : ℕ → ℕ → ℕ → ℕ → List ℕ
front kind code rest sum = kind ∷ code ∷ in_word sum ++ in_quad rest

-- a message with this sum
abbrev pub with_sum4 : Icmp4 → ℕ → List ℕ
with_sum4 m sum = front m.kind m.code m.rest sum ++ m.body

abbrev pub with_sum6 : Icmp6 → ℕ → List ℕ
with_sum6 m sum = front m.kind m.code m.rest sum ++ m.body

-- the message as it is written: with its sum, for which its place counts as 0
abbrev pub message4 : Icmp4 → List ℕ
message4 m = with_sum4 m (check_sum (words (with_sum4 m 0)))

abbrev pub message6 : Addr6 → Addr6 → Icmp6 → List ℕ
message6 src dst m = with_sum6 m (check_sum (words (covered6 src dst (with_sum6 m 0))))
