-- What octets hold an IPv6 packet (RFC 8200). Octets after the payload length belong to no packet.
use Rattle.std.specs.Prelude.{◌≡◌, ℕ, ◌+◌, ◌/◌, ◌≤◌, List, length, take, Option, Some}
use Rattle.octets.specs.Bits.{bits_at}
use Rattle.octets.specs.Field.{octet, word, sixteen, part}
use Rattle.ip6_packet.specs.declared.head.Head6.{Head6}
use Rattle.ip6_packet.specs.declared.chain.Chain.{Chain}
use Rattle.ip6_packet.specs.Chain.{chain_in}

-- the declared octets behind the IPv6 header
abbrev pub payload_len : List ℕ → ℕ
payload_len octets = word octets 4

-- the chain of extension headers in the declared payload
abbrev pub chain_of : List ℕ → Option Chain
chain_of octets = chain_in 40 (octet octets 6) 0 (part octets 40 (payload_len octets))

-- the fields of the IPv6 header are these
pub record HasFields6 (h : Head6) (octets : List ℕ) : Type 0 where
  pub version : octet octets 0 / 16 ≡ 6
  pub class : h.class ≡ bits_at 16 (word octets 0) 4 8
  pub hop : h.hop ≡ octet octets 7
  pub src : h.src.0 ≡ sixteen octets 8
  pub dst : h.dst.0 ≡ sixteen octets 24

-- the payload: the octets of the upper protocol
abbrev pub payload_of6 : Head6 → List ℕ → List ℕ
payload_of6 h octets = part octets h.start h.length

-- the packet without the octets after its payload length
abbrev pub trimmed6 : Head6 → List ℕ → List ℕ
trimmed6 h octets = take (h.start + h.length) octets

-- the octets hold headers with these fields, and this payload
pub record Is6 (h : Head6) (payload octets : List ℕ) : Type 0 where
  pub fields : HasFields6 h octets
  pub chain : chain_of octets ≡ Some (record { upper = h.upper; start = h.start; frag = h.frag; left = h.left })
  pub ends : h.start + h.length ≡ 40 + payload_len octets
  pub whole : 40 + payload_len octets ≤ length octets
  pub payload_is : payload ≡ payload_of6 h octets
