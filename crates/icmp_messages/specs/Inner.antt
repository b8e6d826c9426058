-- The packet that an ICMP error embeds: its headers, and at least the first 8 octets of its payload (RFC 792;
-- RFC 4443, section 2.4). Octets past its declared end belong to it as little as to any packet; the declared end
-- may pass the octets that stand. Sums, options, source routes and fragment fields beyond the offset are judged
-- by nobody.
use Rattle.std.specs.Prelude.{◌≡◌, ◌≢◌, ℕ, ◌<◌, ◌≤◌, ◌⊎◌, List, length, Option}
use Rattle.octets.specs.Field.{octet}
use Rattle.octets.specs.declared.proto.Proto.{Proto}
use Rattle.octets.specs.declared.proto.Proto.TheVariants.{Tcp, Udp, Icmp}
use Rattle.ip4_packet.specs.declared.head.Head4.{Head4}
use Rattle.ip4_packet.specs.Grammar.{payload_of4}
use Rattle.ip4_packet.specs.Embedded.{HasHeader4, LacksHeader4}
use Rattle.ip6_packet.specs.declared.head.Head6.{Head6}
use Rattle.ip6_packet.specs.declared.head.Frag6.{Frag6}
use Rattle.ip6_packet.specs.Fragment.{fragment_offset}
use Rattle.ip6_packet.specs.Grammar.{payload_of6}
use Rattle.ip6_packet.specs.Embedded.{HasHeaders6, LacksHeaders6}
use Rattle.l4_headers.specs.Transport.{l4_of}
use Rattle.icmp_messages.specs.declared.inner4.Inner4.{Inner4}
use Rattle.icmp_messages.specs.declared.inner6.Inner6.{Inner6}

-- an echo request or an echo reply, with code 0: of ICMPv4 types 8 and 0 (RFC 792), of ICMPv6 types 128 and 129
-- (RFC 4443, section 4)
abbrev pub IsEcho4 : List ℕ → Type 0
IsEcho4 message = ((octet message 0 ≡ 8) ⊎ (octet message 0 ≡ 0)) × (octet message 1 ≡ 0)

abbrev pub IsEcho6 : List ℕ → Type 0
IsEcho6 message = ((octet message 0 ≡ 128) ⊎ (octet message 0 ≡ 129)) × (octet message 1 ≡ 0)

-- the protocol of this number, with this payload, is one that an embedded packet may have: TCP, UDP, or an echo
abbrev pub IsCarried4 : Proto → ℕ → List ℕ → Type 0
IsCarried4 Tcp number payload = number ≡ 6
IsCarried4 Udp number payload = number ≡ 17
IsCarried4 Icmp number payload = (number ≡ 1) × IsEcho4 payload

abbrev pub IsCarried6 : Proto → ℕ → List ℕ → Type 0
IsCarried6 Tcp number payload = number ≡ 6
IsCarried6 Udp number payload = number ≡ 17
IsCarried6 Icmp number payload = (number ≡ 58) × IsEcho6 payload

-- no Fragment Header, or that of a first fragment
abbrev pub IsFirst6 : Option Frag6 → Type 0
IsFirst6 frag = fragment_offset frag ≡ 0

-- the octets begin with this embedded packet; the ports of an echo are both its identifier
pub record IsInner4 (inner : Inner4) (octets : List ℕ) : Type 0 where
  pub header : HasHeader4 inner.head octets
  pub payload : inner.payload ≡ payload_of4 inner.head octets
  pub stands : 8 ≤ length inner.payload
  pub first : inner.head.offset ≡ 0
  pub carried : IsCarried4 inner.proto inner.head.proto inner.payload
  pub ports : inner.ports ≡ (l4_of inner.proto inner.payload).ports

pub record IsInner6 (inner : Inner6) (octets : List ℕ) : Type 0 where
  pub headers : HasHeaders6 inner.head octets
  pub payload : inner.payload ≡ payload_of6 inner.head octets
  pub stands : 8 ≤ length inner.payload
  pub first : IsFirst6 inner.head.frag
  pub carried : IsCarried6 inner.proto inner.head.upper inner.payload
  pub ports : inner.ports ≡ (l4_of inner.proto inner.payload).ports

-- behind this header: fewer than 8 octets up to the declared end, a later fragment, or another protocol
abbrev pub IsBadBehind4 : Head4 → List ℕ → Type 0
IsBadBehind4 h payload =
    (length payload < 8) ⊎ ((h.offset ≢ 0) ⊎ ((proto : Proto) → IsCarried4 proto h.proto payload → ⊥))

abbrev pub IsBadBehind6 : Head6 → List ℕ → Type 0
IsBadBehind6 h payload =
    (length payload < 8) ⊎ ((IsFirst6 h.frag → ⊥) ⊎ ((proto : Proto) → IsCarried6 proto h.upper payload → ⊥))

-- The cause BadInner by these octets alone: no header stands there, or what is behind it is bad. Whether the
-- addresses agree with those of the outer packet is judged elsewhere.
abbrev pub IsBadInner4 : List ℕ → Type 0
IsBadInner4 octets =
    LacksHeader4 octets ⊎ ((h : Head4) × HasHeader4 h octets × IsBadBehind4 h (payload_of4 h octets))

abbrev pub IsBadInner6 : List ℕ → Type 0
IsBadInner6 octets =
    LacksHeaders6 octets ⊎ ((h : Head6) × HasHeaders6 h octets × IsBadBehind6 h (payload_of6 h octets))
