-- A TCP or UDP packet of IPv6 translated to IPv4 as a whole: its header by the table of headers, its ports
-- replaced, its sum changed with them (RFC 7915, sections 5.1 and 5.5).
use Rattle.std.specs.Prelude.{◌≡◌, ◌≢◌, ℕ, ◌+◌, ◌<◌, ◌≤◌, ◌↔◌, not, List, Option, None, Some, IsSome}
use Rattle.octets.specs.Field.{word, in_quad, in_sixteen}
use Rattle.octets.specs.Protocol.{proto6}
use Rattle.octets.specs.declared.address.Addr4.{Addr4}
use Rattle.octets.specs.declared.proto.Proto.{Proto}
use Rattle.octets.specs.declared.proto.Proto.TheVariants.{Udp, Icmp}
use Rattle.inet_sum.specs.Sum.{words}
use Rattle.ip4_packet.specs.Written.{written4}
use Rattle.ip6_packet.specs.declared.head.Head6.{Head6}
use Rattle.ip6_packet.specs.Grammar.{Is6}
use Rattle.ip6_packet.specs.Causes.{HasNoHeaderCause6}
use Rattle.l4_headers.specs.declared.ports.Ports.{Ports}
use Rattle.l4_headers.specs.Transport.{IsBadTransport, l4_of, with_l4}
use Rattle.l4_headers.specs.Readdressed.{readdressed_sum}
use Rattle.ip6_packet.specs.Fragment.{more_fragments, fragment_offset}
use Rattle.xlat64.specs.Head.{translated}

-- a packet as it was read: its headers, its transport protocol, and its payload
pub record Parts6 : Type 0 where
  pub head : Head6
  pub proto : Proto
  pub payload : List ℕ

-- it is a later fragment exactly where this isn't 0
abbrev pub offset_of : Parts6 → ℕ
offset_of p = fragment_offset p.head.frag

-- The packet is carried: it is one of TCP or UDP with no segments left; one that is no later fragment has a
-- transport header, which in a whole packet agrees with the payload, and a sum if it is one of UDP, which IPv6
-- asks for (RFC 8200, section 8.1).
pub record IsCarried6 (p : Parts6) : Type 0 where
  pub protocol : proto6 p.head.upper ≡ Some p.proto
  pub no_icmp : p.proto ≢ Icmp
  pub unrouted : p.head.left ≡ None
  pub transport : offset_of p ≡ 0 → IsBadTransport p.proto p.payload (not (more_fragments p.head.frag)) → ⊥
  pub summed : offset_of p ≡ 0 → p.proto ≡ Udp → word p.payload 6 ≢ 0

-- The octets are a packet of these parts that has none of the causes for which a TCP or UDP packet of IPv6 is
-- dropped before it is translated.
pub record HasNoTcpUdpCause6 (p : Parts6) (octets : List ℕ) : Type 0 where
  pub is : Is6 p.head p.payload octets
  pub header : HasNoHeaderCause6 octets
  pub carried : IsCarried6 p

-- the sum of the words of both addresses, before and after
abbrev pub addresses_before : Head6 → ℕ
addresses_before old = words (in_sixteen old.src.0) + words (in_sixteen old.dst.0)

abbrev pub addresses_after : Addr4 → Addr4 → ℕ
addresses_after src dst = words (in_quad src.0) + words (in_quad dst.0)

-- the sum of a packet with these ports, changed by the words of both addresses and both ports
abbrev pub sum64 : Parts6 → Addr4 → Addr4 → Ports → ℕ
sum64 p src dst ports =
    readdressed_sum p.proto (l4_of p.proto p.payload) (addresses_before p.head) (addresses_after src dst) ports

-- The payload with its new ports and that sum. A later fragment has none of them, and its payload stays as it is.
abbrev pub payload64 : Parts6 → Addr4 → Addr4 → Option Ports → List ℕ
payload64 p src dst None = p.payload
payload64 p src dst (Some ports) = with_l4 p.proto p.payload ports (sum64 p src dst ports)

-- the packet in the one form that is written; `id` is the identification of a packet without a Fragment Header
abbrev pub packet64 : Parts6 → Addr4 → Addr4 → Option Ports → ℕ → List ℕ
packet64 p src dst ports id = written4 (translated p.head src dst id) (payload64 p src dst ports)

-- ports are given exactly to a packet that has some: to all but a later fragment
abbrev pub HasPorts : Head6 → Option Ports → Type 0
HasPorts head ports = IsSome ports ↔ (fragment_offset head.frag ≡ 0)

-- ports are numbers of 16 bits
abbrev pub ArePorts : Ports → Type 0
ArePorts ports = (ports.src < 65536) × (ports.dst < 65536)

-- what is translated: a packet with none of those causes and a hop limit of at least 2, whose upper payload fits
-- IPv4, with ports unless it is a later fragment
pub record IsAccepted64 (octets : List ℕ) (ports : Option Ports) : Type 0 where
  pub parts : Parts6
  pub sound : HasNoTcpUdpCause6 parts octets
  pub alive : 2 ≤ parts.head.hop
  pub fits : parts.head.length ≤ 65515
  pub with_ports : HasPorts parts.head ports
