-- A TCP or UDP packet of IPv4 translated to IPv6 as a whole: its header by the table of headers, its ports
-- replaced, its sum changed with them (RFC 7915, sections 4.1 and 4.5).
use Rattle.std.specs.Prelude.{◌≡◌, ◌≢◌, ℕ, ◌+◌, ◌<◌, ◌≤◌, ◌↔◌, Bool, false, not, IsTrue, ◌&&◌, ◌==◌, if◌then◌else◌, List, length, Option, None, Some, IsSome}
use Rattle.octets.specs.Field.{word, in_quad, in_sixteen}
use Rattle.octets.specs.Protocol.{proto4}
use Rattle.octets.specs.declared.address.Addr6.{Addr6}
use Rattle.octets.specs.declared.proto.Proto.{Proto}
use Rattle.octets.specs.declared.proto.Proto.TheVariants.{Tcp, Udp, Icmp}
use Rattle.inet_sum.specs.Sum.{words}
use Rattle.ip4_packet.specs.declared.head.Head4.{Head4}
use Rattle.ip4_packet.specs.Grammar.{Is4}
use Rattle.ip4_packet.specs.Causes.{HasNoHeaderCause4}
use Rattle.ip6_packet.specs.Written.{written6}
use Rattle.l4_headers.specs.declared.ports.Ports.{Ports}
use Rattle.l4_headers.specs.Transport.{IsBadTransport, l4_of, with_l4}
use Rattle.l4_headers.specs.PseudoHeader.{pseudo_header6}
use Rattle.l4_headers.specs.Readdressed.{readdressed_sum, computed_udp_sum}
use Rattle.xlat46.specs.Head.{translated}
use Rattle.ip4_packet.specs.Fragment.{is_fragment}

-- a packet as it was read: its header, its transport protocol, and its payload
pub record Parts4 : Type 0 where
  pub head : Head4
  pub proto : Proto
  pub payload : List ℕ

-- The packet is carried: it is one of TCP or UDP without an unspent source route; a whole packet or a first
-- fragment has a transport header, which in a whole packet agrees with the payload; and a first fragment of
-- UDP has a sum, which no fragment alone could compute.
pub record IsCarried4 (p : Parts4) : Type 0 where
  pub protocol : proto4 p.head.proto ≡ Some p.proto
  pub no_icmp : p.proto ≢ Icmp
  pub unrouted : p.head.routed ≡ false
  pub transport : p.head.offset ≡ 0 → IsBadTransport p.proto p.payload (not p.head.mf) → ⊥
  pub summed : p.head.offset ≡ 0 → IsTrue p.head.mf → p.proto ≡ Udp → word p.payload 6 ≢ 0

-- The octets are a packet of these parts that has none of the causes for which a TCP or UDP packet of IPv4 is
-- dropped before it is translated.
pub record HasNoTcpUdpCause4 (p : Parts4) (octets : List ℕ) : Type 0 where
  pub is : Is4 p.head p.payload octets
  pub header : HasNoHeaderCause4 octets
  pub carried : IsCarried4 p

-- the sum of the words of both addresses, before and after
abbrev pub addresses_before : Head4 → ℕ
addresses_before old = words (in_quad old.src.0) + words (in_quad old.dst.0)

abbrev pub addresses_after : Addr6 → Addr6 → ℕ
addresses_after src dst = words (in_sixteen src.0) + words (in_sixteen dst.0)

-- a whole UDP packet with sum 0 has none, which IPv4 allows and IPv6 doesn't (RFC 768; RFC 8200, section 8.1)
abbrev pub lacks_sum : Proto → Bool → ℕ → Bool
lacks_sum Tcp fragment sum = false
lacks_sum Udp fragment sum = not fragment && sum == 0
lacks_sum Icmp fragment sum = false

abbrev pub has_no_sum : Parts4 → Bool
has_no_sum p = lacks_sum p.proto (is_fragment p.head) (l4_of p.proto p.payload).sum

-- The sum of a packet with these ports: computed where there was none, and else changed by the words of both
-- addresses and both ports.
abbrev pub sum46 : Parts4 → Addr6 → Addr6 → Ports → ℕ
sum46 p src dst ports =
    if has_no_sum p
    then computed_udp_sum (words (pseudo_header6 src dst 17 (length p.payload))) p.payload ports
    else readdressed_sum p.proto (l4_of p.proto p.payload) (addresses_before p.head) (addresses_after src dst) ports

-- The payload with its new ports and that sum. A later fragment has none of them, and its payload stays as it is.
abbrev pub payload46 : Parts4 → Addr6 → Addr6 → Option Ports → List ℕ
payload46 p src dst None = p.payload
payload46 p src dst (Some ports) = with_l4 p.proto p.payload ports (sum46 p src dst ports)

-- the packet in the one form that is written
abbrev pub packet46 : Parts4 → Addr6 → Addr6 → Option Ports → List ℕ
packet46 p src dst ports = written6 (translated p.head src dst) (payload46 p src dst ports)

-- ports are given exactly to a packet that has some: to all but a later fragment
abbrev pub HasPorts : Head4 → Option Ports → Type 0
HasPorts head ports = IsSome ports ↔ (head.offset ≡ 0)

-- ports are numbers of 16 bits
abbrev pub ArePorts : Ports → Type 0
ArePorts ports = (ports.src < 65536) × (ports.dst < 65536)

-- what is translated: a packet with none of those causes and a TTL of at least 2, with ports unless it is a later
-- fragment
pub record IsAccepted46 (octets : List ℕ) (ports : Option Ports) : Type 0 where
  pub parts : Parts4
  pub sound : HasNoTcpUdpCause4 parts octets
  pub alive : 2 ≤ parts.head.ttl
  pub with_ports : HasPorts parts.head ports
