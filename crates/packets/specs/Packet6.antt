-- An IPv6 packet that a node takes: none of those causes, and what it carries.
use Rattle.std.specs.Prelude.{◌≡◌, ◌≢◌, ℕ, not, Bool, List, None, Some}
use Rattle.octets.specs.Field.{word}
use Rattle.octets.specs.Protocol.{proto6}
use Rattle.octets.specs.declared.proto.Proto.{Proto}
use Rattle.octets.specs.declared.proto.Proto.TheVariants.{Udp, Icmp}
use Rattle.ip6_packet.specs.declared.head.Head6.{Head6}
use Rattle.ip6_packet.specs.Fragment.{fragment_offset, more_fragments, IsFragment6}
use Rattle.ip6_packet.specs.Grammar.{payload_of6, Is6}
use Rattle.ip6_packet.specs.Causes.{HasNoHeaderCause6}
use Rattle.l4_headers.specs.declared.ports.L4.{L4}
use Rattle.l4_headers.specs.Transport.{IsBadTransport, l4_of}
use Rattle.icmp_messages.specs.declared.icmp6.Icmp6.{Icmp6}
use Rattle.icmp_messages.specs.declared.inner6.Inner6.{Inner6}
use Rattle.icmp_messages.specs.Message.{IsIcmp6}
use Rattle.icmp_messages.specs.Inner.{IsInner6}
use Rattle.icmp_messages.specs.declared.table.Row.{Row}
use Rattle.icmp_messages.specs.declared.table.Rest.TheVariants.{Query}
use Rattle.icmp_messages.specs.Table.{table64, row_of}
use Rattle.icmp_messages.specs.Extension.{embedded64}
use Rattle.packets.specs.declared.packet6.Content6.{Content6}
use Rattle.packets.specs.declared.packet6.Content6.TheVariants.{Segment, Later, Query as QueryOf, Error}
use Rattle.packets.specs.declared.packet6.Packet6.{Packet6}
use Rattle.packets.specs.Behind6.{IsError6, IsAnswered6}

-- a whole packet of TCP or UDP, or the first fragment of one, with its transport header
pub record IsSegment6 (h : Head6) (payload : List ℕ) (proto : Proto) (l4 : L4) : Type 0 where
  pub protocol : proto6 h.upper ≡ Some proto
  pub no_icmp : proto ≢ Icmp
  pub first : fragment_offset h.frag ≡ 0
  pub transport : IsBadTransport proto payload (not (more_fragments h.frag)) → ⊥
  pub summed : proto ≡ Udp → word payload 6 ≢ 0
  pub header : l4 ≡ l4_of proto payload

-- a later fragment of one
pub record IsLater6 (h : Head6) (proto : Proto) : Type 0 where
  pub protocol : proto6 h.upper ≡ Some proto
  pub no_icmp : proto ≢ Icmp
  pub later : fragment_offset h.frag ≢ 0

-- a whole ICMPv6 message of this row
pub record IsMessage6 (h : Head6) (payload : List ℕ) (m : Icmp6) (row : Row) : Type 0 where
  pub protocol : h.upper ≡ 58
  pub whole : IsFragment6 h → ⊥
  pub message : IsIcmp6 h.src h.dst m payload
  pub found : row_of table64 m.kind m.code ≡ Some row

-- an error and the packet that it embeds
pub record IsErrorOf6 (at_relay : Bool) (h : Head6) (payload : List ℕ) (m : Icmp6) (row : Row) (inner : Inner6) : Type 0 where
  pub message : IsMessage6 h payload m row
  pub error : IsError6 m row
  pub embedded : IsInner6 inner (embedded64 m)
  pub answers : IsAnswered6 at_relay h inner

-- what a packet with these headers carries
abbrev pub IsContent6 : Bool → Head6 → List ℕ → Content6 → Type 0
IsContent6 at_relay h payload (Segment proto l4) = IsSegment6 h payload proto l4
IsContent6 at_relay h payload (Later proto) = IsLater6 h proto
IsContent6 at_relay h payload (QueryOf message row) = IsMessage6 h payload message row × (row.rest ≡ Query)
IsContent6 at_relay h payload (Error message row inner) = IsErrorOf6 at_relay h payload message row inner

-- the octets are this packet
pub record IsPacket6 (at_relay : Bool) (p : Packet6) (octets : List ℕ) : Type 0 where
  pub is : Is6 p.head (payload_of6 p.head octets) octets
  pub header : HasNoHeaderCause6 octets
  pub unrouted : p.head.left ≡ None
  pub content : IsContent6 at_relay p.head (payload_of6 p.head octets) p.content
