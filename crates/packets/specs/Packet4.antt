-- An IPv4 packet that a node takes: none of those causes, and what it carries.
use Rattle.std.specs.Prelude.{◌≡◌, ◌≢◌, ℕ, false, not, IsTrue, List, Some}
use Rattle.octets.specs.Field.{word}
use Rattle.octets.specs.Protocol.{proto4}
use Rattle.octets.specs.declared.proto.Proto.{Proto}
use Rattle.octets.specs.declared.proto.Proto.TheVariants.{Udp, Icmp}
use Rattle.ip4_packet.specs.declared.head.Head4.{Head4}
use Rattle.ip4_packet.specs.Grammar.{payload_of4, Is4}
use Rattle.ip4_packet.specs.Causes.{HasNoHeaderCause4}
use Rattle.l4_headers.specs.declared.ports.L4.{L4}
use Rattle.l4_headers.specs.Transport.{IsBadTransport, l4_of}
use Rattle.icmp_messages.specs.declared.icmp4.Icmp4.{Icmp4}
use Rattle.icmp_messages.specs.declared.inner4.Inner4.{Inner4}
use Rattle.icmp_messages.specs.Message.{IsIcmp4}
use Rattle.icmp_messages.specs.Inner.{IsInner4}
use Rattle.ip4_packet.specs.Fragment.{is_fragment}
use Rattle.icmp_messages.specs.declared.table.Row.{Row}
use Rattle.icmp_messages.specs.declared.table.Rest.TheVariants.{Query}
use Rattle.icmp_messages.specs.Table.{table46, row_of}
use Rattle.icmp_messages.specs.Extension.{embedded46}
use Rattle.packets.specs.declared.packet4.Content4.{Content4}
use Rattle.packets.specs.declared.packet4.Content4.TheVariants.{Segment, Later, Query as QueryOf, Error}
use Rattle.packets.specs.declared.packet4.Packet4.{Packet4}
use Rattle.packets.specs.Behind4.{IsError4}

-- a whole packet of TCP or UDP, or the first fragment of one, with its transport header
pub record IsSegment4 (h : Head4) (payload : List ℕ) (proto : Proto) (l4 : L4) : Type 0 where
  pub protocol : proto4 h.proto ≡ Some proto
  pub no_icmp : proto ≢ Icmp
  pub first : h.offset ≡ 0
  pub transport : IsBadTransport proto payload (not h.mf) → ⊥
  pub summed : IsTrue h.mf → proto ≡ Udp → word payload 6 ≢ 0
  pub header : l4 ≡ l4_of proto payload

-- a later fragment of one
pub record IsLater4 (h : Head4) (proto : Proto) : Type 0 where
  pub protocol : proto4 h.proto ≡ Some proto
  pub no_icmp : proto ≢ Icmp
  pub later : h.offset ≢ 0

-- a whole ICMP message of this row
pub record IsMessage4 (h : Head4) (payload : List ℕ) (m : Icmp4) (row : Row) : Type 0 where
  pub protocol : h.proto ≡ 1
  pub whole : is_fragment h ≡ false
  pub message : IsIcmp4 m payload
  pub found : row_of table46 m.kind m.code ≡ Some row

-- an error and the packet that it embeds, whose source is where the error goes
pub record IsErrorOf4 (h : Head4) (payload : List ℕ) (m : Icmp4) (row : Row) (inner : Inner4) : Type 0 where
  pub message : IsMessage4 h payload m row
  pub error : IsError4 m row
  pub embedded : IsInner4 inner (embedded46 m)
  pub answers : inner.head.src ≡ h.dst

-- what a packet with this header carries
abbrev pub IsContent4 : Head4 → List ℕ → Content4 → Type 0
IsContent4 h payload (Segment proto l4) = IsSegment4 h payload proto l4
IsContent4 h payload (Later proto) = IsLater4 h proto
IsContent4 h payload (QueryOf message row) = IsMessage4 h payload message row × (row.rest ≡ Query)
IsContent4 h payload (Error message row inner) = IsErrorOf4 h payload message row inner

-- the octets are this packet
pub record IsPacket4 (p : Packet4) (octets : List ℕ) : Type 0 where
  pub is : Is4 p.head (payload_of4 p.head octets) octets
  pub header : HasNoHeaderCause4 octets
  pub unrouted : p.head.routed ≡ false
  pub content : IsContent4 p.head (payload_of4 p.head octets) p.content
