-- For what a node drops an IPv4 packet before it looks at any rule: the causes of its header, and where it has none, what
-- is found behind the header.
use Rattle.std.specs.Prelude.{◌≡◌, ◌≢◌, ℕ, ◌⊎◌, not, IsTrue, List, None, Some}
use Rattle.octets.specs.Cause.{IsLeast}
use Rattle.octets.specs.Field.{word}
use Rattle.octets.specs.Protocol.{proto4}
use Rattle.octets.specs.declared.cause.Cause.{Cause}
use Rattle.octets.specs.declared.cause.Cause.TheVariants.{SourceRoute, UnsupportedProtocol, IcmpFragment, BadTransport, IcmpSum, IcmpKind, BadInner, NoUdpSum}
use Rattle.octets.specs.declared.proto.Proto.{Proto}
use Rattle.ip4_packet.specs.declared.head.Head4.{Head4}
use Rattle.ip4_packet.specs.Grammar.{payload_of4, Is4}
use Rattle.ip4_packet.specs.Causes.{HasNoHeaderCause4, IsCause4}
use Rattle.l4_headers.specs.Transport.{IsBadTransport}
use Rattle.icmp_messages.specs.declared.icmp4.Icmp4.{Icmp4}
use Rattle.icmp_messages.specs.declared.inner4.Inner4.{Inner4}
use Rattle.icmp_messages.specs.Message.{IsIcmp4, IsWrongSum4}
use Rattle.icmp_messages.specs.Inner.{IsInner4, IsBadInner4}
use Rattle.ip4_packet.specs.Fragment.{is_fragment}
use Rattle.icmp_messages.specs.declared.table.Row.{Row}
use Rattle.icmp_messages.specs.declared.table.Rest.TheVariants.{Query}
use Rattle.icmp_messages.specs.Table.{table46, row_of}
use Rattle.icmp_messages.specs.Rows.{HasNoRow46}
use Rattle.icmp_messages.specs.Extension.{embedded46}

-- the message is an error: it has a row, which isn't that of a query
pub record IsError4 (m : Icmp4) (row : Row) : Type 0 where
  pub found : row_of table46 m.kind m.code ≡ Some row
  pub translated : HasNoRow46 m → ⊥
  pub no_query : row.rest ≢ Query

-- the error embeds no packet, or one that didn't come from where the error goes to: its source isn't the destination of the
-- error
abbrev pub IsBadEmbedded4 : Head4 → Icmp4 → Type 0
IsBadEmbedded4 h m =
    IsBadInner4 (embedded46 m) ⊎ ((inner : Inner4) × IsInner4 inner (embedded46 m) × (inner.head.src ≢ h.dst))

-- what is found behind a header, by cause
abbrev pub Behind4 : Head4 → List ℕ → Cause → Type 0
Behind4 h payload SourceRoute = IsTrue h.routed
Behind4 h payload UnsupportedProtocol = proto4 h.proto ≡ None
Behind4 h payload IcmpFragment = (h.proto ≡ 1) × IsTrue (is_fragment h)
Behind4 h payload BadTransport =
    (h.offset ≡ 0) × ((proto : Proto) × (proto4 h.proto ≡ Some proto) × IsBadTransport proto payload (not h.mf))
Behind4 h payload IcmpSum = (h.proto ≡ 1) × IsWrongSum4 payload
Behind4 h payload IcmpKind = (h.proto ≡ 1) × ((m : Icmp4) × IsIcmp4 m payload × HasNoRow46 m)
Behind4 h payload BadInner =
    (h.proto ≡ 1) × ((m : Icmp4) × (row : Row) × IsIcmp4 m payload × IsError4 m row × IsBadEmbedded4 h m)
Behind4 h payload NoUdpSum = (h.proto ≡ 17) × (h.offset ≡ 0) × IsTrue h.mf × (word payload 6 ≡ 0)
Behind4 h payload _ = ⊥

-- the cause of an IPv4 packet is the least: of its header, and else of what is behind it
abbrev pub IsFoundBehind4 : Cause → List ℕ → Type 0
IsFoundBehind4 cause octets =
    (h : Head4) × Is4 h (payload_of4 h octets) octets × HasNoHeaderCause4 octets × IsLeast (Behind4 h (payload_of4 h octets)) cause

abbrev pub IsDropped4 : Cause → List ℕ → Type 0
IsDropped4 cause octets = IsCause4 cause octets ⊎ IsFoundBehind4 cause octets
