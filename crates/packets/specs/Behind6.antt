-- For what a node drops an IPv6 packet before it looks at any rule: the causes of its headers, and where it has none, what
-- is found behind them.
use Rattle.std.specs.Prelude.{◌≡◌, ◌≢◌, ℕ, ◌⊎◌, not, Bool, IsTrue, List, None, Some, IsSome}
use Rattle.octets.specs.Cause.{IsLeast}
use Rattle.octets.specs.Field.{word}
use Rattle.octets.specs.Protocol.{proto6}
use Rattle.octets.specs.declared.cause.Cause.{Cause}
use Rattle.octets.specs.declared.cause.Cause.TheVariants.{SourceRoute, UnsupportedProtocol, IcmpFragment, BadTransport, IcmpSum, IcmpKind, BadInner, NoUdpSum}
use Rattle.octets.specs.declared.proto.Proto.{Proto}
use Rattle.ip6_packet.specs.declared.head.Head6.{Head6}
use Rattle.ip6_packet.specs.Fragment.{fragment_offset, more_fragments, IsFragment6}
use Rattle.ip6_packet.specs.Grammar.{payload_of6, Is6}
use Rattle.ip6_packet.specs.Causes.{HasNoHeaderCause6, IsCause6}
use Rattle.l4_headers.specs.Transport.{IsBadTransport}
use Rattle.icmp_messages.specs.declared.icmp6.Icmp6.{Icmp6}
use Rattle.icmp_messages.specs.declared.inner6.Inner6.{Inner6}
use Rattle.icmp_messages.specs.Message.{IsIcmp6, IsWrongSum6}
use Rattle.icmp_messages.specs.Inner.{IsInner6, IsBadInner6}
use Rattle.icmp_messages.specs.declared.table.Row.{Row}
use Rattle.icmp_messages.specs.declared.table.Rest.TheVariants.{Query}
use Rattle.icmp_messages.specs.Table.{table64, row_of}
use Rattle.icmp_messages.specs.Rows.{HasNoRow64}
use Rattle.icmp_messages.specs.Extension.{embedded64}

-- the message is an error: it has a row, which isn't that of a query
pub record IsError6 (m : Icmp6) (row : Row) : Type 0 where
  pub found : row_of table64 m.kind m.code ≡ Some row
  pub translated : HasNoRow64 m → ⊥
  pub no_query : row.rest ≢ Query

-- The embedded packet came from where the error goes to: its source is the destination of the error. At the relay, to
-- which errors come only from the two ends of a flow, it also went to where the error comes from.
pub record IsAnswered6 (at_relay : Bool) (h : Head6) (inner : Inner6) : Type 0 where
  pub back : inner.head.src ≡ h.dst
  pub from_end : IsTrue at_relay → inner.head.dst ≡ h.src

-- the error embeds no packet, or another one
abbrev pub IsBadEmbedded6 : Bool → Head6 → Icmp6 → Type 0
IsBadEmbedded6 at_relay h m =
    IsBadInner6 (embedded64 m) ⊎ ((inner : Inner6) × IsInner6 inner (embedded64 m) × (IsAnswered6 at_relay h inner → ⊥))

-- what is found behind the headers, by cause
abbrev pub Behind6 : Bool → Head6 → List ℕ → Cause → Type 0
Behind6 at_relay h payload SourceRoute = IsSome h.left
Behind6 at_relay h payload UnsupportedProtocol = proto6 h.upper ≡ None
Behind6 at_relay h payload IcmpFragment = (h.upper ≡ 58) × IsFragment6 h
Behind6 at_relay h payload BadTransport =
    (fragment_offset h.frag ≡ 0)
    × ((proto : Proto) × (proto6 h.upper ≡ Some proto) × IsBadTransport proto payload (not (more_fragments h.frag)))
Behind6 at_relay h payload IcmpSum = (h.upper ≡ 58) × IsWrongSum6 h.src h.dst payload
Behind6 at_relay h payload IcmpKind = (h.upper ≡ 58) × ((m : Icmp6) × IsIcmp6 h.src h.dst m payload × HasNoRow64 m)
Behind6 at_relay h payload BadInner =
    (h.upper ≡ 58) × ((m : Icmp6) × (row : Row) × IsIcmp6 h.src h.dst m payload × IsError6 m row × IsBadEmbedded6 at_relay h m)
Behind6 at_relay h payload NoUdpSum = (h.upper ≡ 17) × (fragment_offset h.frag ≡ 0) × (word payload 6 ≡ 0)
Behind6 at_relay h payload _ = ⊥

-- the cause of an IPv6 packet is the least: of its headers, and else of what is behind them
abbrev pub IsFoundBehind6 : Bool → Cause → List ℕ → Type 0
IsFoundBehind6 at_relay cause octets =
    (h : Head6)
    × Is6 h (payload_of6 h octets) octets
    × HasNoHeaderCause6 octets
    × IsLeast (Behind6 at_relay h (payload_of6 h octets)) cause

abbrev pub IsDropped6 : Bool → Cause → List ℕ → Type 0
IsDropped6 at_relay cause octets = IsCause6 cause octets ⊎ IsFoundBehind6 at_relay cause octets
