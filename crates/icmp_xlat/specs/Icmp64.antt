-- An ICMPv6 packet translated to ICMPv4 (after RFC 7915, sections 5.2 and 5.3). Sums are made anew.
use Rattle.std.specs.Prelude.{◌≡◌, ℕ, ◌+◌, ◌*◌, ◌%◌, ◌^◌, ◌≤◌, ◌⊎◌, false, List, length, Option, Some, None, Result, Err, IfOk, IfErr, IsErr}
use Rattle.std.specs.Option.{option_map}
use Rattle.octets.specs.declared.address.Addr4.{Addr4}
use Rattle.octets.specs.declared.mtus.Mtus.{Mtus}
use Rattle.octets.specs.declared.cause.Cause.TheVariants.{IcmpKind}
use Rattle.octets.specs.declared.cause.Fault.{Fault}
use Rattle.octets.specs.declared.cause.Fault.TheVariants.{Drop, NoMemory}
use Rattle.ip4_packet.specs.Written.{written4}
use Rattle.ip6_packet.specs.declared.head.Head6.{Head6}
use Rattle.ip6_packet.specs.Grammar.{payload_of6, Is6}
use Rattle.ip6_packet.specs.Causes.{HasNoHeaderCause6}
use Rattle.ip6_packet.specs.Fragment.{more_fragments, fragment_offset}
use Rattle.icmp_messages.specs.declared.icmp4.Icmp4.{Icmp4}
use Rattle.icmp_messages.specs.declared.icmp6.Icmp6.{Icmp6}
use Rattle.icmp_messages.specs.declared.inner6.Inner6.{Inner6}
use Rattle.icmp_messages.specs.Message.{IsIcmp6, message4}
use Rattle.icmp_messages.specs.Inner.{IsEcho6, IsInner6}
use Rattle.xlat64.specs.Head.{translated}
use Rattle.l4_headers.specs.declared.ends.Ends.{Ends}
use Rattle.icmp_messages.specs.declared.table.Row.{Row}
use Rattle.icmp_messages.specs.declared.table.Rest.{Rest}
use Rattle.icmp_messages.specs.declared.table.Rest.TheVariants.{Query, Zero, Protocol, Mtu, Pointer}
use Rattle.icmp_messages.specs.Table.{table64, row_of, pointers64, pointer_of}
use Rattle.icmp_xlat.specs.declared.passing.Passing.{Passing}
use Rattle.icmp_messages.specs.Extension.{embedded64}
use Rattle.icmp_messages.specs.Rows.{HasNoRow64, MayEmbed64}
use Rattle.icmp_xlat.specs.Mtu.{mtu64}
use Rattle.icmp_xlat.specs.Inner.{inner64}

-- The four octets behind the sum of an error: 0 but for the pointer, which has the first of them (RFC 792), and the
-- MTU, which has the last two (RFC 1191, section 4).
abbrev pub rest64 : Mtus → ℕ → Rest → Option ℕ
rest64 mtus rest Query = None
rest64 mtus rest Zero = Some 0
rest64 mtus rest Protocol = Some 0
rest64 mtus rest Mtu = Some (mtu64 mtus rest)
rest64 mtus rest Pointer = option_map (λ pointer. pointer * 2 ^ 24) (pointer_of pointers64 rest)

-- a query: its identifier becomes the source port, its sequence and data stay
abbrev pub query64 : Icmp6 → Row → Ends Addr4 → Icmp4
query64 m row ends =
    record { kind = row.to_kind; code = row.to_code; rest = ends.ports.src * 2 ^ 16 + m.rest % 2 ^ 16; body = m.body }

-- an error about this embedded packet
abbrev pub error64 : Row → ℕ → Inner6 → Ends Addr4 → Icmp4
error64 row rest inner ends =
    record { kind = row.to_kind; code = row.to_code; rest = rest; body = inner64 inner ends }

-- the packet with this message: the header by the table of headers, with the length of the message
abbrev pub with_message64 : Head6 → Icmp4 → Ends Addr4 → ℕ → List ℕ
with_message64 head m ends id =
    written4 (translated (record head { length = 8 + length m.body }) ends.src ends.dst id) (message4 m)

-- the octets are an ICMPv6 packet of these headers and this message, that has none of the causes for which it is
-- dropped but perhaps that it has no translation
pub record IsMessage64 (head : Head6) (m : Icmp6) (octets : List ℕ) : Type 0 where
  pub is : Is6 head (payload_of6 head octets) octets
  pub header : HasNoHeaderCause6 octets
  pub protocol : head.upper ≡ 58
  pub unrouted : head.left ≡ None
  pub offset : fragment_offset head.frag ≡ 0
  pub whole : more_fragments head.frag ≡ false
  pub message : IsIcmp6 head.src head.dst m (payload_of6 head octets)

-- The answer to a packet of these headers and this message. A query and an error are answered by the packet with their
-- translated message; IcmpKind comes exactly where a message has no translation, but for want of memory.
pub record IsAnswer64 (by : Passing Addr4) (head : Head6) (m : Icmp6) (result : Result (List ℕ) Fault) : Type 0 where
  pub query : (row : Row) → row_of table64 m.kind m.code ≡ Some row → row.rest ≡ Query
      → IfOk result (λ octets. octets ≡ with_message64 head (query64 m row by.ends) by.ends by.id)
  pub error : (row : Row) (inner : Inner6) (rest : ℕ) → row_of table64 m.kind m.code ≡ Some row → IsInner6 inner (embedded64 m)
      → rest64 by.mtus m.rest row.rest ≡ Some rest
      → IfOk result (λ octets. octets ≡ with_message64 head (error64 row rest inner by.ends) by.ends by.id)
  pub refused : result ≡ Err (Drop IcmpKind) → HasNoRow64 m
  pub lacking : HasNoRow64 m → IsErr result
  pub no_other : IfErr result (λ fault. (fault ≡ Drop IcmpKind) ⊎ (fault ≡ NoMemory))

-- what is translated or has no translation: an ICMPv6 packet as above with a hop limit of at least 2, whose embedded
-- packet can be read where it has a translation; a query, which has code 0, fits IPv4
pub record IsAccepted64 (octets : List ℕ) : Type 0 where
  pub head : Head6
  pub message : Icmp6
  pub is : IsMessage64 head message octets
  pub alive : 2 ≤ head.hop
  pub embeds : MayEmbed64 message
  pub fits : IsEcho6 (payload_of6 head octets) → head.length ≤ 65515
