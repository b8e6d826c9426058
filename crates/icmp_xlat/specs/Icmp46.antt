-- An ICMPv4 packet translated to ICMPv6 (after RFC 7915, sections 4.2 and 4.3). Sums are made anew.
use Rattle.std.specs.Prelude.{◌≡◌, ℕ, ◌+◌, ◌*◌, ◌/◌, ◌%◌, ◌^◌, ◌≤◌, ◌⊎◌, false, List, length, take, Option, Some, None, Result, Err, IfOk, IfErr, IsErr}
use Rattle.octets.specs.declared.address.Addr6.{Addr6}
use Rattle.octets.specs.declared.mtus.Mtus.{Mtus}
use Rattle.octets.specs.declared.cause.Cause.TheVariants.{IcmpKind}
use Rattle.octets.specs.declared.cause.Fault.{Fault}
use Rattle.octets.specs.declared.cause.Fault.TheVariants.{Drop, NoMemory}
use Rattle.ip4_packet.specs.declared.head.Head4.{Head4}
use Rattle.ip4_packet.specs.Grammar.{payload_of4, Is4}
use Rattle.ip4_packet.specs.Causes.{HasNoHeaderCause4}
use Rattle.ip6_packet.specs.Written.{written6}
use Rattle.icmp_messages.specs.declared.icmp4.Icmp4.{Icmp4}
use Rattle.icmp_messages.specs.declared.icmp6.Icmp6.{Icmp6}
use Rattle.icmp_messages.specs.declared.inner4.Inner4.{Inner4}
use Rattle.icmp_messages.specs.Message.{IsIcmp4, message6}
use Rattle.icmp_messages.specs.Inner.{IsInner4}
use Rattle.xlat46.specs.Head.{translated}
use Rattle.ip4_packet.specs.Fragment.{is_fragment}
use Rattle.l4_headers.specs.declared.ends.Ends.{Ends}
use Rattle.icmp_messages.specs.declared.table.Row.{Row}
use Rattle.icmp_messages.specs.declared.table.Rest.{Rest}
use Rattle.icmp_messages.specs.declared.table.Rest.TheVariants.{Query, Zero, Protocol, Mtu, Pointer}
use Rattle.icmp_messages.specs.Table.{table46, row_of, pointers46, pointer_of}
use Rattle.icmp_messages.specs.Extension.{embedded46}
use Rattle.icmp_messages.specs.Rows.{HasNoRow46, MayEmbed46}
use Rattle.icmp_xlat.specs.Mtu.{mtu46}
use Rattle.icmp_xlat.specs.Inner.{inner46}

-- The four octets behind the sum of an error: 0 but for the pointer (RFC 4443, section 3.4) and the MTU (section
-- 3.2). The pointer to the IPv4 protocol field is one to the next header, octet 6. `total` is the declared length
-- of the embedded packet; ICMPv4 has its pointer in the first of the four octets and its MTU in the last two.
abbrev pub rest46 : Mtus → ℕ → ℕ → Rest → Option ℕ
rest46 mtus total rest Query = None
rest46 mtus total rest Zero = Some 0
rest46 mtus total rest Protocol = Some 6
rest46 mtus total rest Mtu = Some (mtu46 mtus total (rest % 2 ^ 16))
rest46 mtus total rest Pointer = pointer_of pointers46 (rest / 2 ^ 24)

-- a query: its identifier becomes the source port, its sequence and data stay
abbrev pub query46 : Icmp4 → Row → Ends Addr6 → Icmp6
query46 m row ends =
    record { kind = row.to_kind; code = row.to_code; rest = ends.ports.src * 2 ^ 16 + m.rest % 2 ^ 16; body = m.body }

-- an error about this embedded packet, of which so much is kept that the whole has at most 1280 octets, 48 of them
-- in front of it (RFC 4443, section 2.4)
abbrev pub error46 : Row → ℕ → Inner4 → Ends Addr6 → Icmp6
error46 row rest inner ends =
    record { kind = row.to_kind; code = row.to_code; rest = rest; body = take 1232 (inner46 inner ends) }

-- the packet with this message: the header by the table of headers, with the length of the message
abbrev pub with_message46 : Head4 → Icmp6 → Ends Addr6 → List ℕ
with_message46 head m ends =
    written6 (record (translated head ends.src ends.dst) { length = 8 + length m.body }) (message6 ends.src ends.dst m)

-- the octets are an ICMPv4 packet of this header and message, that has none of the causes for which it is dropped
-- but perhaps that it has no translation
pub record IsMessage46 (head : Head4) (m : Icmp4) (octets : List ℕ) : Type 0 where
  pub is : Is4 head (payload_of4 head octets) octets
  pub header : HasNoHeaderCause4 octets
  pub protocol : head.proto ≡ 1
  pub unrouted : head.routed ≡ false
  pub whole : is_fragment head ≡ false
  pub message : IsIcmp4 m (payload_of4 head octets)

-- The answer to a packet of this header and message. A query and an error are answered by the packet with their
-- translated message; IcmpKind comes exactly where a message has no translation, but for want of memory.
pub record IsAnswer46 (mtus : Mtus) (head : Head4) (m : Icmp4) (ends : Ends Addr6) (result : Result (List ℕ) Fault) : Type 0 where
  pub query : (row : Row) → row_of table46 m.kind m.code ≡ Some row → row.rest ≡ Query
      → IfOk result (λ octets. octets ≡ with_message46 head (query46 m row ends) ends)
  pub error : (row : Row) (inner : Inner4) (rest : ℕ) → row_of table46 m.kind m.code ≡ Some row → IsInner4 inner (embedded46 m)
      → rest46 mtus inner.head.total m.rest row.rest ≡ Some rest
      → IfOk result (λ octets. octets ≡ with_message46 head (error46 row rest inner ends) ends)
  pub refused : result ≡ Err (Drop IcmpKind) → HasNoRow46 m
  pub lacking : HasNoRow46 m → IsErr result
  pub no_other : IfErr result (λ fault. (fault ≡ Drop IcmpKind) ⊎ (fault ≡ NoMemory))

-- what is translated or has no translation: an ICMPv4 packet as above with a TTL of at least 2, whose embedded packet can
-- be read where it has a translation
pub record IsAccepted46 (octets : List ℕ) : Type 0 where
  pub head : Head4
  pub message : Icmp4
  pub is : IsMessage46 head message octets
  pub alive : 2 ≤ head.ttl
  pub embeds : MayEmbed46 message
