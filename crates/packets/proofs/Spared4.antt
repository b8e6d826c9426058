-- A packet that carries something has none of the causes behind its header.
use Rattle.std.proofs.Common.{◌≡◌, ◌≤◌, ℕ, List, false, arith, sym, ◌∙◌, refl, ap, Some, inl, inr, length, subst}
use Rattle.std.specs.Prelude.{Result, Ok, Option, Bool, not}
use Rattle.std.proofs.lemmas.Grind.{common_steps}
use Rattle.octets.specs.Cause.{IsLeast}
use Rattle.octets.specs.Protocol.{proto4}
use Rattle.octets.specs.declared.cause.Cause.{Cause}
use Rattle.octets.specs.declared.cause.Cause.TheVariants.{SourceRoute, UnsupportedProtocol, IcmpFragment, BadTransport, IcmpSum, IcmpKind, BadInner, NoUdpSum}
use Rattle.octets.specs.declared.cause.Fault.{Fault}
use Rattle.octets.specs.declared.cause.Fault.TheVariants.{Drop, NoMemory}
use Rattle.octets.specs.declared.proto.Proto.{Proto}
use Rattle.octets.specs.declared.proto.Proto.TheVariants.{Tcp, Udp, Icmp}
use Rattle.ip4_packet.specs.declared.head.Head4.{Head4}
use Rattle.icmp_messages.specs.declared.icmp4.Icmp4.{Icmp4}
use Rattle.icmp_messages.specs.declared.inner4.Inner4.{Inner4}
use Rattle.icmp_messages.specs.Message.{IsIcmp4}
use Rattle.icmp_messages.specs.Inner.{IsInner4, IsBadInner4, IsCarried4, IsBadBehind4}
use Rattle.icmp_messages.specs.declared.table.Row.{Row}
use Rattle.icmp_messages.specs.Rows.{HasNoRow46, LacksPointer46}
use Rattle.icmp_messages.specs.Extension.{embedded46}
use Rattle.icmp_messages.specs.declared.table.Rest.TheVariants.{Query as QueryRest, Pointer}
use Rattle.icmp_messages.specs.Table.{table46, row_of}
use Rattle.ip4_packet.specs.Embedded.{HasHeader4, LacksHeader4}
use Rattle.ip4_packet.specs.Grammar.{payload_of4}
use Rattle.l4_headers.specs.Transport.{IsBadTransport}
use Rattle.packets.specs.declared.packet4.Content4.{Content4}
use Rattle.packets.specs.declared.packet4.Content4.TheVariants.{Segment, Later, Query, Error}
use Rattle.packets.specs.declared.packet4.Packet4.{Packet4}
use Rattle.packets.specs.Behind4.{Behind4, IsError4, IsBadEmbedded4}
use Rattle.packets.specs.Packet4.{IsContent4, IsMessage4}

-- octets with a header, a payload behind it, and a protocol that is carried have no fault
not_lacking : (h : Head4) (octets : List ℕ) → HasHeader4 h octets → LacksHeader4 octets → ⊥
not_lacking h octets has lacks = grind (arith, common_steps, has.least, has.stands, has.fields.head_len, has.fields.version)

same_header : (g h : Head4) (octets : List ℕ) → HasHeader4 g octets → HasHeader4 h octets → g ≡ h
same_header g h octets a b = grind (arith, common_steps)

fine4 : (h : Head4) (proto : Proto) (payload : List ℕ) → 8 ≤ length payload → h.offset ≡ 0 → IsCarried4 proto h.proto payload → IsBadBehind4 h payload → ⊥
fine4 h proto payload stands first carried (inl short) = omega (arith, stands, short)
fine4 h proto payload stands first carried (inr (inl later)) = later first
fine4 h proto payload stands first carried (inr (inr other)) = other proto carried

not_bad4 : (inner : Inner4) (octets : List ℕ) → IsInner4 inner octets → IsBadInner4 octets → ⊥
not_bad4 inner octets is (inl lacks) = not_lacking inner.head octets is.header lacks
not_bad4 inner octets is (inr (g, other, bad)) =
    let same : g ≡ inner.head = same_header g inner.head octets other is.header in
    fine4 inner.head inner.proto (payload_of4 inner.head octets) (rw is.payload at is.stands) is.first (rw is.payload at is.carried) (rw same at bad)

-- two embedded packets in the same octets have one source
one_source : (one other : Inner4) (octets : List ℕ) → IsInner4 one octets → IsInner4 other octets → one.head.src ≡ other.head.src
one_source one other octets a b = grind (arith, common_steps, a.header.fields.src, b.header.fields.src)

-- two messages in the same octets are one
pub one_message : (m n : Icmp4) (octets : List ℕ) → IsIcmp4 m octets → IsIcmp4 n octets → m ≡ n
one_message m n octets a b = grind (arith, common_steps)

-- the number of ICMP is that of no other protocol
pub icmp_alone : (n : ℕ) (proto : Proto) → n ≡ 1 → proto4 n ≡ Some proto → proto ≡ Icmp
icmp_alone n proto is protocol = grind (arith, common_steps)

pub udp_alone : (n : ℕ) (proto : Proto) → n ≡ 17 → proto4 n ≡ Some proto → proto ≡ Udp
udp_alone n proto is protocol = grind (arith, common_steps)

icmp_is : (n : ℕ) (proto : Proto) → n ≡ 1 → proto4 n ≡ Some proto → proto ≡ Icmp
icmp_is n proto is protocol = icmp_alone n proto is protocol

pub no_bad_message : (payload : List ℕ) {m : Icmp4} (proto : Proto) (whole : Bool) → IsIcmp4 m payload → proto ≡ Icmp → IsBadTransport proto payload whole → ⊥
no_bad_message payload Tcp whole is icmp bad = cc
no_bad_message payload Udp whole is icmp bad = cc
no_bad_message payload Icmp whole is icmp (inl short) = omega (arith, is.stands, short)
no_bad_message payload Icmp whole is icmp (inr bad) = bad.1

pub one_row : (found : Option Row) (one other : Row) → found ≡ Some one → found ≡ Some other → other ≡ one
one_row found one other a b = cc

-- a query has a row
query_has_row : (m : Icmp4) (row : Row) → row_of table46 m.kind m.code ≡ Some row → row.rest ≡ QueryRest → HasNoRow46 m → ⊥
query_has_row m row found query lacks = let l : LacksPointer46 m (Some row) = rw found at lacks in let pointer : row.rest ≡ Pointer = l.0 in cc

-- an embedded packet that is read, and was sent from where the error goes, isn't bad
pub fine_embedded : (h : Head4) (m : Icmp4) (inner : Inner4) → IsInner4 inner (embedded46 m) → inner.head.src ≡ h.dst → IsBadEmbedded4 h m → ⊥
fine_embedded h m inner is answers (inl bad) = not_bad4 inner (embedded46 m) is bad
fine_embedded h m inner is answers (inr (other, has, differs)) = differs (one_source other inner (embedded46 m) has is ∙ answers)

pub one_proto : (n : ℕ) (p q : Proto) → proto4 n ≡ Some p → proto4 n ≡ Some q → q ≡ p
one_proto n p q a b = cc

-- a whole message that has a row, and embeds what it should where it is an error, has no cause
message_spares : (h : Head4) (payload : List ℕ) (m : Icmp4) (row : Row) (cause : Cause) → h.routed ≡ false → IsMessage4 h payload m row
    → (HasNoRow46 m → ⊥) → ((r : Row) → IsError4 m r → IsBadEmbedded4 h m → ⊥) → Behind4 h payload cause → ⊥
message_spares h payload m row SourceRoute unrouted is rows embeds behind = cc
message_spares h payload m row UnsupportedProtocol unrouted is rows embeds behind = grind (arith, common_steps, is.protocol)
message_spares h payload m row IcmpFragment unrouted is rows embeds behind = grind (arith, common_steps, is.whole)
message_spares h payload m row BadTransport unrouted is rows embeds (first, (other, protocol, bad)) =
    no_bad_message payload other (not h.mf) is.message (icmp_is h.proto other is.protocol protocol) bad
message_spares h payload m row IcmpSum unrouted is rows embeds behind = behind.1.1 is.message.right
message_spares h payload m row IcmpKind unrouted is rows embeds (icmp, (n, message, lacks)) =
    rows (rw (one_message m n payload is.message message) lacks)
message_spares h payload m row BadInner unrouted is rows embeds (icmp, (n, r, message, error, bad)) =
    let same = one_message n m payload message is.message in
    embeds r (rw same at error) (rw same at bad)
message_spares h payload m row NoUdpSum unrouted is rows embeds behind = grind (arith, is.protocol, behind.0)
message_spares h payload m row _ unrouted is rows embeds behind = behind

pub content_spares : (h : Head4) (payload : List ℕ) (content : Content4) (cause : Cause) → h.routed ≡ false → IsContent4 h payload content
    → Behind4 h payload cause → ⊥
content_spares h payload (Segment proto l4) SourceRoute unrouted is behind = cc
content_spares h payload (Segment proto l4) UnsupportedProtocol unrouted is behind = cc
content_spares h payload (Segment proto l4) IcmpFragment unrouted is behind = is.no_icmp (icmp_alone h.proto proto behind.0 is.protocol)
content_spares h payload (Segment proto l4) BadTransport unrouted is (first, (other, protocol, bad)) =
    is.transport (rw (one_proto h.proto proto other is.protocol protocol) at bad)
content_spares h payload (Segment proto l4) IcmpSum unrouted is behind = is.no_icmp (icmp_alone h.proto proto behind.0 is.protocol)
content_spares h payload (Segment proto l4) IcmpKind unrouted is behind = is.no_icmp (icmp_alone h.proto proto behind.0 is.protocol)
content_spares h payload (Segment proto l4) BadInner unrouted is behind = is.no_icmp (icmp_alone h.proto proto behind.0 is.protocol)
content_spares h payload (Segment proto l4) NoUdpSum unrouted is (udp, first, more, missing) =
    is.summed more (udp_alone h.proto proto udp is.protocol) missing
content_spares h payload (Segment proto l4) _ unrouted is behind = behind
content_spares h payload (Later proto) SourceRoute unrouted is behind = cc
content_spares h payload (Later proto) UnsupportedProtocol unrouted is behind = cc
content_spares h payload (Later proto) IcmpFragment unrouted is behind = is.no_icmp (icmp_alone h.proto proto behind.0 is.protocol)
content_spares h payload (Later proto) BadTransport unrouted is behind = is.later behind.0
content_spares h payload (Later proto) IcmpSum unrouted is behind = is.no_icmp (icmp_alone h.proto proto behind.0 is.protocol)
content_spares h payload (Later proto) IcmpKind unrouted is behind = is.no_icmp (icmp_alone h.proto proto behind.0 is.protocol)
content_spares h payload (Later proto) BadInner unrouted is behind = is.no_icmp (icmp_alone h.proto proto behind.0 is.protocol)
content_spares h payload (Later proto) NoUdpSum unrouted is behind = is.later behind.1
content_spares h payload (Later proto) _ unrouted is behind = behind
content_spares h payload (Query message row) cause unrouted is behind =
    message_spares h payload message row cause unrouted is.0 (λ lacks. query_has_row message row is.0.found is.1 lacks)
    (λ r e bad. e.no_query (ap (λ (x : Row). x.rest) (one_row _ row r is.0.found e.found) ∙ is.1)) behind
content_spares h payload (Error message row inner) cause unrouted is behind =
    message_spares h payload message row cause unrouted is.message is.error.translated
    (λ r e bad. fine_embedded h message inner is.embedded is.answers bad) behind

-- of such a packet only want of memory can be the refusal
pub wants_memory : (h : Head4) (payload : List ℕ) (content : Content4) (fault : Fault) → h.routed ≡ false → IsContent4 h payload content
    → ((cause : Cause) → fault ≡ Drop cause → IsLeast (Behind4 h payload) cause) → fault ≡ NoMemory
wants_memory h payload content (Drop cause) unrouted is told = absurd (content_spares h payload content cause unrouted is (told cause refl).0)
wants_memory h payload content NoMemory unrouted is told = refl

-- what is read is one
pub one_head : (r : Result Head4 Cause) (one other : Head4) → r ≡ Ok one → r ≡ Ok other → one ≡ other
one_head r one other a b = cc

pub one_packet : (h : Head4) (content : Content4) (p : Packet4) → p.head ≡ h → content ≡ p.content
    → ◌≡◌ {A = Result Packet4 Fault} (Ok (record { head = h; content = content })) (Ok p)
one_packet h content p head same = ap Ok
    (subst (λ (x : Head4). ◌≡◌ {A = Packet4} (record { head = x; content = content }) p) head
    (subst (λ (x : Content4). ◌≡◌ {A = Packet4} (record { head = p.head; content = x }) p) (sym same) refl))
