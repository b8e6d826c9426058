-- A packet that carries something has none of the causes behind its headers.
use Rattle.std.proofs.Common.{◌≡◌, ◌<◌, ◌≤◌, ℕ, List, false, arith, sym, ◌∙◌, refl, ap, Some, None, inl, inr, length, subst}
use Rattle.std.specs.Prelude.{Result, Ok, Err, IsSome, Option, Bool, not}
use Rattle.std.proofs.lemmas.Grind.{common_steps}
use Rattle.octets.specs.Cause.{IsLeast, number_of}
use Rattle.octets.specs.Protocol.{proto6}
use Rattle.octets.specs.declared.cause.Cause.{Cause}
use Rattle.octets.specs.declared.cause.Cause.TheVariants.{SourceRoute, UnsupportedProtocol, IcmpFragment, BadTransport, IcmpSum, IcmpKind, BadInner, NoUdpSum}
use Rattle.octets.specs.declared.cause.Fault.{Fault}
use Rattle.octets.specs.declared.cause.Fault.TheVariants.{Drop, NoMemory}
use Rattle.octets.specs.declared.proto.Proto.{Proto}
use Rattle.octets.specs.declared.proto.Proto.TheVariants.{Tcp, Udp, Icmp}
use Rattle.ip6_packet.specs.declared.head.Head6.{Head6}
use Rattle.icmp_messages.specs.declared.icmp6.Icmp6.{Icmp6}
use Rattle.icmp_messages.specs.declared.inner6.Inner6.{Inner6}
use Rattle.icmp_messages.specs.Message.{IsIcmp6, IsShort, IsWrongSum6}
use Rattle.icmp_messages.specs.Inner.{IsInner6}
use Rattle.icmp_messages.specs.declared.table.Row.{Row}
use Rattle.icmp_messages.specs.Rows.{HasNoRow64, LacksPointer64}
use Rattle.icmp_messages.specs.Extension.{embedded64}
use Rattle.icmp_messages.specs.declared.table.Rest.TheVariants.{Query as QueryRest, Pointer}
use Rattle.icmp_messages.specs.Table.{table64, row_of}
use Rattle.ip6_packet.specs.Grammar.{payload_of6}
use Rattle.l4_headers.specs.Transport.{IsBadTransport}
use Rattle.octets.specs.declared.address.Addr6.{Addr6}
use Rattle.ip6_packet.specs.Fragment.{fragment_offset, more_fragments, IsFragment6}
use Rattle.ip6_packet.proofs.EmbeddedLemmas.{same_headers6}
use Rattle.icmp_messages.proofs.InnerLemmas.{not_bad6}
use Rattle.packets.specs.declared.packet6.Content6.{Content6}
use Rattle.packets.specs.declared.packet6.Content6.TheVariants.{Segment, Later, Query, Error}
use Rattle.packets.specs.declared.packet6.Packet6.{Packet6}
use Rattle.packets.specs.Behind6.{Behind6, IsError6, IsAnswered6, IsBadEmbedded6}
use Rattle.packets.specs.Packet6.{IsContent6, IsMessage6}

-- two embedded packets in the same octets have the same headers
one_inner_head : (one other : Inner6) (octets : List ℕ) → IsInner6 one octets → IsInner6 other octets → other.head ≡ one.head
one_inner_head one other octets a b = same_headers6 other.head one.head octets b.headers a.headers

pub no_left : (left : Option ℕ) → left ≡ None → IsSome left → ⊥
no_left left none some = cc

-- two messages in the same octets are one
pub one_message : {src dst : Addr6} (m n : Icmp6) (octets : List ℕ) → IsIcmp6 src dst m octets → IsIcmp6 src dst n octets → m ≡ n
one_message m n octets a b = grind (arith, common_steps)

-- the number of ICMP is that of no other protocol
pub icmp_alone : (n : ℕ) (proto : Proto) → n ≡ 58 → proto6 n ≡ Some proto → proto ≡ Icmp
icmp_alone n proto is protocol = grind (arith, common_steps)

pub udp_alone : (n : ℕ) (proto : Proto) → n ≡ 17 → proto6 n ≡ Some proto → proto ≡ Udp
udp_alone n proto is protocol = grind (arith, common_steps)

icmp_is : (n : ℕ) (proto : Proto) → n ≡ 58 → proto6 n ≡ Some proto → proto ≡ Icmp
icmp_is n proto is protocol = icmp_alone n proto is protocol

pub no_bad_message : (payload : List ℕ) {src dst : Addr6} {m : Icmp6} (proto : Proto) (whole : Bool) → IsIcmp6 src dst m payload → proto ≡ Icmp → IsBadTransport proto payload whole → ⊥
no_bad_message payload Tcp whole is icmp bad = cc
no_bad_message payload Udp whole is icmp bad = cc
no_bad_message payload Icmp whole is icmp (inl short) = omega (arith, is.stands, short)
no_bad_message payload Icmp whole is icmp (inr bad) = bad.1

long_message : (payload : List ℕ) (proto : Proto) (whole : Bool) → 8 ≤ length payload → proto ≡ Icmp → IsBadTransport proto payload whole → ⊥
long_message payload Tcp whole long icmp bad = cc
long_message payload Udp whole long icmp bad = cc
long_message payload Icmp whole long icmp (inl short) = omega (arith, long, short)
long_message payload Icmp whole long icmp (inr bad) = bad.1

pub one_row : (found : Option Row) (one other : Row) → found ≡ Some one → found ≡ Some other → other ≡ one
one_row found one other a b = cc

-- a query has a row
query_has_row : (m : Icmp6) (row : Row) → row_of table64 m.kind m.code ≡ Some row → row.rest ≡ QueryRest → HasNoRow64 m → ⊥
query_has_row m row found query lacks = let l : LacksPointer64 m (Some row) = rw found at lacks in let pointer : row.rest ≡ Pointer = l.0 in cc

answered_too : (at_relay : Bool) (h : Head6) (inner other : Inner6) → other.head ≡ inner.head → IsAnswered6 at_relay h inner → IsAnswered6 at_relay h other
answered_too at_relay h inner other same answers = record {
  back = ap (λ (x : Head6). x.src) same ∙ answers.back;
  from_end = λ relay. ap (λ (x : Head6). x.dst) same ∙ answers.from_end relay;
}

-- an embedded packet that is read, and was sent from where the error goes, isn't bad
pub fine_embedded : (at_relay : Bool) (h : Head6) (m : Icmp6) (inner : Inner6) → IsInner6 inner (embedded64 m) → IsAnswered6 at_relay h inner → IsBadEmbedded6 at_relay h m → ⊥
fine_embedded at_relay h m inner is answers (inl bad) = let stands : 8 ≤ length (payload_of6 inner.head (embedded64 m)) = omega (arith, ap length is.payload, is.stands) in not_bad6 inner.head inner.proto (embedded64 m) is.headers stands is.first (rw is.payload at is.carried) bad
fine_embedded at_relay h m inner is answers (inr (other, has, differs)) = differs (answered_too at_relay h inner other (one_inner_head inner other (embedded64 m) is has) answers)

pub one_proto : (n : ℕ) (p q : Proto) → proto6 n ≡ Some p → proto6 n ≡ Some q → q ≡ p
one_proto n p q a b = cc

-- a whole message that has a row, and embeds what it should where it is an error, has no cause
message_spares : (at_relay : Bool) (h : Head6) (payload : List ℕ) (m : Icmp6) (row : Row) (cause : Cause) → h.left ≡ None → IsMessage6 h payload m row
    → (HasNoRow64 m → ⊥) → ((r : Row) → IsError6 m r → IsBadEmbedded6 at_relay h m → ⊥) → Behind6 at_relay h payload cause → ⊥
message_spares at_relay h payload m row SourceRoute unrouted is rows embeds behind = no_left h.left unrouted behind
message_spares at_relay h payload m row UnsupportedProtocol unrouted is rows embeds behind = grind (arith, common_steps, is.protocol)
message_spares at_relay h payload m row IcmpFragment unrouted is rows embeds behind = is.whole behind.1
message_spares at_relay h payload m row BadTransport unrouted is rows embeds (first, (other, protocol, bad)) =
    no_bad_message payload other (not (more_fragments h.frag)) is.message (icmp_is h.upper other is.protocol protocol) bad
message_spares at_relay h payload m row IcmpSum unrouted is rows embeds behind = behind.1.1 is.message.right
message_spares at_relay h payload m row IcmpKind unrouted is rows embeds (icmp, (n, message, lacks)) =
    rows (rw (one_message m n payload is.message message) lacks)
message_spares at_relay h payload m row BadInner unrouted is rows embeds (icmp, (n, r, message, error, bad)) =
    let same = one_message n m payload message is.message in
    embeds r (rw same at error) (rw same at bad)
message_spares at_relay h payload m row NoUdpSum unrouted is rows embeds behind = grind (arith, is.protocol, behind.0)
message_spares at_relay h payload m row _ unrouted is rows embeds behind = behind

pub content_spares : (at_relay : Bool) (h : Head6) (payload : List ℕ) (content : Content6) (cause : Cause) → h.left ≡ None → IsContent6 at_relay h payload content
    → Behind6 at_relay h payload cause → ⊥
content_spares at_relay h payload (Segment proto l4) SourceRoute unrouted is behind = no_left h.left unrouted behind
content_spares at_relay h payload (Segment proto l4) UnsupportedProtocol unrouted is behind = cc
content_spares at_relay h payload (Segment proto l4) IcmpFragment unrouted is behind = is.no_icmp (icmp_alone h.upper proto behind.0 is.protocol)
content_spares at_relay h payload (Segment proto l4) BadTransport unrouted is (first, (other, protocol, bad)) =
    is.transport (rw (one_proto h.upper proto other is.protocol protocol) at bad)
content_spares at_relay h payload (Segment proto l4) IcmpSum unrouted is behind = is.no_icmp (icmp_alone h.upper proto behind.0 is.protocol)
content_spares at_relay h payload (Segment proto l4) IcmpKind unrouted is behind = is.no_icmp (icmp_alone h.upper proto behind.0 is.protocol)
content_spares at_relay h payload (Segment proto l4) BadInner unrouted is behind = is.no_icmp (icmp_alone h.upper proto behind.0 is.protocol)
content_spares at_relay h payload (Segment proto l4) NoUdpSum unrouted is (udp, first, missing) =
    is.summed (udp_alone h.upper proto udp is.protocol) missing
content_spares at_relay h payload (Segment proto l4) _ unrouted is behind = behind
content_spares at_relay h payload (Later proto) SourceRoute unrouted is behind = no_left h.left unrouted behind
content_spares at_relay h payload (Later proto) UnsupportedProtocol unrouted is behind = cc
content_spares at_relay h payload (Later proto) IcmpFragment unrouted is behind = is.no_icmp (icmp_alone h.upper proto behind.0 is.protocol)
content_spares at_relay h payload (Later proto) BadTransport unrouted is behind = is.later behind.0
content_spares at_relay h payload (Later proto) IcmpSum unrouted is behind = is.no_icmp (icmp_alone h.upper proto behind.0 is.protocol)
content_spares at_relay h payload (Later proto) IcmpKind unrouted is behind = is.no_icmp (icmp_alone h.upper proto behind.0 is.protocol)
content_spares at_relay h payload (Later proto) BadInner unrouted is behind = is.no_icmp (icmp_alone h.upper proto behind.0 is.protocol)
content_spares at_relay h payload (Later proto) NoUdpSum unrouted is behind = is.later behind.1
content_spares at_relay h payload (Later proto) _ unrouted is behind = behind
content_spares at_relay h payload (Query message row) cause unrouted is behind =
    message_spares at_relay h payload message row cause unrouted is.0 (λ lacks. query_has_row message row is.0.found is.1 lacks)
    (λ r e bad. e.no_query (ap (λ (x : Row). x.rest) (one_row _ row r is.0.found e.found) ∙ is.1)) behind
content_spares at_relay h payload (Error message row inner) cause unrouted is behind =
    message_spares at_relay h payload message row cause unrouted is.message is.error.translated
    (λ r e bad. fine_embedded at_relay h message inner is.embedded is.answers bad) behind

-- of such a packet only want of memory can be the refusal
pub wants_memory : (at_relay : Bool) (h : Head6) (payload : List ℕ) (content : Content6) (fault : Fault) → h.left ≡ None → IsContent6 at_relay h payload content
    → ((cause : Cause) → fault ≡ Drop cause → IsLeast (Behind6 at_relay h payload) cause) → fault ≡ NoMemory
wants_memory at_relay h payload content (Drop cause) unrouted is told = absurd (content_spares at_relay h payload content cause unrouted is (told cause refl).0)
wants_memory at_relay h payload content NoMemory unrouted is told = refl

-- what is read is one
pub one_head : (r : Result Head6 Cause) (one other : Head6) → r ≡ Ok one → r ≡ Ok other → one ≡ other
one_head r one other a b = cc

pub one_packet : (h : Head6) (content : Content6) (p : Packet6) → p.head ≡ h → content ≡ p.content
    → ◌≡◌ {A = Result Packet6 Fault} (Ok (record { head = h; content = content })) (Ok p)
one_packet h content p head same = ap Ok
    (subst (λ (x : Head6). ◌≡◌ {A = Packet6} (record { head = x; content = content }) p) head
    (subst (λ (x : Content6). ◌≡◌ {A = Packet6} (record { head = p.head; content = x }) p) (sym same) refl))

-- no fragment
pub whole6 : (h : Head6) → more_fragments h.frag ≡ false → fragment_offset h.frag ≡ 0 → IsFragment6 h → ⊥
whole6 h more offset (inl fragment) = cc
whole6 h more offset (inr later) = later offset

-- a whole ICMPv6 packet has none of the causes before BadTransport
pub before_transport : (at_relay : Bool) (h : Head6) (payload : List ℕ) → h.upper ≡ 58 → h.left ≡ None → (IsFragment6 h → ⊥)
    → (lesser : Cause) → number_of lesser < 9 → Behind6 at_relay h payload lesser → ⊥
before_transport at_relay h payload icmp unrouted whole SourceRoute less behind = no_left h.left unrouted behind
before_transport at_relay h payload icmp unrouted whole UnsupportedProtocol less behind = grind (arith, common_steps, icmp)
before_transport at_relay h payload icmp unrouted whole IcmpFragment less behind = whole behind.1
before_transport at_relay h payload icmp unrouted whole BadTransport less behind = omega (arith, less)
before_transport at_relay h payload icmp unrouted whole IcmpSum less behind = omega (arith, less)
before_transport at_relay h payload icmp unrouted whole IcmpKind less behind = omega (arith, less)
before_transport at_relay h payload icmp unrouted whole BadInner less behind = omega (arith, less)
before_transport at_relay h payload icmp unrouted whole NoUdpSum less behind = omega (arith, less)
before_transport at_relay h payload icmp unrouted whole _ less behind = behind

before_sum : (at_relay : Bool) (h : Head6) (payload : List ℕ) → h.upper ≡ 58 → h.left ≡ None → (IsFragment6 h → ⊥) → 8 ≤ length payload
    → (lesser : Cause) → number_of lesser < 10 → Behind6 at_relay h payload lesser → ⊥
before_sum at_relay h payload icmp unrouted whole long SourceRoute less behind = no_left h.left unrouted behind
before_sum at_relay h payload icmp unrouted whole long UnsupportedProtocol less behind = grind (arith, common_steps, icmp)
before_sum at_relay h payload icmp unrouted whole long IcmpFragment less behind = whole behind.1
before_sum at_relay h payload icmp unrouted whole long BadTransport less (first, (proto, protocol, bad)) =
    long_message payload proto (not (more_fragments h.frag)) long (icmp_alone h.upper proto icmp protocol) bad
before_sum at_relay h payload icmp unrouted whole long IcmpSum less behind = omega (arith, less)
before_sum at_relay h payload icmp unrouted whole long IcmpKind less behind = omega (arith, less)
before_sum at_relay h payload icmp unrouted whole long BadInner less behind = omega (arith, less)
before_sum at_relay h payload icmp unrouted whole long NoUdpSum less behind = omega (arith, less)
before_sum at_relay h payload icmp unrouted whole long _ less behind = behind

-- it is refused as BadTransport where its message is too short, and as IcmpSum where the sum is wrong
pub short_least : (at_relay : Bool) (h : Head6) (payload : List ℕ) → h.upper ≡ 58 → h.left ≡ None → (IsFragment6 h → ⊥) → fragment_offset h.frag ≡ 0
    → IsShort payload → IsLeast (Behind6 at_relay h payload) BadTransport
short_least at_relay h payload icmp unrouted whole first short =
    let protocol : proto6 h.upper ≡ Some Icmp = ap proto6 icmp in
    ((first, (Icmp, protocol, inl short)), before_transport at_relay h payload icmp unrouted whole)

pub wrong_least : (at_relay : Bool) (h : Head6) (payload : List ℕ) → h.upper ≡ 58 → h.left ≡ None → (IsFragment6 h → ⊥)
    → IsWrongSum6 h.src h.dst payload → IsLeast (Behind6 at_relay h payload) IcmpSum
wrong_least at_relay h payload icmp unrouted whole wrong = ((icmp, wrong), before_sum at_relay h payload icmp unrouted whole wrong.0)

pub no_head : (r : Result Head6 Cause) (h : Head6) (cause : Cause) → r ≡ Ok h → r ≡ Err cause → ⊥
no_head r h cause a b = cc
