-- Octets are an IPv6 packet that a node takes, or they are dropped for a cause: one of both, and in one way.
use Rattle.std.proofs.Common.{◌≡◌, ◌≢◌, ◌⊎◌, ◌<◌, ◌≤◌, ℕ, List, true, false, sym, ◌∙◌, refl, ap, Some, None, inl, inr, arith, length, drop, subst}
use Rattle.std.specs.Prelude.{Option, Bool, IsTrue, IsSome, not}
use Rattle.std.proofs.lemmas.Grind.{common_steps}
use Rattle.octets.specs.Cause.{IsLeast, HoldsNone}
use Rattle.octets.specs.Field.{octet, word, quad}
use Rattle.octets.specs.Protocol.{proto6}
use Rattle.octets.specs.declared.address.Addr6.{Addr6}
use Rattle.octets.specs.declared.cause.Cause.{Cause}
use Rattle.octets.specs.declared.cause.Cause.TheVariants.{SourceRoute, UnsupportedProtocol, IcmpFragment, BadTransport, IcmpSum, IcmpKind, BadInner, NoUdpSum}
use Rattle.octets.specs.declared.proto.Proto.{Proto}
use Rattle.octets.specs.declared.proto.Proto.TheVariants.{Tcp, Udp, Icmp}
use Rattle.inet_sum.specs.Sum.{words, folded, IsRight}
use Rattle.ip6_packet.specs.declared.head.Head6.{Head6}
use Rattle.ip6_packet.specs.Causes.{HasNoHeaderCause6}
use Rattle.ip6_packet.specs.Embedded.{HasHeaders6}
use Rattle.ip6_packet.specs.Fragment.{fragment_offset, more_fragments, IsFragment6}
use Rattle.ip6_packet.specs.Grammar.{payload_of6, Is6}
use Rattle.l4_headers.specs.Transport.{IsBadTransport, l4_of}
use Rattle.icmp_messages.specs.declared.icmp6.Icmp6.{Icmp6}
use Rattle.icmp_messages.specs.declared.inner6.Inner6.{Inner6}
use Rattle.icmp_messages.specs.Message.{covered6, IsIcmp6}
use Rattle.icmp_messages.specs.Inner.{IsEcho6, IsCarried6, IsInner6, IsBadInner6}
use Rattle.icmp_messages.specs.declared.table.Rest.TheVariants.{Query as QueryRest}
use Rattle.icmp_messages.specs.declared.table.Row.{Row}
use Rattle.icmp_messages.specs.Table.{table64, row_of, pointers64, pointer_of}
use Rattle.icmp_messages.specs.Rows.{LacksPointer64, HasNoRow64}
use Rattle.icmp_messages.specs.Extension.{embedded64}
use Rattle.packets.specs.declared.packet6.Content6.{Content6}
use Rattle.packets.specs.declared.packet6.Content6.TheVariants.{Segment, Later, Query, Error}
use Rattle.packets.specs.declared.packet6.Packet6.{Packet6}
use Rattle.packets.specs.Behind6.{Behind6, IsError6, IsAnswered6, IsBadEmbedded6, IsDropped6}
use Rattle.packets.specs.Packet6.{IsMessage6, IsErrorOf6, IsContent6, IsPacket6}
use Rattle.packets.proofs.Decided.{Either, either, both, neither, equal, less, at_most, is_true, is_none, is_some, some_in, in_some, three, least_or_none}
use Rattle.packets.proofs.Rests.{is_pointer, is_query, bad_transport}
use Rattle.packets.proofs.Faults.{one_least}
use Rattle.ip6_packet.proofs.EmbeddedLemmas.{same_headers6}
use Rattle.packets.proofs.Header6.{same_head6, header_cause_or_none6, head_in6, embedded_or_none6}
use Rattle.packets.proofs.Spared6.{one_message, icmp_alone, content_spares, fine_embedded, one_row as one_found}

-- one protocol may be embedded with a number
same_carried : (p q : Proto) (n : ℕ) (payload : List ℕ) → IsCarried6 p n payload → IsCarried6 q n payload → p ≡ q
same_carried Tcp Tcp n payload a b = refl
same_carried Udp Udp n payload a b = refl
same_carried Icmp Icmp n payload a b = refl
same_carried Tcp Udp n payload a b = absurd (omega (arith, a, b))
same_carried Tcp Icmp n payload a b = absurd (omega (arith, a, b.0))
same_carried Udp Tcp n payload a b = absurd (omega (arith, a, b))
same_carried Udp Icmp n payload a b = absurd (omega (arith, a, b.0))
same_carried Icmp Tcp n payload a b = absurd (omega (arith, a.0, b))
same_carried Icmp Udp n payload a b = absurd (omega (arith, a.0, b))

-- one packet is embedded in octets
pub one_inner6 : (one other : Inner6) (octets : List ℕ) → IsInner6 one octets → IsInner6 other octets → one ≡ other
one_inner6 one other octets a b =
    let head = same_headers6 one.head other.head octets a.headers b.headers in
    let payload : one.payload ≡ other.payload = a.payload ∙ ap (λ (h : Head6). payload_of6 h octets) head ∙ sym b.payload in
    let proto : one.proto ≡ other.proto = same_carried one.proto other.proto other.head.upper other.payload (rw (payload, head) at a.carried) b.carried in
    let ports : one.ports ≡ other.ports = a.ports ∙ ap (λ (p : Proto). (l4_of p one.payload).ports) proto ∙ ap (λ (xs : List ℕ). (l4_of other.proto xs).ports) payload ∙ sym b.ports in
    λ i. record { head = head i; payload = payload i; ports = ports i; proto = proto i }

carried_or_none : (n : ℕ) (payload : List ℕ) → ((proto : Proto) × IsCarried6 proto n payload) ⊎ ((proto : Proto) → IsCarried6 proto n payload → ⊥)
carried_or_none n payload = tell (equal n 6) (equal n 17) (both (equal n 58) (both (either (equal (octet payload 0) 128) (equal (octet payload 0) 129)) (equal (octet payload 1) 0)))
  where
    tell : Either (n ≡ 6) → Either (n ≡ 17) → Either ((n ≡ 58) × IsEcho6 payload) → ((proto : Proto) × IsCarried6 proto n payload) ⊎ ((proto : Proto) → IsCarried6 proto n payload → ⊥)
    tell (inl tcp) udp echo = inl (Tcp, tcp)
    tell (inr tcp) (inl udp) echo = inl (Udp, udp)
    tell (inr tcp) (inr udp) (inl echo) = inl (Icmp, echo)
    tell (inr tcp) (inr udp) (inr echo) = inr (λ proto is. none proto is)
      where
        none : (proto : Proto) → IsCarried6 proto n payload → ⊥
        none Tcp is = tcp is
        none Udp is = udp is
        none Icmp is = echo is

-- a packet is embedded in octets, or it is bad
pub inner_or_bad6 : (octets : List ℕ) → ((inner : Inner6) × IsInner6 inner octets) ⊎ IsBadInner6 octets
inner_or_bad6 octets = elim (embedded_or_none6 octets) [ inl has ↦ behind has.0 has.1 | inr lacks ↦ inr (inl lacks) ]
  where
    behind : (h : Head6) → HasHeaders6 h octets → ((inner : Inner6) × IsInner6 inner octets) ⊎ IsBadInner6 octets
    behind h has = tell (less (length payload) 8) (equal (fragment_offset h.frag) 0) (carried_or_none h.upper payload)
      where
        payload : List ℕ
        payload = payload_of6 h octets

        tell : Either (length (payload_of6 h octets) < 8) → Either (fragment_offset h.frag ≡ 0)
            → ((proto : Proto) × IsCarried6 proto h.upper (payload_of6 h octets)) ⊎ ((proto : Proto) → IsCarried6 proto h.upper (payload_of6 h octets) → ⊥)
            → ((inner : Inner6) × IsInner6 inner octets) ⊎ IsBadInner6 octets
        tell (inl short) first carried = inr (inr (h, has, inl short))
        tell (inr long) (inr later) carried = inr (inr (h, has, inr (inl later)))
        tell (inr long) (inl first) (inr none) = inr (inr (h, has, inr (inr none)))
        tell (inr long) (inl first) (inl carried) =
            let inner : Inner6 = record { head = h; payload = payload_of6 h octets; ports = (l4_of carried.0 (payload_of6 h octets)).ports; proto = carried.0 } in
            inl (inner, record { headers = has; payload = refl; stands = omega (arith, long); first = first; carried = carried.1; ports = refl })

lacks_pointer : (m : Icmp6) (found : Option Row) → Either (LacksPointer64 m found)
lacks_pointer m None = inl tt
lacks_pointer m (Some row) = both (is_pointer row.rest) (is_none (pointer_of pointers64 m.rest))

-- a message has a translation or none
pub has_no_row6 : (m : Icmp6) → Either (HasNoRow64 m)
has_no_row6 m = lacks_pointer m (row_of table64 m.kind m.code)

pub row_or_none : (m : Icmp6) → (HasNoRow64 m → ⊥) → (row : Row) × (row_of table64 m.kind m.code ≡ Some row)
row_or_none m has = some_in (row_of table64 m.kind m.code) (λ none. has (rw none tt))

-- a message stands in octets, or none does
message_or_none : (src dst : Addr6) (payload : List ℕ) → ((m : Icmp6) × IsIcmp6 src dst m payload) ⊎ ((8 ≤ length payload) × IsRight (covered6 src dst payload) → ⊥)
message_or_none src dst payload = elim (both (at_most 8 (length payload)) (equal (folded (words (covered6 src dst payload))) 65535)) [
  | inl is ↦ inl (
    record { kind = octet payload 0; code = octet payload 1; rest = quad payload 4; body = drop 8 payload },
    record { stands = is.0; kind = refl; code = refl; rest = refl; body = refl; right = is.1 },
  )
  | inr none ↦ inr none
]

in_message : (src dst : Addr6) (payload : List ℕ) (P : Icmp6 → Type 0) → ((m : Icmp6) → Either (P m)) → Either ((m : Icmp6) × IsIcmp6 src dst m payload × P m)
in_message src dst payload P tell = elim (message_or_none src dst payload) [
  | inl found ↦ of found.0 found.1 (tell found.0)
  | inr none ↦ inr (λ (m, is, p). none (is.stands, is.right))
]
  where
    of : (m : Icmp6) → IsIcmp6 src dst m payload → Either (P m) → Either ((m : Icmp6) × IsIcmp6 src dst m payload × P m)
    of m is (inl p) = inl (m, is, p)
    of m is (inr fails) = inr (λ (n, other, p). fails (subst P (one_message n m payload other is) p))

same_addr : (a b : Addr6) → Either (a ≡ b)
same_addr a b = elim (equal a.0 b.0) [ inl same ↦ inl (ap (λ (n : ℕ). record { 0 = n }) same) | inr other ↦ inr (λ e. other (ap (λ (x : Addr6). x.0) e)) ]

answered : (at_relay : Bool) (h : Head6) (inner : Inner6) → Either (IsAnswered6 at_relay h inner)
answered at_relay h inner = elim (both (same_addr inner.head.src h.dst) (from_end at_relay)) [
  | inl is ↦ inl (record { back = is.0; from_end = is.1 })
  | inr none ↦ inr (λ is. none (is.back, is.from_end))
]
  where
    from_end : (relay : Bool) → Either (IsTrue relay → inner.head.dst ≡ h.src)
    from_end false = inl (λ e. let f : false ≡ true = e in cc)
    from_end true = elim (same_addr inner.head.dst h.src) [ inl same ↦ inl (λ e. same) | inr other ↦ inr (λ told. other (told refl)) ]

bad_embedded : (at_relay : Bool) (h : Head6) (m : Icmp6) → Either (IsBadEmbedded6 at_relay h m)
bad_embedded at_relay h m = elim (inner_or_bad6 (embedded64 m)) [
  | inl found ↦ of found.0 found.1 (answered at_relay h found.0)
  | inr bad ↦ inl (inl bad)
]
  where
    of : (inner : Inner6) → IsInner6 inner (embedded64 m) → Either (IsAnswered6 at_relay h inner) → Either (IsBadEmbedded6 at_relay h m)
    of inner is (inr other) = inl (inr (inner, is, other))
    of inner is (inl answers) = inr (λ bad. fine_embedded at_relay h m inner is answers bad)

-- an error of a row and its embedded packet
bad_error : (at_relay : Bool) (h : Head6) (m : Icmp6) → Either ((row : Row) × IsError6 m row × IsBadEmbedded6 at_relay h m)
bad_error at_relay h m = elim (has_no_row6 m) [
  | inl lacks ↦ inr (λ (row, error, bad). error.translated lacks)
  | inr has ↦ of has (row_or_none m has)
]
  where
    of : (HasNoRow64 m → ⊥) → (row : Row) × (row_of table64 m.kind m.code ≡ Some row) → Either ((row : Row) × IsError6 m row × IsBadEmbedded6 at_relay h m)
    of has found = elim (both (neither (is_query found.0.rest)) (bad_embedded at_relay h m)) [
      | inl is ↦ inl (found.0, record { found = found.1; translated = has; no_query = is.0 }, is.1)
      | inr none ↦ inr (λ (row, error, bad). none (subst (λ (r : Row). r.rest ≢ QueryRest) (one_found _ found.0 row found.1 error.found) error.no_query, bad))
    ]

fragment6 : (h : Head6) → Either (IsFragment6 h)
fragment6 h = either (is_true (more_fragments h.frag)) (neither (equal (fragment_offset h.frag) 0))

behind : (at_relay : Bool) (h : Head6) (payload : List ℕ) (cause : Cause) → Either (Behind6 at_relay h payload cause)
behind at_relay h payload SourceRoute = is_some h.left
behind at_relay h payload UnsupportedProtocol = is_none (proto6 h.upper)
behind at_relay h payload IcmpFragment = both (equal h.upper 58) (fragment6 h)
behind at_relay h payload BadTransport = both (equal (fragment_offset h.frag) 0) (in_some (proto6 h.upper) (λ proto. IsBadTransport proto payload (not (more_fragments h.frag))) (λ proto. bad_transport proto payload (not (more_fragments h.frag))))
behind at_relay h payload IcmpSum = both (equal h.upper 58) (both (at_most 8 (length payload)) (neither (equal (folded (words (covered6 h.src h.dst payload))) 65535)))
behind at_relay h payload IcmpKind = both (equal h.upper 58) (in_message h.src h.dst payload HasNoRow64 has_no_row6)
behind at_relay h payload BadInner =
    both (equal h.upper 58)
    (elim (in_message h.src h.dst payload (λ m. (row : Row) × IsError6 m row × IsBadEmbedded6 at_relay h m) (bad_error at_relay h)) [
      | inl found ↦ inl (found.0, found.2.0, found.1, found.2.1, found.2.2)
      | inr none ↦ inr (λ (m, row, is, error, bad). none (m, is, (row, error, bad)))
    ])
behind at_relay h payload NoUdpSum = three (equal h.upper 17) (equal (fragment_offset h.frag) 0) (equal (word payload 6) 0)
behind at_relay h payload _ = inr (λ h. h)

behind_or_none : (at_relay : Bool) (h : Head6) (payload : List ℕ) → ((cause : Cause) × IsLeast (Behind6 at_relay h payload) cause) ⊎ HoldsNone (Behind6 at_relay h payload)
behind_or_none at_relay h payload = least_or_none (Behind6 at_relay h payload) (behind at_relay h payload)

icmp_number : (n : ℕ) → proto6 n ≡ Some Icmp → n ≡ 58
icmp_number n is = grind (arith, common_steps)

udp_number : (n : ℕ) → proto6 n ≡ Some Udp → n ≡ 17
udp_number n is = grind (arith, common_steps)

pub no_fragment : (h : Head6) → (IsFragment6 h → ⊥) → fragment_offset h.frag ≡ 0
no_fragment h whole = elim (equal (fragment_offset h.frag) 0) [ inl first ↦ first | inr later ↦ absurd (whole (inr later)) ]

-- what a message carries that has no cause
message_content : (at_relay : Bool) (h : Head6) (payload : List ℕ) (m : Icmp6) → h.upper ≡ 58 → HoldsNone (Behind6 at_relay h payload) → (IsFragment6 h → ⊥) → IsIcmp6 h.src h.dst m payload
    → (content : Content6) × IsContent6 at_relay h payload content
message_content at_relay h payload m icmp none whole is = of (row_or_none m has)
  where
    has : HasNoRow64 m → ⊥
    has lacks = none IcmpKind (icmp, (m, is, lacks))

    of : (row : Row) × (row_of table64 m.kind m.code ≡ Some row) → (content : Content6) × IsContent6 at_relay h payload content
    of (row, found) = elim (is_query row.rest) [
      | inl query ↦ (Query m row, (message, query))
      | inr no_query ↦ error no_query (inner_or_bad6 (embedded64 m))
    ]
      where
        message : IsMessage6 h payload m row
        message = record { protocol = icmp; whole = whole; message = is; found = found }

        is_error : row.rest ≢ QueryRest → IsError6 m row
        is_error no_query = record { found = found; translated = has; no_query = no_query }

        error : row.rest ≢ QueryRest → ((inner : Inner6) × IsInner6 inner (embedded64 m)) ⊎ IsBadInner6 (embedded64 m) → (content : Content6) × IsContent6 at_relay h payload content
        error no_query (inr bad) = absurd (none BadInner (icmp, (m, row, is, is_error no_query, inl bad)))
        error no_query (inl (inner, embedded)) = elim (answered at_relay h inner) [
          | inl same ↦ (Error m row inner, record { message = message; error = is_error no_query; embedded = embedded; answers = same })
          | inr other ↦ absurd (none BadInner (icmp, (m, row, is, is_error no_query, inr (inner, embedded, other))))
        ]

-- what TCP or UDP carries that has no cause
segment_content : (at_relay : Bool) (h : Head6) (payload : List ℕ) (proto : Proto) → proto6 h.upper ≡ Some proto → proto ≢ Icmp → HoldsNone (Behind6 at_relay h payload)
    → (content : Content6) × IsContent6 at_relay h payload content
segment_content at_relay h payload proto protocol no_icmp none = elim (equal (fragment_offset h.frag) 0) [
  | inr later ↦ (Later proto, record { protocol = protocol; no_icmp = no_icmp; later = later })
  | inl first ↦ (
    Segment proto (l4_of proto payload),
    record {
      protocol = protocol;
      no_icmp = no_icmp;
      first = first;
      transport = λ bad. none BadTransport (first, (proto, protocol, bad));
      summed = λ udp missing. none NoUdpSum (udp_number h.upper (protocol ∙ ap Some udp), first, missing);
      header = refl;
    },
  )
]

-- what stands behind a header, where nothing is a cause
content_in : (at_relay : Bool) (h : Head6) (payload : List ℕ) → HoldsNone (Behind6 at_relay h payload) → (content : Content6) × IsContent6 at_relay h payload content
content_in at_relay h payload none = of (some_in (proto6 h.upper) (λ unsupported. none UnsupportedProtocol unsupported))
  where
    of : (proto : Proto) × (proto6 h.upper ≡ Some proto) → (content : Content6) × IsContent6 at_relay h payload content
    of (Tcp, protocol) = segment_content at_relay h payload Tcp protocol (λ e. cc) none
    of (Udp, protocol) = segment_content at_relay h payload Udp protocol (λ e. cc) none
    of (Icmp, protocol) =
        let icmp = icmp_number h.upper protocol in
        let whole : IsFragment6 h → ⊥ = λ fragment. none IcmpFragment (icmp, fragment) in
        let first = no_fragment h whole in
        let stands : 8 ≤ length payload = long (λ short. none BadTransport (first, (Icmp, protocol, inl short))) in
        elim (message_or_none h.src h.dst payload) [
          | inl found ↦ message_content at_relay h payload found.0 icmp none whole found.1
          | inr wrong ↦ absurd (none IcmpSum (icmp, (stands, λ right. wrong (stands, right))))
        ]
      where
        long : (length payload < 8 → ⊥) → 8 ≤ length payload
        long h = omega arith

pub none_left : (left : Option ℕ) → (IsSome left → ⊥) → left ≡ None
none_left None h = refl
none_left (Some place) h = absurd (h refl)

-- one of both comes
pub taken_or_dropped6 : (at_relay : Bool) (octets : List ℕ) → ((p : Packet6) × IsPacket6 at_relay p octets) ⊎ ((cause : Cause) × IsDropped6 at_relay cause octets)
taken_or_dropped6 at_relay octets = elim (header_cause_or_none6 octets) [
  | inl found ↦ inr (found.0, inl found.1)
  | inr none ↦ header none (head_in6 octets none)
]
  where
    header : HasNoHeaderCause6 octets → (h : Head6) × Is6 h (payload_of6 h octets) octets → ((p : Packet6) × IsPacket6 at_relay p octets) ⊎ ((cause : Cause) × IsDropped6 at_relay cause octets)
    header none (h, is) = elim (behind_or_none at_relay h (payload_of6 h octets)) [
      | inl found ↦ inr (found.0, inr (h, is, none, found.1))
      | inr fine ↦ packet fine (content_in at_relay h (payload_of6 h octets) fine)
    ]
      where
        packet : HoldsNone (Behind6 at_relay h (payload_of6 h octets)) → (content : Content6) × IsContent6 at_relay h (payload_of6 h octets) content → ((p : Packet6) × IsPacket6 at_relay p octets) ⊎ ((cause : Cause) × IsDropped6 at_relay cause octets)
        packet fine (content, carried) = inl (
          record { head = h; content = content },
          record { is = is; header = none; unrouted = none_left h.left (λ left. fine SourceRoute left); content = carried },
        )

-- never both
pub never_both6 : (at_relay : Bool) (p : Packet6) (cause : Cause) (octets : List ℕ) → IsPacket6 at_relay p octets → IsDropped6 at_relay cause octets → ⊥
never_both6 at_relay p cause octets is (inl header) = is.header cause header.0
never_both6 at_relay p cause octets is (inr (h, other, none, least)) =
    let same : h ≡ p.head = same_head6 h p.head octets other is.is in
    content_spares at_relay p.head (payload_of6 p.head octets) p.content cause is.unrouted is.content (subst (λ (x : Head6). Behind6 at_relay x (payload_of6 x octets) cause) same least.0)

-- one cause
pub one_cause6 : (at_relay : Bool) (c d : Cause) (octets : List ℕ) → IsDropped6 at_relay c octets → IsDropped6 at_relay d octets → c ≡ d
one_cause6 at_relay c d octets (inl a) (inl b) = one_least _ c d a b
one_cause6 at_relay c d octets (inl a) (inr (h, is, none, least)) = absurd (none c a.0)
one_cause6 at_relay c d octets (inr (h, is, none, least)) (inl b) = absurd (none d b.0)
one_cause6 at_relay c d octets (inr (h, is, none, least)) (inr (g, other, fine, found)) =
    let same : g ≡ h = same_head6 g h octets other is in
    one_least _ c d least (subst (λ (x : Head6). IsLeast (Behind6 at_relay x (payload_of6 x octets)) d) same found)

one_proto : (n : ℕ) (p q : Proto) → proto6 n ≡ Some p → proto6 n ≡ Some q → p ≡ q
one_proto n p q a b = cc

one_row : (m n : Icmp6) (r s : Row) → m ≡ n → row_of table64 m.kind m.code ≡ Some r → row_of table64 n.kind n.code ≡ Some s → r ≡ s
one_row m n r s same a b = let e : row_of table64 n.kind n.code ≡ Some r = rw same at a in cc

query_or_error : (at_relay : Bool) (h : Head6) (payload : List ℕ) (m n : Icmp6) (r s : Row) (inner : Inner6) → IsMessage6 h payload m r → r.rest ≡ QueryRest → IsErrorOf6 at_relay h payload n s inner → ⊥
query_or_error at_relay h payload m n r s inner is query error =
    let same = one_message m n payload is.message error.message.message in
    let row = one_row m n r s same is.found error.message.found in
    error.error.no_query (ap (λ (x : Row). x.rest) (sym row) ∙ query)

-- one content stands behind a header
pub one_content6 : (at_relay : Bool) (h : Head6) (payload : List ℕ) (c d : Content6) → IsContent6 at_relay h payload c → IsContent6 at_relay h payload d → c ≡ d
one_content6 at_relay h payload (Segment p l) (Segment q k) a b =
    let proto = one_proto h.upper p q a.protocol b.protocol in
    let l4 : l ≡ k = a.header ∙ ap (λ (x : Proto). l4_of x payload) proto ∙ sym b.header in
    λ i. Segment (proto i) (l4 i)
one_content6 at_relay h payload (Later p) (Later q) a b = ap Later (one_proto h.upper p q a.protocol b.protocol)
one_content6 at_relay h payload (Query m r) (Query n s) a b =
    let same = one_message m n payload a.0.message b.0.message in
    let row = one_row m n r s same a.0.found b.0.found in
    λ i. Query (same i) (row i)
one_content6 at_relay h payload (Error m r x) (Error n s y) a b =
    let same = one_message m n payload a.message.message b.message.message in
    let row = one_row m n r s same a.message.found b.message.found in
    let inner = one_inner6 x y (embedded64 n) (rw same at a.embedded) b.embedded in
    λ i. Error (same i) (row i) (inner i)
one_content6 at_relay h payload (Segment p l) (Later q) a b = absurd (b.later a.first)
one_content6 at_relay h payload (Segment p l) (Query n s) a b = absurd (a.no_icmp (icmp_alone h.upper p b.0.protocol a.protocol))
one_content6 at_relay h payload (Segment p l) (Error n s y) a b = absurd (a.no_icmp (icmp_alone h.upper p b.message.protocol a.protocol))
one_content6 at_relay h payload (Later p) (Segment q k) a b = absurd (a.later b.first)
one_content6 at_relay h payload (Later p) (Query n s) a b = absurd (a.no_icmp (icmp_alone h.upper p b.0.protocol a.protocol))
one_content6 at_relay h payload (Later p) (Error n s y) a b = absurd (a.no_icmp (icmp_alone h.upper p b.message.protocol a.protocol))
one_content6 at_relay h payload (Query m r) (Segment q k) a b = absurd (b.no_icmp (icmp_alone h.upper q a.0.protocol b.protocol))
one_content6 at_relay h payload (Query m r) (Later q) a b = absurd (b.no_icmp (icmp_alone h.upper q a.0.protocol b.protocol))
one_content6 at_relay h payload (Query m r) (Error n s y) a b = absurd (query_or_error at_relay h payload m n r s y a.0 a.1 b)
one_content6 at_relay h payload (Error m r x) (Segment q k) a b = absurd (b.no_icmp (icmp_alone h.upper q a.message.protocol b.protocol))
one_content6 at_relay h payload (Error m r x) (Later q) a b = absurd (b.no_icmp (icmp_alone h.upper q a.message.protocol b.protocol))
one_content6 at_relay h payload (Error m r x) (Query n s) a b = absurd (query_or_error at_relay h payload n m s r x b.0 b.1 a)

-- octets are one packet
pub same_packet6 : (at_relay : Bool) (p q : Packet6) (octets : List ℕ) → IsPacket6 at_relay p octets → IsPacket6 at_relay q octets → p ≡ q
same_packet6 at_relay p q octets a b =
    let head = same_head6 p.head q.head octets a.is b.is in
    let carried : IsContent6 at_relay q.head (payload_of6 q.head octets) p.content = subst (λ (h : Head6). IsContent6 at_relay h (payload_of6 h octets) p.content) head a.content in
    let content = one_content6 at_relay q.head (payload_of6 q.head octets) p.content q.content carried b.content in
    λ i. record { head = head i; content = content i }
