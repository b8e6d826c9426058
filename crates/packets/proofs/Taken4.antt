-- Octets are an IPv4 packet that a node takes, or they are dropped for a cause: one of both, and in one way.
use Rattle.std.proofs.Common.{◌≡◌, ◌≢◌, ◌⊎◌, ◌<◌, ◌≤◌, ◌/◌, ◌^◌, ℕ, List, false, sym, ◌∙◌, refl, ap, Some, None, inl, inr, arith, length, drop, subst}
use Rattle.std.specs.Prelude.{Option, not}
use Rattle.std.proofs.lemmas.Grind.{common_steps}
use Rattle.octets.specs.Cause.{IsLeast, HoldsNone}
use Rattle.octets.specs.Field.{octet, word, quad}
use Rattle.octets.specs.Protocol.{proto4}
use Rattle.octets.specs.declared.address.Addr4.{Addr4}
use Rattle.octets.specs.declared.cause.Cause.{Cause}
use Rattle.octets.specs.declared.cause.Cause.TheVariants.{SourceRoute, UnsupportedProtocol, IcmpFragment, BadTransport, IcmpSum, IcmpKind, BadInner, NoUdpSum}
use Rattle.octets.specs.declared.proto.Proto.{Proto}
use Rattle.octets.specs.declared.proto.Proto.TheVariants.{Tcp, Udp, Icmp}
use Rattle.inet_sum.specs.Sum.{words, folded, IsRight}
use Rattle.ip4_packet.specs.declared.head.Head4.{Head4}
use Rattle.ip4_packet.specs.Causes.{HasNoHeaderCause4}
use Rattle.ip4_packet.specs.Embedded.{HasHeader4}
use Rattle.ip4_packet.specs.Grammar.{payload_of4, Is4}
use Rattle.l4_headers.specs.Transport.{IsBadTransport, l4_of}
use Rattle.icmp_messages.specs.declared.icmp4.Icmp4.{Icmp4}
use Rattle.icmp_messages.specs.declared.inner4.Inner4.{Inner4}
use Rattle.icmp_messages.specs.Message.{IsIcmp4}
use Rattle.icmp_messages.specs.Inner.{IsEcho4, IsCarried4, IsInner4, IsBadInner4}
use Rattle.ip4_packet.specs.Fragment.{is_fragment}
use Rattle.icmp_messages.specs.declared.table.Rest.TheVariants.{Query as QueryRest}
use Rattle.icmp_messages.specs.declared.table.Row.{Row}
use Rattle.icmp_messages.specs.Table.{table46, row_of, pointers46, pointer_of}
use Rattle.icmp_messages.specs.Rows.{LacksPointer46, HasNoRow46}
use Rattle.icmp_messages.specs.Extension.{embedded46}
use Rattle.packets.specs.declared.packet4.Content4.{Content4}
use Rattle.packets.specs.declared.packet4.Content4.TheVariants.{Segment, Later, Query, Error}
use Rattle.packets.specs.declared.packet4.Packet4.{Packet4}
use Rattle.packets.specs.Behind4.{Behind4, IsError4, IsBadEmbedded4, IsDropped4}
use Rattle.packets.specs.Packet4.{IsMessage4, IsErrorOf4, IsContent4, IsPacket4}
use Rattle.packets.proofs.Decided.{Either, either, both, neither, equal, less, at_most, is_true, is_none, is_false, some_in, in_some, four, least_or_none}
use Rattle.packets.proofs.Rests.{is_pointer, is_query, bad_transport}
use Rattle.packets.proofs.Faults.{one_least}
use Rattle.packets.proofs.Header4.{same_head4, same_embedded4, header_cause_or_none4, head_in4, embedded_or_none4}
use Rattle.packets.proofs.Spared4.{one_message, icmp_alone, content_spares, fine_embedded, one_row as one_found}

-- one protocol may be embedded with a number
same_carried : (p q : Proto) (n : ℕ) (payload : List ℕ) → IsCarried4 p n payload → IsCarried4 q n payload → p ≡ q
same_carried Tcp Tcp n payload a b = refl
same_carried Udp Udp n payload a b = refl
same_carried Icmp Icmp n payload a b = refl
same_carried Tcp Udp n payload a b = absurd (omega (arith, a, b))
same_carried Tcp Icmp n payload a b = absurd (omega (arith, a, b.0))
same_carried Udp Tcp n payload a b = absurd (omega (arith, a, b))
same_carried Udp Icmp n payload a b = absurd (omega (arith, a, b.0))
same_carried Icmp Tcp n payload a b = absurd (omega (arith, a.0, b))
same_carried Icmp Udp n payload a b = absurd (omega (arith, a.0, b))

-- one packet is embedded in octets
pub one_inner4 : (one other : Inner4) (octets : List ℕ) → IsInner4 one octets → IsInner4 other octets → one ≡ other
one_inner4 one other octets a b =
    let head = same_embedded4 one.head other.head octets a.header b.header in
    let payload : one.payload ≡ other.payload = a.payload ∙ ap (λ (h : Head4). payload_of4 h octets) head ∙ sym b.payload in
    let proto : one.proto ≡ other.proto = same_carried one.proto other.proto other.head.proto other.payload (rw (payload, head) at a.carried) b.carried in
    let ports : one.ports ≡ other.ports = a.ports ∙ ap (λ (p : Proto). (l4_of p one.payload).ports) proto ∙ ap (λ (xs : List ℕ). (l4_of other.proto xs).ports) payload ∙ sym b.ports in
    λ i. record { head = head i; payload = payload i; ports = ports i; proto = proto i }

carried_or_none : (n : ℕ) (payload : List ℕ) → ((proto : Proto) × IsCarried4 proto n payload) ⊎ ((proto : Proto) → IsCarried4 proto n payload → ⊥)
carried_or_none n payload = tell (equal n 6) (equal n 17) (both (equal n 1) (both (either (equal (octet payload 0) 8) (equal (octet payload 0) 0)) (equal (octet payload 1) 0)))
  where
    tell : Either (n ≡ 6) → Either (n ≡ 17) → Either ((n ≡ 1) × IsEcho4 payload) → ((proto : Proto) × IsCarried4 proto n payload) ⊎ ((proto : Proto) → IsCarried4 proto n payload → ⊥)
    tell (inl tcp) udp echo = inl (Tcp, tcp)
    tell (inr tcp) (inl udp) echo = inl (Udp, udp)
    tell (inr tcp) (inr udp) (inl echo) = inl (Icmp, echo)
    tell (inr tcp) (inr udp) (inr echo) = inr (λ proto is. none proto is)
      where
        none : (proto : Proto) → IsCarried4 proto n payload → ⊥
        none Tcp is = tcp is
        none Udp is = udp is
        none Icmp is = echo is

-- a packet is embedded in octets, or it is bad
pub inner_or_bad4 : (octets : List ℕ) → ((inner : Inner4) × IsInner4 inner octets) ⊎ IsBadInner4 octets
inner_or_bad4 octets = elim (embedded_or_none4 octets) [ inl has ↦ behind has.0 has.1 | inr lacks ↦ inr (inl lacks) ]
  where
    behind : (h : Head4) → HasHeader4 h octets → ((inner : Inner4) × IsInner4 inner octets) ⊎ IsBadInner4 octets
    behind h has = tell (less (length payload) 8) (equal h.offset 0) (carried_or_none h.proto payload)
      where
        payload : List ℕ
        payload = payload_of4 h octets

        tell : Either (length (payload_of4 h octets) < 8) → Either (h.offset ≡ 0)
            → ((proto : Proto) × IsCarried4 proto h.proto (payload_of4 h octets)) ⊎ ((proto : Proto) → IsCarried4 proto h.proto (payload_of4 h octets) → ⊥)
            → ((inner : Inner4) × IsInner4 inner octets) ⊎ IsBadInner4 octets
        tell (inl short) first carried = inr (inr (h, has, inl short))
        tell (inr long) (inr later) carried = inr (inr (h, has, inr (inl later)))
        tell (inr long) (inl first) (inr none) = inr (inr (h, has, inr (inr none)))
        tell (inr long) (inl first) (inl carried) =
            let inner : Inner4 = record { head = h; payload = payload_of4 h octets; ports = (l4_of carried.0 (payload_of4 h octets)).ports; proto = carried.0 } in
            inl (inner, record { header = has; payload = refl; stands = omega (arith, long); first = first; carried = carried.1; ports = refl })

lacks_pointer : (m : Icmp4) (found : Option Row) → Either (LacksPointer46 m found)
lacks_pointer m None = inl tt
lacks_pointer m (Some row) = both (is_pointer row.rest) (is_none (pointer_of pointers46 (m.rest / 2 ^ 24)))

-- a message has a translation or none
pub has_no_row4 : (m : Icmp4) → Either (HasNoRow46 m)
has_no_row4 m = lacks_pointer m (row_of table46 m.kind m.code)

pub row_or_none : (m : Icmp4) → (HasNoRow46 m → ⊥) → (row : Row) × (row_of table46 m.kind m.code ≡ Some row)
row_or_none m has = some_in (row_of table46 m.kind m.code) (λ none. has (rw none tt))

-- a message stands in octets, or none does
message_or_none : (payload : List ℕ) → ((m : Icmp4) × IsIcmp4 m payload) ⊎ ((8 ≤ length payload) × IsRight payload → ⊥)
message_or_none payload = elim (both (at_most 8 (length payload)) (equal (folded (words payload)) 65535)) [
  | inl is ↦ inl (
    record { kind = octet payload 0; code = octet payload 1; rest = quad payload 4; body = drop 8 payload },
    record { stands = is.0; kind = refl; code = refl; rest = refl; body = refl; right = is.1 },
  )
  | inr none ↦ inr none
]

in_message : (payload : List ℕ) (P : Icmp4 → Type 0) → ((m : Icmp4) → Either (P m)) → Either ((m : Icmp4) × IsIcmp4 m payload × P m)
in_message payload P tell = elim (message_or_none payload) [
  | inl found ↦ of found.0 found.1 (tell found.0)
  | inr none ↦ inr (λ (m, is, p). none (is.stands, is.right))
]
  where
    of : (m : Icmp4) → IsIcmp4 m payload → Either (P m) → Either ((m : Icmp4) × IsIcmp4 m payload × P m)
    of m is (inl p) = inl (m, is, p)
    of m is (inr fails) = inr (λ (n, other, p). fails (subst P (one_message n m payload other is) p))

same_addr : (a b : Addr4) → Either (a ≡ b)
same_addr a b = elim (equal a.0 b.0) [ inl same ↦ inl (ap (λ (n : ℕ). record { 0 = n }) same) | inr other ↦ inr (λ e. other (ap (λ (x : Addr4). x.0) e)) ]

bad_embedded : (h : Head4) (m : Icmp4) → Either (IsBadEmbedded4 h m)
bad_embedded h m = elim (inner_or_bad4 (embedded46 m)) [
  | inl found ↦ of found.0 found.1 (same_addr found.0.head.src h.dst)
  | inr bad ↦ inl (inl bad)
]
  where
    of : (inner : Inner4) → IsInner4 inner (embedded46 m) → Either (inner.head.src ≡ h.dst) → Either (IsBadEmbedded4 h m)
    of inner is (inr other) = inl (inr (inner, is, other))
    of inner is (inl same) = inr fine
      where
        fine : IsBadEmbedded4 h m → ⊥
        fine bad = fine_embedded h m inner is same bad

-- an error of a row and its embedded packet
bad_error : (h : Head4) (m : Icmp4) → Either ((row : Row) × IsError4 m row × IsBadEmbedded4 h m)
bad_error h m = elim (has_no_row4 m) [
  | inl lacks ↦ inr (λ (row, error, bad). error.translated lacks)
  | inr has ↦ of has (row_or_none m has)
]
  where
    of : (HasNoRow46 m → ⊥) → (row : Row) × (row_of table46 m.kind m.code ≡ Some row) → Either ((row : Row) × IsError4 m row × IsBadEmbedded4 h m)
    of has found = elim (both (neither (is_query found.0.rest)) (bad_embedded h m)) [
      | inl is ↦ inl (found.0, record { found = found.1; translated = has; no_query = is.0 }, is.1)
      | inr none ↦ inr (λ (row, error, bad). none (subst (λ (r : Row). r.rest ≢ QueryRest) (one_found _ found.0 row found.1 error.found) error.no_query, bad))
    ]

behind : (h : Head4) (payload : List ℕ) (cause : Cause) → Either (Behind4 h payload cause)
behind h payload SourceRoute = is_true h.routed
behind h payload UnsupportedProtocol = is_none (proto4 h.proto)
behind h payload IcmpFragment = both (equal h.proto 1) (is_true (is_fragment h))
behind h payload BadTransport = both (equal h.offset 0) (in_some (proto4 h.proto) (λ proto. IsBadTransport proto payload (not h.mf)) (λ proto. bad_transport proto payload (not h.mf)))
behind h payload IcmpSum = both (equal h.proto 1) (both (at_most 8 (length payload)) (neither (equal (folded (words payload)) 65535)))
behind h payload IcmpKind = both (equal h.proto 1) (in_message payload HasNoRow46 has_no_row4)
behind h payload BadInner =
    both (equal h.proto 1)
    (elim (in_message payload (λ m. (row : Row) × IsError4 m row × IsBadEmbedded4 h m) (bad_error h)) [
      | inl found ↦ inl (found.0, found.2.0, found.1, found.2.1, found.2.2)
      | inr none ↦ inr (λ (m, row, is, error, bad). none (m, is, (row, error, bad)))
    ])
behind h payload NoUdpSum = four (equal h.proto 17) (equal h.offset 0) (is_true h.mf) (equal (word payload 6) 0)
behind h payload _ = inr (λ h. h)

behind_or_none : (h : Head4) (payload : List ℕ) → ((cause : Cause) × IsLeast (Behind4 h payload) cause) ⊎ HoldsNone (Behind4 h payload)
behind_or_none h payload = least_or_none (Behind4 h payload) (behind h payload)

icmp_number : (n : ℕ) → proto4 n ≡ Some Icmp → n ≡ 1
icmp_number n is = grind (arith, common_steps)

udp_number : (n : ℕ) → proto4 n ≡ Some Udp → n ≡ 17
udp_number n is = grind (arith, common_steps)

no_fragment : (h : Head4) → is_fragment h ≡ false → h.offset ≡ 0
no_fragment h whole = grind (arith, common_steps)

-- what a message carries that has no cause
message_content : (h : Head4) (payload : List ℕ) (m : Icmp4) → h.proto ≡ 1 → HoldsNone (Behind4 h payload) → is_fragment h ≡ false → IsIcmp4 m payload
    → (content : Content4) × IsContent4 h payload content
message_content h payload m icmp none whole is = of (row_or_none m has)
  where
    has : HasNoRow46 m → ⊥
    has lacks = none IcmpKind (icmp, (m, is, lacks))

    of : (row : Row) × (row_of table46 m.kind m.code ≡ Some row) → (content : Content4) × IsContent4 h payload content
    of (row, found) = elim (is_query row.rest) [
      | inl query ↦ (Query m row, (message, query))
      | inr no_query ↦ error no_query (inner_or_bad4 (embedded46 m))
    ]
      where
        message : IsMessage4 h payload m row
        message = record { protocol = icmp; whole = whole; message = is; found = found }

        is_error : row.rest ≢ QueryRest → IsError4 m row
        is_error no_query = record { found = found; translated = has; no_query = no_query }

        error : row.rest ≢ QueryRest → ((inner : Inner4) × IsInner4 inner (embedded46 m)) ⊎ IsBadInner4 (embedded46 m) → (content : Content4) × IsContent4 h payload content
        error no_query (inr bad) = absurd (none BadInner (icmp, (m, row, is, is_error no_query, inl bad)))
        error no_query (inl (inner, embedded)) = elim (same_addr inner.head.src h.dst) [
          | inl same ↦ (Error m row inner, record { message = message; error = is_error no_query; embedded = embedded; answers = same })
          | inr other ↦ absurd (none BadInner (icmp, (m, row, is, is_error no_query, inr (inner, embedded, other))))
        ]

-- what TCP or UDP carries that has no cause
segment_content : (h : Head4) (payload : List ℕ) (proto : Proto) → proto4 h.proto ≡ Some proto → proto ≢ Icmp → HoldsNone (Behind4 h payload)
    → (content : Content4) × IsContent4 h payload content
segment_content h payload proto protocol no_icmp none = elim (equal h.offset 0) [
  | inr later ↦ (Later proto, record { protocol = protocol; no_icmp = no_icmp; later = later })
  | inl first ↦ (
    Segment proto (l4_of proto payload),
    record {
      protocol = protocol;
      no_icmp = no_icmp;
      first = first;
      transport = λ bad. none BadTransport (first, (proto, protocol, bad));
      summed = λ more udp missing. none NoUdpSum (udp_number h.proto (protocol ∙ ap Some udp), first, more, missing);
      header = refl;
    },
  )
]

-- what stands behind a header, where nothing is a cause
content_in : (h : Head4) (payload : List ℕ) → HoldsNone (Behind4 h payload) → (content : Content4) × IsContent4 h payload content
content_in h payload none = of (some_in (proto4 h.proto) (λ unsupported. none UnsupportedProtocol unsupported))
  where
    of : (proto : Proto) × (proto4 h.proto ≡ Some proto) → (content : Content4) × IsContent4 h payload content
    of (Tcp, protocol) = segment_content h payload Tcp protocol (λ e. cc) none
    of (Udp, protocol) = segment_content h payload Udp protocol (λ e. cc) none
    of (Icmp, protocol) =
        let icmp = icmp_number h.proto protocol in
        let whole : is_fragment h ≡ false = is_false (is_fragment h) (λ fragment. none IcmpFragment (icmp, fragment)) in
        let first = no_fragment h whole in
        let stands : 8 ≤ length payload = long (λ short. none BadTransport (first, (Icmp, protocol, inl short))) in
        elim (message_or_none payload) [
          | inl found ↦ message_content h payload found.0 icmp none whole found.1
          | inr wrong ↦ absurd (none IcmpSum (icmp, (stands, λ right. wrong (stands, right))))
        ]
      where
        long : (length payload < 8 → ⊥) → 8 ≤ length payload
        long h = omega arith

-- one of both comes
pub taken_or_dropped4 : (octets : List ℕ) → ((p : Packet4) × IsPacket4 p octets) ⊎ ((cause : Cause) × IsDropped4 cause octets)
taken_or_dropped4 octets = elim (header_cause_or_none4 octets) [
  | inl found ↦ inr (found.0, inl found.1)
  | inr none ↦ header none (head_in4 octets none)
]
  where
    header : HasNoHeaderCause4 octets → (h : Head4) × Is4 h (payload_of4 h octets) octets → ((p : Packet4) × IsPacket4 p octets) ⊎ ((cause : Cause) × IsDropped4 cause octets)
    header none (h, is) = elim (behind_or_none h (payload_of4 h octets)) [
      | inl found ↦ inr (found.0, inr (h, is, none, found.1))
      | inr fine ↦ packet fine (content_in h (payload_of4 h octets) fine)
    ]
      where
        packet : HoldsNone (Behind4 h (payload_of4 h octets)) → (content : Content4) × IsContent4 h (payload_of4 h octets) content → ((p : Packet4) × IsPacket4 p octets) ⊎ ((cause : Cause) × IsDropped4 cause octets)
        packet fine (content, carried) = inl (
          record { head = h; content = content },
          record { is = is; header = none; unrouted = is_false h.routed (λ routed. fine SourceRoute routed); content = carried },
        )

-- never both
pub never_both4 : (p : Packet4) (cause : Cause) (octets : List ℕ) → IsPacket4 p octets → IsDropped4 cause octets → ⊥
never_both4 p cause octets is (inl header) = is.header cause header.0
never_both4 p cause octets is (inr (h, other, none, least)) =
    let same : h ≡ p.head = same_head4 h p.head octets other is.is in
    content_spares p.head (payload_of4 p.head octets) p.content cause is.unrouted is.content (subst (λ (x : Head4). Behind4 x (payload_of4 x octets) cause) same least.0)

-- one cause
pub one_cause4 : (c d : Cause) (octets : List ℕ) → IsDropped4 c octets → IsDropped4 d octets → c ≡ d
one_cause4 c d octets (inl a) (inl b) = one_least _ c d a b
one_cause4 c d octets (inl a) (inr (h, is, none, least)) = absurd (none c a.0)
one_cause4 c d octets (inr (h, is, none, least)) (inl b) = absurd (none d b.0)
one_cause4 c d octets (inr (h, is, none, least)) (inr (g, other, fine, found)) =
    let same : g ≡ h = same_head4 g h octets other is in
    one_least _ c d least (subst (λ (x : Head4). IsLeast (Behind4 x (payload_of4 x octets)) d) same found)

one_proto : (n : ℕ) (p q : Proto) → proto4 n ≡ Some p → proto4 n ≡ Some q → p ≡ q
one_proto n p q a b = cc

one_row : (m n : Icmp4) (r s : Row) → m ≡ n → row_of table46 m.kind m.code ≡ Some r → row_of table46 n.kind n.code ≡ Some s → r ≡ s
one_row m n r s same a b = let e : row_of table46 n.kind n.code ≡ Some r = rw same at a in cc

query_or_error : (h : Head4) (payload : List ℕ) (m n : Icmp4) (r s : Row) (inner : Inner4) → IsMessage4 h payload m r → r.rest ≡ QueryRest → IsErrorOf4 h payload n s inner → ⊥
query_or_error h payload m n r s inner is query error =
    let same = one_message m n payload is.message error.message.message in
    let row = one_row m n r s same is.found error.message.found in
    error.error.no_query (ap (λ (x : Row). x.rest) (sym row) ∙ query)

-- one content stands behind a header
pub one_content4 : (h : Head4) (payload : List ℕ) (c d : Content4) → IsContent4 h payload c → IsContent4 h payload d → c ≡ d
one_content4 h payload (Segment p l) (Segment q k) a b =
    let proto = one_proto h.proto p q a.protocol b.protocol in
    let l4 : l ≡ k = a.header ∙ ap (λ (x : Proto). l4_of x payload) proto ∙ sym b.header in
    λ i. Segment (proto i) (l4 i)
one_content4 h payload (Later p) (Later q) a b = ap Later (one_proto h.proto p q a.protocol b.protocol)
one_content4 h payload (Query m r) (Query n s) a b =
    let same = one_message m n payload a.0.message b.0.message in
    let row = one_row m n r s same a.0.found b.0.found in
    λ i. Query (same i) (row i)
one_content4 h payload (Error m r x) (Error n s y) a b =
    let same = one_message m n payload a.message.message b.message.message in
    let row = one_row m n r s same a.message.found b.message.found in
    let inner = one_inner4 x y (embedded46 n) (rw same at a.embedded) b.embedded in
    λ i. Error (same i) (row i) (inner i)
one_content4 h payload (Segment p l) (Later q) a b = absurd (b.later a.first)
one_content4 h payload (Segment p l) (Query n s) a b = absurd (a.no_icmp (icmp_alone h.proto p b.0.protocol a.protocol))
one_content4 h payload (Segment p l) (Error n s y) a b = absurd (a.no_icmp (icmp_alone h.proto p b.message.protocol a.protocol))
one_content4 h payload (Later p) (Segment q k) a b = absurd (a.later b.first)
one_content4 h payload (Later p) (Query n s) a b = absurd (a.no_icmp (icmp_alone h.proto p b.0.protocol a.protocol))
one_content4 h payload (Later p) (Error n s y) a b = absurd (a.no_icmp (icmp_alone h.proto p b.message.protocol a.protocol))
one_content4 h payload (Query m r) (Segment q k) a b = absurd (b.no_icmp (icmp_alone h.proto q a.0.protocol b.protocol))
one_content4 h payload (Query m r) (Later q) a b = absurd (b.no_icmp (icmp_alone h.proto q a.0.protocol b.protocol))
one_content4 h payload (Query m r) (Error n s y) a b = absurd (query_or_error h payload m n r s y a.0 a.1 b)
one_content4 h payload (Error m r x) (Segment q k) a b = absurd (b.no_icmp (icmp_alone h.proto q a.message.protocol b.protocol))
one_content4 h payload (Error m r x) (Later q) a b = absurd (b.no_icmp (icmp_alone h.proto q a.message.protocol b.protocol))
one_content4 h payload (Error m r x) (Query n s) a b = absurd (query_or_error h payload n m s r x b.0 b.1 a)

-- octets are one packet
pub same_packet4 : (p q : Packet4) (octets : List ℕ) → IsPacket4 p octets → IsPacket4 q octets → p ≡ q
same_packet4 p q octets a b =
    let head = same_head4 p.head q.head octets a.is b.is in
    let carried : IsContent4 q.head (payload_of4 q.head octets) p.content = subst (λ (h : Head4). IsContent4 h (payload_of4 h octets) p.content) head a.content in
    let content = one_content4 q.head (payload_of4 q.head octets) p.content q.content carried b.content in
    λ i. record { head = head i; content = content i }
