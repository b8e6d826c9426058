-- The packets that the translators of IPv6 take are those that a node takes.
use Rattle.std.proofs.Common.{◌≡◌, ◌≢◌, ◌⊎◌, ◌<◌, ℕ, List, sym, ◌∙◌, refl, ap, Some, None, inl, inr, arith, subst}
use Rattle.std.specs.Prelude.{Bool, not}
use Rattle.std.proofs.lemmas.Grind.{common_steps}
use Rattle.octets.specs.Cause.{number_of}
use Rattle.octets.specs.declared.cause.Cause.{Cause}
use Rattle.octets.specs.declared.cause.Cause.TheVariants.{SourceRoute, UnsupportedProtocol, IcmpFragment, BadTransport, IcmpSum, IcmpKind, BadInner, NoUdpSum}
use Rattle.ip6_packet.specs.declared.head.Head6.{Head6}
use Rattle.ip6_packet.specs.Causes.{HasNoHeaderCause6}
use Rattle.ip6_packet.specs.Grammar.{payload_of6, Is6}
use Rattle.l4_headers.specs.Transport.{l4_of}
use Rattle.icmp_messages.specs.declared.icmp6.Icmp6.{Icmp6}
use Rattle.icmp_messages.specs.declared.inner6.Inner6.{Inner6}
use Rattle.icmp_messages.specs.Message.{IsIcmp6}
use Rattle.icmp_messages.specs.Inner.{IsInner6}
use Rattle.ip6_packet.specs.Fragment.{fragment_offset, more_fragments, IsFragment6}
use Rattle.xlat64.specs.Whole.{Parts6, IsCarried6, HasNoTcpUdpCause6}
use Rattle.icmp_messages.specs.declared.table.Row.{Row}
use Rattle.icmp_messages.specs.declared.table.Rest.TheVariants.{Query as QueryRest}
use Rattle.icmp_messages.specs.Table.{table64, row_of}
use Rattle.icmp_xlat.specs.Icmp64.{IsMessage64}
use Rattle.icmp_messages.specs.Rows.{HasNoRow64, EmbedsOne64, MayEmbed64}
use Rattle.icmp_messages.specs.Extension.{embedded64}
use Rattle.packets.specs.declared.packet6.Content6.{Content6}
use Rattle.packets.specs.declared.packet6.Content6.TheVariants.{Segment, Later, Query, Error}
use Rattle.transit.specs.Accepted.{IsOf6, TakesParts6, TakesMessage6, EmbedsFor6}
use Rattle.packets.specs.Behind6.{Behind6, IsAnswered6}
use Rattle.packets.specs.Packet6.{IsContent6, IsPacket6, IsMessage6}
use Rattle.packets.proofs.Decided.{equal, is_false}
use Rattle.packets.proofs.Header6.{same_head6}
use Rattle.packets.proofs.Rests.{is_query}
use Rattle.packets.proofs.Spared6.{one_message, icmp_alone, no_bad_message, no_left, whole6, one_row}
use Rattle.packets.proofs.Taken6.{row_or_none, has_no_row6, no_fragment, none_left}

-- a segment or a later fragment has parts without a cause
carried : (at_relay : Bool) (parts : Parts6) (content : Content6) → parts.head.left ≡ None → IsContent6 at_relay parts.head parts.payload content → IsOf6 parts.proto content → IsCarried6 parts
carried at_relay parts (Segment proto l4) unrouted is same = record {
  protocol = is.protocol ∙ ap Some (sym same);
  no_icmp = λ icmp. is.no_icmp (sym same ∙ icmp);
  unrouted = unrouted;
  transport = λ first bad. is.transport (rw same at bad);
  summed = λ first udp. is.summed (sym same ∙ udp);
}
carried at_relay parts (Later proto) unrouted is same = record {
  protocol = is.protocol ∙ ap Some (sym same);
  no_icmp = λ icmp. is.no_icmp (sym same ∙ icmp);
  unrouted = unrouted;
  transport = λ first. absurd (is.later first);
  summed = λ first. absurd (is.later first);
}
carried at_relay parts (Query m row) unrouted is same = absurd same
carried at_relay parts (Error m row inner) unrouted is same = absurd same

content_of : (at_relay : Bool) (parts : Parts6) → IsCarried6 parts → (content : Content6) × IsContent6 at_relay parts.head parts.payload content × IsOf6 parts.proto content
content_of at_relay parts is = elim (equal (fragment_offset parts.head.frag) 0) [
  | inl first ↦ (
    Segment parts.proto (l4_of parts.proto parts.payload),
    record { protocol = is.protocol; no_icmp = is.no_icmp; first = first; transport = is.transport first; summed = is.summed first; header = refl },
    refl,
  )
  | inr later ↦ (Later parts.proto, record { protocol = is.protocol; no_icmp = is.no_icmp; later = later }, refl)
]

pub segments6 : (at_relay : Bool) (parts : Parts6) (octets : List ℕ) → (HasNoTcpUdpCause6 parts octets → TakesParts6 at_relay parts octets) × (TakesParts6 at_relay parts octets → HasNoTcpUdpCause6 parts octets)
segments6 at_relay parts octets = (there, back)
  where
    there : HasNoTcpUdpCause6 parts octets → TakesParts6 at_relay parts octets
    there is =
        let found = content_of at_relay parts is.carried in (
          found.0,
          record {
            is = subst (λ (payload : List ℕ). Is6 parts.head payload octets) is.is.payload_is is.is;
            header = is.header;
            unrouted = is.carried.unrouted;
            content = subst (λ (payload : List ℕ). IsContent6 at_relay parts.head payload found.0) is.is.payload_is found.1;
          },
          is.is.payload_is,
          found.2,
        )

    back : TakesParts6 at_relay parts octets → HasNoTcpUdpCause6 parts octets
    back (content, is, payload, of) = record {
      is = subst (λ (x : List ℕ). Is6 parts.head x octets) (sym payload) is.is;
      header = is.header;
      carried = carried at_relay parts content is.unrouted (subst (λ (x : List ℕ). IsContent6 at_relay parts.head x content) (sym payload) is.content) of;
    }

one_row_at : (m : Icmp6) (row : Row) (P : Row → Type 0) → row_of table64 m.kind m.code ≡ Some row → P row → (found : Row) → row_of table64 m.kind m.code ≡ Some found → P found
one_row_at m row P is holds found other = subst P (sym (one_row _ row found is other)) holds

some_row : (m : Icmp6) (row : Row) → row_of table64 m.kind m.code ≡ Some row → EmbedsOne64 m (Some row) → EmbedsOne64 m (row_of table64 m.kind m.code)
some_row m row found embeds = rw found embeds

-- what is asked of the embedded packet is asked by the translator too
may_embed : (at_relay : Bool) (h : Head6) (m : Icmp6) → EmbedsFor6 at_relay h m → MayEmbed64 m
may_embed at_relay h m embeds = λ has. of has (row_or_none m has)
  where
    of : (HasNoRow64 m → ⊥) → (row : Row) × (row_of table64 m.kind m.code ≡ Some row) → EmbedsOne64 m (row_of table64 m.kind m.code)
    of has (row, found) = some_row m row found (elim (embeds row found has) [ inl query ↦ inl query | inr (inner, is, same) ↦ inr (inner, is) ])

message_of : (h : Head6) (m : Icmp6) (octets : List ℕ) (row : Row) → Is6 h (payload_of6 h octets) octets → HasNoHeaderCause6 octets → h.left ≡ None
    → IsMessage6 h (payload_of6 h octets) m row → IsMessage64 h m octets
message_of h m octets row is header unrouted message =
    record {
      is = is;
      header = header;
      protocol = message.protocol;
      unrouted = unrouted;
      offset = no_fragment h message.whole;
      whole = is_false (more_fragments h.frag) (λ more. message.whole (inl more));
      message = message.message;
    }

pub messages6 : (at_relay : Bool) (h : Head6) (m : Icmp6) (octets : List ℕ) → TakesMessage6 at_relay h m octets → IsMessage64 h m octets × MayEmbed64 m × EmbedsFor6 at_relay h m
messages6 at_relay h m octets (inl (row, is)) =
    let embeds : EmbedsFor6 at_relay h m = λ found other has. inl (one_row_at m row (λ (r : Row). r.rest ≡ QueryRest) is.content.0.found is.content.1 found other) in
    (message_of h m octets row is.is is.header is.unrouted is.content.0, may_embed at_relay h m embeds, embeds)
messages6 at_relay h m octets (inr (inl (row, inner, is))) =
    let embeds : EmbedsFor6 at_relay h m = λ found other has. inr (inner, is.content.embedded, is.content.answers) in
    (message_of h m octets row is.is is.header is.unrouted is.content.message, may_embed at_relay h m embeds, embeds)
messages6 at_relay h m octets (inr (inr (inl header, is, message))) = absurd header.0
messages6 at_relay h m octets (inr (inr (inr (g, there, none, least), is, message))) =
    let same : g ≡ h = same_head6 g h octets there is in
    let payload = payload_of6 h octets in
    let holds : Behind6 at_relay h payload IcmpKind = subst (λ (x : Head6). Behind6 at_relay x (payload_of6 x octets) IcmpKind) same least.0 in
    let lesser : (cause : Cause) → number_of cause < 11 → Behind6 at_relay h payload cause → ⊥ = subst (λ (x : Head6). (cause : Cause) → number_of cause < 11 → Behind6 at_relay x (payload_of6 x octets) cause → ⊥) same least.1 in
    let lacks : HasNoRow64 m = subst HasNoRow64 (one_message holds.1.0 m payload holds.1.1 message) holds.1.2 in
    let embeds : EmbedsFor6 at_relay h m = λ found other has. absurd (has lacks) in (
      record {
        is = is;
        header = none;
        protocol = holds.0;
        unrouted = none_left h.left (lesser SourceRoute (omega arith));
        offset = no_fragment h (λ fragment. lesser IcmpFragment (omega arith) (holds.0, fragment));
        whole = is_false (more_fragments h.frag) (λ more. lesser IcmpFragment (omega arith) (holds.0, inl more));
        message = message;
      },
      may_embed at_relay h m embeds,
      embeds,
    )

-- a message without a translation has no lesser cause
before_kind : (at_relay : Bool) (h : Head6) (m : Icmp6) (payload : List ℕ) → h.upper ≡ 58 → h.left ≡ None → (IsFragment6 h → ⊥) → IsIcmp6 h.src h.dst m payload
    → (lesser : Cause) → number_of lesser < 11 → Behind6 at_relay h payload lesser → ⊥
before_kind at_relay h m payload icmp unrouted whole is SourceRoute less behind = no_left h.left unrouted behind
before_kind at_relay h m payload icmp unrouted whole is UnsupportedProtocol less behind = grind (arith, common_steps, icmp)
before_kind at_relay h m payload icmp unrouted whole is IcmpFragment less behind = whole behind.1
before_kind at_relay h m payload icmp unrouted whole is BadTransport less (first, (proto, protocol, bad)) =
    no_bad_message payload proto (not (more_fragments h.frag)) is (icmp_alone h.upper proto icmp protocol) bad
before_kind at_relay h m payload icmp unrouted whole is IcmpSum less behind = behind.1.1 is.right
before_kind at_relay h m payload icmp unrouted whole is IcmpKind less behind = omega (arith, less)
before_kind at_relay h m payload icmp unrouted whole is BadInner less behind = omega (arith, less)
before_kind at_relay h m payload icmp unrouted whole is NoUdpSum less behind = omega (arith, less)
before_kind at_relay h m payload icmp unrouted whole is _ less behind = behind

pub found6 : (at_relay : Bool) (h : Head6) (m : Icmp6) (octets : List ℕ) → IsMessage64 h m octets → EmbedsFor6 at_relay h m → TakesMessage6 at_relay h m octets
found6 at_relay h m octets is embeds = elim (has_no_row6 m) [
  | inl lacks ↦ inr (inr (inr (h, is.is, is.header, ((is.protocol, (m, is.message, lacks)), before_kind at_relay h m (payload_of6 h octets) is.protocol is.unrouted (whole6 h is.whole is.offset) is.message)), is.is, is.message))
  | inr has ↦ of has (row_or_none m has)
]
  where
    of : (HasNoRow64 m → ⊥) → (row : Row) × (row_of table64 m.kind m.code ≡ Some row) → TakesMessage6 at_relay h m octets
    of has (row, found) = elim (is_query row.rest) [ inl query ↦ inl (row, queried query) | inr other ↦ erred other (embeds row found has) ]
      where
        message : IsMessage6 h (payload_of6 h octets) m row
        message = record { protocol = is.protocol; whole = whole6 h is.whole is.offset; message = is.message; found = found }

        queried : row.rest ≡ QueryRest → IsPacket6 at_relay (record { head = h; content = Query m row }) octets
        queried query = record { is = is.is; header = is.header; unrouted = is.unrouted; content = (message, query) }

        erred : row.rest ≢ QueryRest → (row.rest ≡ QueryRest) ⊎ ((inner : Inner6) × IsInner6 inner (embedded64 m) × IsAnswered6 at_relay h inner) → TakesMessage6 at_relay h m octets
        erred other (inl query) = absurd (other query)
        erred other (inr (inner, embedded, answers)) = inr (inl (
          row,
          inner,
          record {
            is = is.is;
            header = is.header;
            unrouted = is.unrouted;
            content = record { message = message; error = record { found = found; translated = has; no_query = other }; embedded = embedded; answers = answers };
          },
        ))
