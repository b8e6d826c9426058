-- The packets that the translators of IPv4 take are those that a node takes.
use Rattle.std.proofs.Common.{◌≡◌, ◌≢◌, ◌⊎◌, ◌<◌, ℕ, List, false, sym, ◌∙◌, refl, ap, Some, inl, inr, arith, subst}
use Rattle.std.specs.Prelude.{not}
use Rattle.std.proofs.lemmas.Grind.{common_steps}
use Rattle.octets.specs.Cause.{number_of}
use Rattle.octets.specs.declared.cause.Cause.{Cause}
use Rattle.octets.specs.declared.cause.Cause.TheVariants.{SourceRoute, UnsupportedProtocol, IcmpFragment, BadTransport, IcmpSum, IcmpKind, BadInner, NoUdpSum}
use Rattle.ip4_packet.specs.declared.head.Head4.{Head4}
use Rattle.ip4_packet.specs.Causes.{HasNoHeaderCause4}
use Rattle.ip4_packet.specs.Grammar.{payload_of4, Is4}
use Rattle.l4_headers.specs.Transport.{l4_of}
use Rattle.icmp_messages.specs.declared.icmp4.Icmp4.{Icmp4}
use Rattle.icmp_messages.specs.declared.inner4.Inner4.{Inner4}
use Rattle.icmp_messages.specs.Message.{IsIcmp4}
use Rattle.icmp_messages.specs.Inner.{IsInner4}
use Rattle.ip4_packet.specs.Fragment.{is_fragment}
use Rattle.xlat46.specs.Whole.{Parts4, IsCarried4, HasNoTcpUdpCause4}
use Rattle.icmp_messages.specs.declared.table.Row.{Row}
use Rattle.icmp_messages.specs.declared.table.Rest.TheVariants.{Query as QueryRest}
use Rattle.icmp_messages.specs.Table.{table46, row_of}
use Rattle.icmp_xlat.specs.Icmp46.{IsMessage46}
use Rattle.icmp_messages.specs.Rows.{HasNoRow46, EmbedsOne46, MayEmbed46}
use Rattle.icmp_messages.specs.Extension.{embedded46}
use Rattle.packets.specs.declared.packet4.Content4.{Content4}
use Rattle.packets.specs.declared.packet4.Content4.TheVariants.{Segment, Later, Query, Error}
use Rattle.transit.specs.Accepted.{IsOf4, TakesParts4, TakesMessage4, EmbedsFor4}
use Rattle.packets.specs.Behind4.{Behind4}
use Rattle.packets.specs.Packet4.{IsContent4, IsPacket4, IsMessage4}
use Rattle.packets.proofs.Decided.{equal, is_false}
use Rattle.packets.proofs.Header4.{same_head4}
use Rattle.packets.proofs.Rests.{is_query}
use Rattle.packets.proofs.Spared4.{one_message, icmp_alone, no_bad_message, one_row}
use Rattle.packets.proofs.Taken4.{row_or_none, has_no_row4}

-- a segment or a later fragment has parts without a cause
carried : (parts : Parts4) (content : Content4) → parts.head.routed ≡ false → IsContent4 parts.head parts.payload content → IsOf4 parts.proto content → IsCarried4 parts
carried parts (Segment proto l4) unrouted is same = record {
  protocol = is.protocol ∙ ap Some (sym same);
  no_icmp = λ icmp. is.no_icmp (sym same ∙ icmp);
  unrouted = unrouted;
  transport = λ first bad. is.transport (rw same at bad);
  summed = λ first more udp. is.summed more (sym same ∙ udp);
}
carried parts (Later proto) unrouted is same = record {
  protocol = is.protocol ∙ ap Some (sym same);
  no_icmp = λ icmp. is.no_icmp (sym same ∙ icmp);
  unrouted = unrouted;
  transport = λ first. absurd (is.later first);
  summed = λ first. absurd (is.later first);
}
carried parts (Query m row) unrouted is same = absurd same
carried parts (Error m row inner) unrouted is same = absurd same

content_of : (parts : Parts4) → IsCarried4 parts → (content : Content4) × IsContent4 parts.head parts.payload content × IsOf4 parts.proto content
content_of parts is = elim (equal parts.head.offset 0) [
  | inl first ↦ (
    Segment parts.proto (l4_of parts.proto parts.payload),
    record { protocol = is.protocol; no_icmp = is.no_icmp; first = first; transport = is.transport first; summed = is.summed first; header = refl },
    refl,
  )
  | inr later ↦ (Later parts.proto, record { protocol = is.protocol; no_icmp = is.no_icmp; later = later }, refl)
]

pub segments4 : (parts : Parts4) (octets : List ℕ) → (HasNoTcpUdpCause4 parts octets → TakesParts4 parts octets) × (TakesParts4 parts octets → HasNoTcpUdpCause4 parts octets)
segments4 parts octets = (there, back)
  where
    there : HasNoTcpUdpCause4 parts octets → TakesParts4 parts octets
    there is =
        let found = content_of parts is.carried in (
          found.0,
          record {
            is = subst (λ (payload : List ℕ). Is4 parts.head payload octets) is.is.payload_is is.is;
            header = is.header;
            unrouted = is.carried.unrouted;
            content = subst (λ (payload : List ℕ). IsContent4 parts.head payload found.0) is.is.payload_is found.1;
          },
          is.is.payload_is,
          found.2,
        )

    back : TakesParts4 parts octets → HasNoTcpUdpCause4 parts octets
    back (content, is, payload, of) = record {
      is = subst (λ (x : List ℕ). Is4 parts.head x octets) (sym payload) is.is;
      header = is.header;
      carried = carried parts content is.unrouted (subst (λ (x : List ℕ). IsContent4 parts.head x content) (sym payload) is.content) of;
    }

one_row_at : (m : Icmp4) (row : Row) (P : Row → Type 0) → row_of table46 m.kind m.code ≡ Some row → P row → (found : Row) → row_of table46 m.kind m.code ≡ Some found → P found
one_row_at m row P is holds found other = subst P (sym (one_row _ row found is other)) holds

some_row : (m : Icmp4) (row : Row) → row_of table46 m.kind m.code ≡ Some row → EmbedsOne46 m (Some row) → EmbedsOne46 m (row_of table46 m.kind m.code)
some_row m row found embeds = rw found embeds

-- what is asked of the embedded packet is asked by the translator too
may_embed : (h : Head4) (m : Icmp4) → EmbedsFor4 h m → MayEmbed46 m
may_embed h m embeds = λ has. of has (row_or_none m has)
  where
    of : (HasNoRow46 m → ⊥) → (row : Row) × (row_of table46 m.kind m.code ≡ Some row) → EmbedsOne46 m (row_of table46 m.kind m.code)
    of has (row, found) = some_row m row found (elim (embeds row found has) [ inl query ↦ inl query | inr (inner, is, same) ↦ inr (inner, is) ])

message_of : (h : Head4) (m : Icmp4) (octets : List ℕ) (row : Row) → Is4 h (payload_of4 h octets) octets → HasNoHeaderCause4 octets → h.routed ≡ false
    → IsMessage4 h (payload_of4 h octets) m row → IsMessage46 h m octets
message_of h m octets row is header unrouted message =
    record { is = is; header = header; protocol = message.protocol; unrouted = unrouted; whole = message.whole; message = message.message }

pub messages4 : (h : Head4) (m : Icmp4) (octets : List ℕ) → TakesMessage4 h m octets → IsMessage46 h m octets × MayEmbed46 m × EmbedsFor4 h m
messages4 h m octets (inl (row, is)) =
    let embeds : EmbedsFor4 h m = λ found other has. inl (one_row_at m row (λ (r : Row). r.rest ≡ QueryRest) is.content.0.found is.content.1 found other) in
    (message_of h m octets row is.is is.header is.unrouted is.content.0, may_embed h m embeds, embeds)
messages4 h m octets (inr (inl (row, inner, is))) =
    let embeds : EmbedsFor4 h m = λ found other has. inr (inner, is.content.embedded, is.content.answers) in
    (message_of h m octets row is.is is.header is.unrouted is.content.message, may_embed h m embeds, embeds)
messages4 h m octets (inr (inr (inl header, is, message))) = absurd header.0
messages4 h m octets (inr (inr (inr (g, there, none, least), is, message))) =
    let same : g ≡ h = same_head4 g h octets there is in
    let payload = payload_of4 h octets in
    let holds : Behind4 h payload IcmpKind = subst (λ (x : Head4). Behind4 x (payload_of4 x octets) IcmpKind) same least.0 in
    let lesser : (cause : Cause) → number_of cause < 11 → Behind4 h payload cause → ⊥ = subst (λ (x : Head4). (cause : Cause) → number_of cause < 11 → Behind4 x (payload_of4 x octets) cause → ⊥) same least.1 in
    let lacks : HasNoRow46 m = subst HasNoRow46 (one_message holds.1.0 m payload holds.1.1 message) holds.1.2 in
    let embeds : EmbedsFor4 h m = λ found other has. absurd (has lacks) in (
      record {
        is = is;
        header = none;
        protocol = holds.0;
        unrouted = is_false h.routed (lesser SourceRoute (omega arith));
        whole = is_false (is_fragment h) (λ fragment. lesser IcmpFragment (omega arith) (holds.0, fragment));
        message = message;
      },
      may_embed h m embeds,
      embeds,
    )

-- a message without a translation has no lesser cause
before_kind : (h : Head4) (m : Icmp4) (payload : List ℕ) → h.proto ≡ 1 → h.routed ≡ false → is_fragment h ≡ false → IsIcmp4 m payload
    → (lesser : Cause) → number_of lesser < 11 → Behind4 h payload lesser → ⊥
before_kind h m payload icmp unrouted whole is SourceRoute less behind = cc
before_kind h m payload icmp unrouted whole is UnsupportedProtocol less behind = grind (arith, common_steps, icmp)
before_kind h m payload icmp unrouted whole is IcmpFragment less behind = grind (arith, common_steps, whole)
before_kind h m payload icmp unrouted whole is BadTransport less (first, (proto, protocol, bad)) =
    no_bad_message payload proto (not h.mf) is (icmp_alone h.proto proto icmp protocol) bad
before_kind h m payload icmp unrouted whole is IcmpSum less behind = behind.1.1 is.right
before_kind h m payload icmp unrouted whole is IcmpKind less behind = omega (arith, less)
before_kind h m payload icmp unrouted whole is BadInner less behind = omega (arith, less)
before_kind h m payload icmp unrouted whole is NoUdpSum less behind = omega (arith, less)
before_kind h m payload icmp unrouted whole is _ less behind = behind

pub found4 : (h : Head4) (m : Icmp4) (octets : List ℕ) → IsMessage46 h m octets → EmbedsFor4 h m → TakesMessage4 h m octets
found4 h m octets is embeds = elim (has_no_row4 m) [
  | inl lacks ↦ inr (inr (inr (h, is.is, is.header, ((is.protocol, (m, is.message, lacks)), before_kind h m (payload_of4 h octets) is.protocol is.unrouted is.whole is.message)), is.is, is.message))
  | inr has ↦ of has (row_or_none m has)
]
  where
    of : (HasNoRow46 m → ⊥) → (row : Row) × (row_of table46 m.kind m.code ≡ Some row) → TakesMessage4 h m octets
    of has (row, found) = elim (is_query row.rest) [ inl query ↦ inl (row, queried query) | inr other ↦ erred other (embeds row found has) ]
      where
        message : IsMessage4 h (payload_of4 h octets) m row
        message = record { protocol = is.protocol; whole = is.whole; message = is.message; found = found }

        queried : row.rest ≡ QueryRest → IsPacket4 (record { head = h; content = Query m row }) octets
        queried query = record { is = is.is; header = is.header; unrouted = is.unrouted; content = (message, query) }

        erred : row.rest ≢ QueryRest → (row.rest ≡ QueryRest) ⊎ ((inner : Inner4) × IsInner4 inner (embedded46 m) × (inner.head.src ≡ h.dst)) → TakesMessage4 h m octets
        erred other (inl query) = absurd (other query)
        erred other (inr (inner, embedded, answers)) = inr (inl (
          row,
          inner,
          record {
            is = is.is;
            header = is.header;
            unrouted = is.unrouted;
            content = record { message = message; error = record { found = found; translated = has; no_query = other }; embedded = embedded; answers = answers };
          },
        ))
