-- What was read of a packet that is accepted.
use Rattle.std.proofs.Common.{◌≡◌, ℕ, ◌+◌, ◌*◌, ◌-◌, ◌<◌, List, Option, Some, None, inl, inr, arith, sym, ap, ◌∙◌, refl}
use Rattle.std.proofs.lemmas.Bool.{cases_lt}
use Rattle.octets.specs.Protocol.{proto6}
use Rattle.octets.specs.declared.cause.Cause.TheVariants.{BadHeader}
use Rattle.octets.specs.declared.proto.Proto.{Proto}
use Rattle.ip6_packet.specs.declared.head.Head6.{Head6}
use Rattle.ip6_packet.specs.declared.head.Frag6.{Frag6}
use Rattle.ip6_packet.specs.Grammar.{payload_len, payload_of6, Is6}
use Rattle.ip6_packet.specs.Causes.{IsWrongFrag6, HasNoHeaderCause6}
use Rattle.ip6_packet.specs.Fragment.{fragment_offset}
use Rattle.xlat64.specs.Whole.{Parts6, HasNoTcpUdpCause6}

-- the offset of a fragment that ends within the greatest payload
low_offset : (frag : Option Frag6) (len : ℕ) → (IsWrongFrag6 frag len → ⊥) → fragment_offset frag < 8192
low_offset None len agreed = omega arith
low_offset (Some frag) len agreed =
    elim (cases_lt 65535 (frag.offset * 8 + len)) [ inl lt ↦ absurd (agreed (inl lt)) | inr le ↦ omega arith ]

pub offset_fits : (h : Head6) (payload octets : List ℕ) → Is6 h payload octets → HasNoHeaderCause6 octets → fragment_offset h.frag < 8192
offset_fits h payload octets is none =
    low_offset h.frag (40 + payload_len octets - h.start) (rw is.chain at (none BadHeader))

-- what was read are the parts
pub are_parts : (p : Parts6) (octets : List ℕ) (head : Head6) (proto : Proto) (payload : List ℕ) → HasNoTcpUdpCause6 p octets → p.head ≡ head
    → proto6 head.upper ≡ Some proto → payload ≡ payload_of6 head octets → p ≡ record { head = head; proto = proto; payload = payload }
are_parts p octets head proto payload sound is_head is_proto is_payload =
    let protocol : proto6 head.upper ≡ Some p.proto = rw is_head at sound.carried.protocol in
    let same : p.proto ≡ proto = cc in
    let rest : p.payload ≡ payload = sound.is.payload_is ∙ ap (λ (h : Head6). payload_of6 h octets) is_head ∙ sym is_payload in
    let made : Parts6 = record { head = p.head; proto = p.proto; payload = p.payload } in
    let first : p ≡ made = refl in
    first ∙ rw (is_head, same, rest) refl
