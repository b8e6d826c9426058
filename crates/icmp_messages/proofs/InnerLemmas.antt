-- An embedded packet that is read isn't refused, and is one.
use Rattle.std.proofs.Common.{◌≡◌, ℕ, ◌≤◌, List, length, inl, inr, refl, sym, ap, ◌∙◌, subst, arith}
use Rattle.octets.specs.declared.proto.Proto.{Proto}
use Rattle.octets.specs.declared.proto.Proto.TheVariants.{Tcp, Udp, Icmp}
use Rattle.ip6_packet.specs.declared.head.Head6.{Head6}
use Rattle.ip6_packet.specs.Fragment.{fragment_offset}
use Rattle.ip6_packet.specs.Grammar.{payload_of6}
use Rattle.ip6_packet.proofs.EmbeddedLemmas.{same_headers6, lacks_none6}
use Rattle.ip6_packet.specs.Embedded.{HasHeaders6}
use Rattle.l4_headers.specs.Transport.{l4_of}
use Rattle.icmp_messages.specs.declared.inner6.Inner6.{Inner6}
use Rattle.icmp_messages.specs.Inner.{IsCarried6, IsInner6, IsBadBehind6, IsBadInner6}

fine6 : (h : Head6) (proto : Proto) (payload : List ℕ) → 8 ≤ length payload → fragment_offset h.frag ≡ 0 → IsCarried6 proto h.upper payload → IsBadBehind6 h payload → ⊥
fine6 h proto payload stands first carried (inl short) = omega arith
fine6 h proto payload stands first carried (inr (inl later)) = later first
fine6 h proto payload stands first carried (inr (inr other)) = other proto carried

-- octets with a header, a payload behind it, and a protocol that is carried have no fault
pub not_bad6 : (h : Head6) (proto : Proto) (octets : List ℕ) → HasHeaders6 h octets → 8 ≤ length (payload_of6 h octets)
    → fragment_offset h.frag ≡ 0 → IsCarried6 proto h.upper (payload_of6 h octets) → IsBadInner6 octets → ⊥
not_bad6 h proto octets has stands first carried (inl lacks) = lacks_none6 h octets has lacks
not_bad6 h proto octets has stands first carried (inr (g, other, bad)) =
    fine6 h proto (payload_of6 h octets) stands first carried (rw (same_headers6 g h octets other has) at bad)

one_proto6 : (a b : Proto) (number : ℕ) (one other : List ℕ) → IsCarried6 a number one → IsCarried6 b number other → a ≡ b
one_proto6 Tcp Tcp number one other is also = refl
one_proto6 Udp Udp number one other is also = refl
one_proto6 Icmp Icmp number one other is also = refl
one_proto6 Tcp Udp number one other is also = absurd (omega (arith, is, also))
one_proto6 Tcp Icmp number one other is also = absurd (omega (arith, is, also.0))
one_proto6 Udp Tcp number one other is also = absurd (omega (arith, is, also))
one_proto6 Udp Icmp number one other is also = absurd (omega (arith, is, also.0))
one_proto6 Icmp Tcp number one other is also = absurd (omega (arith, is.0, also))
one_proto6 Icmp Udp number one other is also = absurd (omega (arith, is.0, also))

-- octets begin with one embedded packet
pub one_inner6 : (a b : Inner6) (octets : List ℕ) → IsInner6 a octets → IsInner6 b octets → a ≡ b
one_inner6 a b octets is also =
    let head : a.head ≡ b.head = same_headers6 a.head b.head octets is.headers also.headers in
    let payload : a.payload ≡ b.payload = is.payload ∙ ap (λ (h : Head6). payload_of6 h octets) head ∙ sym also.payload in
    let proto : a.proto ≡ b.proto = one_proto6 a.proto b.proto b.head.upper a.payload b.payload (subst (λ (h : Head6). IsCarried6 a.proto h.upper a.payload) head is.carried) also.carried in
    let ports : a.ports ≡ b.ports = is.ports ∙ ap (λ (xs : List ℕ). (l4_of a.proto xs).ports) payload ∙ ap (λ (p : Proto). (l4_of p b.payload).ports) proto ∙ sym also.ports in
    λ i. record { head = head i; payload = payload i; ports = ports i; proto = proto i }
