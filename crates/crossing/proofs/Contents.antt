-- What is read behind written headers over IPv6.
use Rattle.std.proofs.Common.{◌≡◌, ◌≢◌, ℕ, Bool, List, Option, Some, None, inl, inr, refl, sym, ap, ◌∙◌, subst, arith}
use Rattle.octets.specs.Protocol.{proto4, proto6}
use Rattle.octets.specs.declared.proto.Proto.{Proto}
use Rattle.octets.specs.declared.proto.Proto.TheVariants.{Tcp, Udp, Icmp}
use Rattle.std.proofs.lemmas.Bool.{cases_eq, ne_eqb}
use Rattle.ip6_packet.specs.declared.head.Head6.{Head6}
use Rattle.ip6_packet.specs.Fragment.{fragment_offset}
use Rattle.ip6_packet.specs.Written.{IsUpper}
use Rattle.l4_headers.specs.declared.ports.L4.{L4}
use Rattle.l4_headers.specs.Transport.{l4_of}
use Rattle.xlat46.specs.Head.{upper_protocol}
use Rattle.xlat64.specs.Head.{protocol_of}
use Rattle.packets.specs.declared.packet6.Content6.{Content6}
use Rattle.packets.specs.declared.packet6.Content6.TheVariants.{Segment, Later, Query, Error}
use Rattle.packets.specs.Packet6.{IsContent6, IsSegment6}
use Rattle.packets.proofs.Spared6.{icmp_alone}

-- ---- numbers of protocols

pub record IsFlowNumber (n : ℕ) (proto : Proto) : Type 0 where
  pub six : proto6 (upper_protocol n) ≡ Some proto
  pub back : protocol_of (upper_protocol n) ≡ n
  pub upper : IsUpper (upper_protocol n)
  pub udp : proto ≡ Udp → upper_protocol n ≡ 17

tcp_number : (proto : Proto) → ◌≡◌ {A = Option Proto} (Some Tcp) (Some proto) → IsFlowNumber 6 proto
tcp_number proto is = record { six = is; back = refl; upper = (λ h. omega arith, λ h. omega arith, λ h. omega arith, λ h. omega arith); udp = λ e. cc }

udp_number : (proto : Proto) → ◌≡◌ {A = Option Proto} (Some Udp) (Some proto) → IsFlowNumber 17 proto
udp_number proto is = record { six = is; back = refl; upper = (λ h. omega arith, λ h. omega arith, λ h. omega arith, λ h. omega arith); udp = λ e. refl }

icmp_number : (proto : Proto) → ◌≡◌ {A = Option Proto} (Some Icmp) (Some proto) → proto ≡ Icmp
icmp_number proto is = cc

no_number : (proto : Proto) → ◌≡◌ {A = Option Proto} None (Some proto) → ⊥
no_number proto is = cc

pub flow_number : (n : ℕ) (proto : Proto) → proto4 n ≡ Some proto → proto ≢ Icmp → IsFlowNumber n proto
flow_number n proto is flows = elim (cases_eq n 6) [
  | inl tcp ↦ subst (λ (m : ℕ). IsFlowNumber m proto) (sym tcp) (tcp_number proto (subst (λ (m : ℕ). proto4 m ≡ Some proto) tcp is))
  | inr a ↦ elim (cases_eq n 17) [
    | inl udp ↦ subst (λ (m : ℕ). IsFlowNumber m proto) (sym udp) (udp_number proto (subst (λ (m : ℕ). proto4 m ≡ Some proto) udp is))
    | inr b ↦ elim (cases_eq n 1) [
      | inl icmp ↦ absurd (flows (icmp_number proto (subst (λ (m : ℕ). proto4 m ≡ Some proto) icmp is)))
      | inr c ↦ absurd (no_number proto (rw (ne_eqb n 6 a, ne_eqb n 17 b, ne_eqb n 1 c) at is))
    ]
  ]
]

-- ---- a transport header, or a later fragment

same_some : (a b : Proto) → ◌≡◌ {A = Option Proto} (Some a) (Some b) → a ≡ b
same_some a b e = cc

pub record IsOneSegment (payload : List ℕ) (proto : Proto) (content : Content6) : Type 0 where
  pub l4 : L4
  pub is : content ≡ Segment proto l4
  pub l4_is : l4 ≡ l4_of proto payload

segment_is : (h : Head6) (payload : List ℕ) (proto other : Proto) (l4 : L4) → other ≡ proto → IsSegment6 h payload other l4 → IsOneSegment payload proto (Segment other l4)
segment_is h payload proto other l4 same has = subst (λ (p : Proto). IsOneSegment payload p (Segment other l4)) same (record { l4 = l4; is = refl; l4_is = has.header })

pub one_segment : (at_relay : Bool) (h : Head6) (payload : List ℕ) (proto : Proto) (content : Content6) → proto6 h.upper ≡ Some proto → proto ≢ Icmp → fragment_offset h.frag ≡ 0
    → IsContent6 at_relay h payload content → IsOneSegment payload proto content
one_segment at_relay h payload proto (Segment other l4) number flows first has = segment_is h payload proto other l4 (same_some other proto (sym has.protocol ∙ number)) has
one_segment at_relay h payload proto (Later other) number flows first has = absurd (has.later first)
one_segment at_relay h payload proto (Query m row) number flows first has = absurd (flows (icmp_alone h.upper proto has.0.protocol number))
one_segment at_relay h payload proto (Error m row inner) number flows first has = absurd (flows (icmp_alone h.upper proto has.message.protocol number))

pub one_later : (at_relay : Bool) (h : Head6) (payload : List ℕ) (proto : Proto) (content : Content6) → proto6 h.upper ≡ Some proto → proto ≢ Icmp → fragment_offset h.frag ≢ 0
    → IsContent6 at_relay h payload content → content ≡ Later proto
one_later at_relay h payload proto (Segment other l4) number flows later has = absurd (later has.first)
one_later at_relay h payload proto (Later other) number flows later has = ap (λ (p : Proto). Later p) (same_some other proto (sym has.protocol ∙ number))
one_later at_relay h payload proto (Query m row) number flows later has = absurd (flows (icmp_alone h.upper proto has.0.protocol number))
one_later at_relay h payload proto (Error m row inner) number flows later has = absurd (flows (icmp_alone h.upper proto has.message.protocol number))
