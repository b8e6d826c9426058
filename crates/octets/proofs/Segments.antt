-- The numbers of TCP and UDP, which are the same over both versions.
use Rattle.std.proofs.Common.{◌≡◌, ◌≢◌, ℕ, refl, ◌⊎◌, inl, inr}
use Rattle.std.specs.Prelude.{Some, None}
use Rattle.std.proofs.lemmas.Bool.{cases_eq, ne_eqb}
use Rattle.octets.specs.declared.proto.Proto.{Proto}
use Rattle.octets.specs.declared.proto.Proto.TheVariants.{Icmp}
use Rattle.octets.specs.Protocol.{proto4, proto6}

pub segment4 : (n : ℕ) (proto : Proto) → proto4 n ≡ Some proto → proto ≢ Icmp → (n ≡ 6) ⊎ (n ≡ 17)
segment4 n proto is other = elim (cases_eq n 6) [
  | inl tcp ↦ inl tcp
  | inr no_tcp ↦ elim (cases_eq n 17) [
    | inl udp ↦ inr udp
    | inr no_udp ↦ elim (cases_eq n 1) [
      | inl icmp ↦ absurd (other (cc))
      | inr no_icmp ↦
          let gone : proto4 n ≡ None = rw (ne_eqb n 6 no_tcp, ne_eqb n 17 no_udp, ne_eqb n 1 no_icmp) refl in
          absurd (cc)
    ]
  ]
]

pub segment6 : (n : ℕ) (proto : Proto) → proto6 n ≡ Some proto → proto ≢ Icmp → (n ≡ 6) ⊎ (n ≡ 17)
segment6 n proto is other = elim (cases_eq n 6) [
  | inl tcp ↦ inl tcp
  | inr no_tcp ↦ elim (cases_eq n 17) [
    | inl udp ↦ inr udp
    | inr no_udp ↦ elim (cases_eq n 58) [
      | inl icmp ↦ absurd (other (cc))
      | inr no_icmp ↦
          let gone : proto6 n ≡ None = rw (ne_eqb n 6 no_tcp, ne_eqb n 17 no_udp, ne_eqb n 58 no_icmp) refl in
          absurd (cc)
    ]
  ]
]
