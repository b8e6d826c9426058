-- A sum that changes twice: from one text to a second, and from that to a third.
use Rattle.std.proofs.Common.{◌≡◌, ◌≢◌, ℕ, ◌<◌, inl, inr, refl, ap, ◌∙◌, arith}
use Rattle.std.proofs.lemmas.Bool.{cases_eq, ne_eqb}
use Rattle.octets.specs.declared.proto.Proto.{Proto}
use Rattle.octets.specs.declared.proto.Proto.TheVariants.{Tcp, Udp, Icmp}
use Rattle.inet_sum.specs.Sum.{adjusted, as_udp}
use Rattle.l4_headers.specs.Readdressed.{as_written}

pub adjusted-twice : (c x y z : ℕ) → adjusted (adjusted c x y) y z ≡ adjusted c x z
adjusted-twice c x y z = omega arith

-- 65535 in place of 0 is alike
alike_udp : (c y z : ℕ) → adjusted (as_udp c) y z ≡ adjusted c y z
alike_udp c y z = elim (cases_eq c 0) [
  | inl none ↦ rw none (omega arith)
  | inr some ↦ rw (ne_eqb c 0 some) refl
]

pub written-twice : (proto : Proto) (c x y z : ℕ) → as_written proto (adjusted (as_written proto (adjusted c x y)) y z) ≡ as_written proto (adjusted c x z)
written-twice Tcp c x y z = adjusted-twice c x y z
written-twice Udp c x y z = ap as_udp (alike_udp (adjusted c x y) y z ∙ adjusted-twice c x y z)
written-twice Icmp c x y z = adjusted-twice c x y z

-- a sum fits its field, and that of UDP isn't 0
pub adjusted_fits : (c x y : ℕ) → adjusted c x y < 65536
adjusted_fits c x y = omega arith

pub udp_fits : (c : ℕ) → c < 65536 → as_udp c < 65536
udp_fits c fits = elim (cases_eq c 0) [ inl none ↦ rw none (omega arith) | inr some ↦ rw (ne_eqb c 0 some) fits ]

pub written_fits : (proto : Proto) (c x y : ℕ) → as_written proto (adjusted c x y) < 65536
written_fits Tcp c x y = adjusted_fits c x y
written_fits Udp c x y = udp_fits (adjusted c x y) (adjusted_fits c x y)
written_fits Icmp c x y = adjusted_fits c x y

pub udp_some : (c : ℕ) → as_udp c ≢ 0
udp_some c none = elim (cases_eq c 0) [ inl zero ↦ absurd (full (rw zero at none)) | inr some ↦ some (rw (ne_eqb c 0 some) at none) ]
  where
    full : ◌≡◌ {A = ℕ} 65535 0 → ⊥
    full h = omega arith
