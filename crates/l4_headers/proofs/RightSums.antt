-- Right sums stay right where addresses and ports change, and a computed one is right.
use Rattle.std.proofs.Common.{◌≡◌, ◌≢◌, ℕ, ◌+◌, ◌<◌, ◌≤◌, Bool, List, length, inl, inr, ap, ◌∙◌, arith, refl}
use Rattle.std.proofs.lemmas.Bool.{cases_lt}
use Rattle.octets.specs.Field.{word, in_quad, in_sixteen}
use Rattle.octets.specs.declared.address.Addr4.{Addr4}
use Rattle.octets.specs.declared.address.Addr6.{Addr6}
use Rattle.octets.specs.declared.proto.Proto.{Proto}
use Rattle.octets.specs.declared.proto.Proto.TheVariants.{Tcp, Udp, Icmp}
use Rattle.inet_sum.specs.Sum.{words, folded, check_sum, as_udp}
use Rattle.inet_sum.proofs.Laws.{folded-udp_check}
use Rattle.l4_headers.specs.declared.ports.Ports.{Ports}
use Rattle.l4_headers.specs.Transport.{header_octets, IsBadTransport, l4_of, with_l4}
use Rattle.l4_headers.specs.PseudoHeader.{pseudo_header4, pseudo_header6}
use Rattle.l4_headers.specs.Readdressed.{port_words, readdressed_sum, computed_udp_sum}
use Rattle.l4_headers.proofs.Laws.{right_tcp, right_udp, words-with_sum}

-- a transport header that isn't bad stands there
pub header_stands : (proto : Proto) (payload : List ℕ) (whole : Bool) → (IsBadTransport proto payload whole → ⊥) → header_octets proto ≤ length payload
header_stands proto payload whole good =
    elim (cases_lt (length payload) (header_octets proto)) [ inl lt ↦ absurd (good (inl lt)) | inr le ↦ le ]

-- the words of both pseudo headers
pub words-pseudo4 : (src dst : Addr4) (protocol len : ℕ) → len < 65536 → words (pseudo_header4 src dst protocol len) ≡ words (in_quad src.0) + words (in_quad dst.0) + (protocol + len)
words-pseudo4 src dst protocol len fits = omega arith

pub words-pseudo6 : (src dst : Addr6) (protocol len : ℕ) → len < 65536 → words (pseudo_header6 src dst protocol len) ≡ words (in_sixteen src.0) + words (in_sixteen dst.0) + (protocol + len)
words-pseudo6 src dst protocol len fits = omega arith

-- a right sum stays right where words of sum `old` outside the payload became words of sum `new`
pub right_readdressed : (proto : Proto) (payload : List ℕ) (front front' old new : ℕ) (ports : Ports) → proto ≢ Icmp → header_octets proto ≤ length payload
    → ports.src < 65536 → ports.dst < 65536 → 0 < front' → front' + old ≡ front + new → folded (front + words payload) ≡ 65535
    → folded (front' + words (with_l4 proto payload ports (readdressed_sum proto (l4_of proto payload) old new ports))) ≡ 65535
right_readdressed Tcp payload front front' old new ports carried stands src dst some change right =
    right_tcp front front' (old + (word payload 0 + word payload 2)) (new + port_words ports) payload ports stands src dst some (omega arith) right
right_readdressed Udp payload front front' old new ports carried stands src dst some change right =
    right_udp front front' (old + (word payload 0 + word payload 2)) (new + port_words ports) payload ports stands src dst (omega arith) right
right_readdressed Icmp payload front front' old new ports carried stands src dst some change right = absurd (carried refl)

-- a computed sum is right
pub right_computed : (payload : List ℕ) (pseudo : ℕ) (ports : Ports) → 8 ≤ length payload → ports.src < 65536 → ports.dst < 65536
    → folded (pseudo + words (with_l4 Udp payload ports (computed_udp_sum pseudo payload ports))) ≡ 65535
right_computed payload pseudo ports stands src dst =
    let apart = words-with_sum (computed_udp_sum pseudo payload ports) payload ports stands src dst (fits (pseudo + words (with_l4 Udp payload ports 0))) in
    ap folded (ap (λ (w : ℕ). pseudo + w) apart ∙ regroup pseudo (words (with_l4 Udp payload ports 0)) (computed_udp_sum pseudo payload ports))
    ∙ folded-udp_check (pseudo + words (with_l4 Udp payload ports 0))
  where
    regroup : (a b c : ℕ) → a + (b + c) ≡ a + b + c
    regroup a b c = omega arith

    fits : (w : ℕ) → as_udp (check_sum w) < 65536
    fits w = grind arith
