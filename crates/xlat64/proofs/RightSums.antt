-- Right sums over IPv6 are right over IPv4.
use Rattle.std.proofs.Common.{◌≡◌, ℕ, zero, suc, ◌+◌, ◌<◌, not, Option, Some, None, ap, ◌∙◌, arith}
use Rattle.octets.specs.Protocol.{proto6}
use Rattle.octets.specs.declared.address.Addr4.{Addr4}
use Rattle.octets.specs.declared.proto.Proto.{Proto}
use Rattle.inet_sum.specs.Sum.{words, folded}
use Rattle.l4_headers.specs.declared.ports.Ports.{Ports}
use Rattle.l4_headers.specs.Transport.{with_l4}
use Rattle.l4_headers.specs.PseudoHeader.{pseudo_header4, pseudo_header6, IsRightOver}
use Rattle.l4_headers.proofs.RightSums.{header_stands, words-pseudo4, words-pseudo6, right_readdressed}
use Rattle.ip6_packet.specs.Fragment.{more_fragments}
use Rattle.xlat64.specs.Whole.{Parts6, offset_of, IsCarried6, addresses_before, addresses_after, sum64, payload64, ArePorts}

-- no protocol that is carried has the number 0
numbered : (n : ℕ) (proto : Proto) → proto6 n ≡ Some proto → 0 < n
numbered zero proto is = absurd (none is)
  where
    none : ◌≡◌ {A = Option Proto} None (Some proto) → ⊥
    none h = cc
numbered (suc n) proto is = omega arith

behind : (a b c : ℕ) → a + b + c ≡ a + c + b
behind a b c = omega arith

pub changed : (p : Parts6) (src dst : Addr4) (ports : Ports) (len later : ℕ) → IsCarried6 p → offset_of p ≡ 0 → ArePorts ports
    → len < 65536 → IsRightOver (pseudo_header6 p.head.src p.head.dst p.head.upper len) p.payload later
    → IsRightOver (pseudo_header4 src dst p.head.upper len) (payload64 p src dst (Some ports)) later
changed p src dst ports len later carried first fits short right =
    let stands = header_stands p.proto p.payload (not (more_fragments p.head.frag)) (carried.transport first) in
    let some = numbered p.head.upper p.proto carried.protocol in
    let four = words-pseudo4 src dst p.head.upper len short in
    let six = words-pseudo6 p.head.src p.head.dst p.head.upper len short in
    let old = words (pseudo_header6 p.head.src p.head.dst p.head.upper len) + later in
    let new = words (pseudo_header4 src dst p.head.upper len) + later in
    let balanced : new + addresses_before p.head ≡ old + addresses_after src dst = omega (arith, four, six) in
    let given : folded (old + words p.payload) ≡ 65535 = ap folded (behind (words (pseudo_header6 p.head.src p.head.dst p.head.upper len)) later (words p.payload)) ∙ right in
    ap folded (behind (words (pseudo_header4 src dst p.head.upper len)) (words (with_l4 p.proto p.payload ports (sum64 p src dst ports))) later)
    ∙ right_readdressed p.proto p.payload old new (addresses_before p.head) (addresses_after src dst) ports carried.no_icmp stands fits.0 fits.1 (omega (arith, four)) balanced given
