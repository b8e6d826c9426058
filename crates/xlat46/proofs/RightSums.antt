-- Right sums over IPv4 are right over IPv6.
use Rattle.std.proofs.Common.{◌≡◌, ℕ, zero, suc, ◌+◌, ◌<◌, ◌≤◌, Bool, true, false, cond, not, List, length, Option, Some, None, ap, ◌∙◌, arith}
use Rattle.octets.specs.Protocol.{proto4}
use Rattle.octets.specs.declared.address.Addr6.{Addr6}
use Rattle.octets.specs.declared.proto.Proto.{Proto}
use Rattle.octets.specs.declared.proto.Proto.TheVariants.{Tcp, Udp, Icmp}
use Rattle.inet_sum.specs.Sum.{words, folded}
use Rattle.l4_headers.specs.declared.ports.Ports.{Ports}
use Rattle.l4_headers.specs.Transport.{header_octets, l4_of, with_l4}
use Rattle.l4_headers.specs.PseudoHeader.{pseudo_header4, pseudo_header6, IsRightOver}
use Rattle.l4_headers.specs.Readdressed.{computed_udp_sum}
use Rattle.l4_headers.proofs.RightSums.{header_stands, words-pseudo4, words-pseudo6, right_readdressed, right_computed}
use Rattle.ip4_packet.specs.Fragment.{is_fragment}
use Rattle.xlat46.specs.Whole.{Parts4, IsCarried4, lacks_sum, has_no_sum, addresses_before, addresses_after, payload46, ArePorts}

-- no protocol that is carried has the number 0
numbered : (n : ℕ) (proto : Proto) → proto4 n ≡ Some proto → 0 < n
numbered zero proto is = absurd (none is)
  where
    none : ◌≡◌ {A = Option Proto} None (Some proto) → ⊥
    none h = cc
numbered (suc n) proto is = omega arith

behind : (a b c : ℕ) → a + b + c ≡ a + c + b
behind a b c = omega arith

pub changed : (p : Parts4) (src dst : Addr6) (ports : Ports) (len later : ℕ) → IsCarried4 p → p.head.offset ≡ 0 → ArePorts ports → has_no_sum p ≡ false
    → len < 65536 → IsRightOver (pseudo_header4 p.head.src p.head.dst p.head.proto len) p.payload later
    → IsRightOver (pseudo_header6 src dst p.head.proto len) (payload46 p src dst (Some ports)) later
changed p src dst ports len later carried first fits summed short right =
    let stands = header_stands p.proto p.payload (not p.head.mf) (carried.transport first) in
    let some = numbered p.head.proto p.proto carried.protocol in
    let four = words-pseudo4 p.head.src p.head.dst p.head.proto len short in
    let six = words-pseudo6 src dst p.head.proto len short in
    let old = words (pseudo_header4 p.head.src p.head.dst p.head.proto len) + later in
    let new = words (pseudo_header6 src dst p.head.proto len) + later in
    let balanced : new + addresses_before p.head ≡ old + addresses_after src dst = omega (arith, four, six) in
    let given : folded (old + words p.payload) ≡ 65535 = ap folded (behind (words (pseudo_header4 p.head.src p.head.dst p.head.proto len)) later (words p.payload)) ∙ right in
    rw summed
    (ap folded (behind (words (pseudo_header6 src dst p.head.proto len)) (words (with_l4 p.proto p.payload ports _)) later)
    ∙ right_readdressed p.proto p.payload old new (addresses_before p.head) (addresses_after src dst) ports carried.no_icmp stands fits.0 fits.1 (omega (arith, six)) balanced given)

computed_by : (proto : Proto) (fragment : Bool) (payload : List ℕ) (ports : Ports) (pseudo other : ℕ) → header_octets proto ≤ length payload → ArePorts ports
    → lacks_sum proto fragment (l4_of proto payload).sum ≡ true
    → folded (pseudo + words (with_l4 proto payload ports (cond (lacks_sum proto fragment (l4_of proto payload).sum) (computed_udp_sum pseudo payload ports) other)) + 0) ≡ 65535
computed_by Tcp fragment payload ports pseudo other stands fits lacking = absurd (different lacking)
  where
    different : false ≡ true → ⊥
    different h = cc
computed_by Icmp fragment payload ports pseudo other stands fits lacking = absurd (different lacking)
  where
    different : false ≡ true → ⊥
    different h = cc
computed_by Udp fragment payload ports pseudo other stands fits lacking =
    rw lacking
    (ap folded (add_none (pseudo + words (with_l4 Udp payload ports (computed_udp_sum pseudo payload ports))))
    ∙ right_computed payload pseudo ports stands fits.0 fits.1)
  where
    add_none : (n : ℕ) → n + 0 ≡ n
    add_none n = omega arith

pub computed : (p : Parts4) (src dst : Addr6) (ports : Ports) → IsCarried4 p → p.head.offset ≡ 0 → ArePorts ports → has_no_sum p ≡ true
    → IsRightOver (pseudo_header6 src dst 17 (length p.payload)) (payload46 p src dst (Some ports)) 0
computed p src dst ports carried first fits lacking =
    computed_by p.proto (is_fragment p.head) p.payload ports _ _ (header_stands p.proto p.payload (not p.head.mf) (carried.transport first)) fits lacking
