-- Right sums of turned packets.
use Rattle.std.proofs.Common.{◌≡◌, ◌≢◌, ℕ, ◌+◌, ◌<◌, ◌≤◌, ◌==◌, Bool, false, cond, not, List, [], ◌∷◌, ◌++◌, length, Some, ap, subst, ◌∙◌, refl, arith}
use Rattle.std.proofs.lemmas.Bool.Decides.{nat_tests}
use Rattle.octets.specs.Field.{word, in_quad}
use Rattle.octets.specs.Protocol.{proto4}
use Rattle.octets.specs.declared.address.Addr4.{Addr4}
use Rattle.octets.specs.declared.proto.Proto.{Proto}
use Rattle.octets.specs.declared.proto.Proto.TheVariants.{Tcp, Udp, Icmp}
use Rattle.inet_sum.specs.Sum.{words, folded, adjusted, as_udp, IsRight}
use Rattle.inet_sum.proofs.Laws.{right_with_check}
use Rattle.ip4_packet.specs.declared.head.Head4.{Head4}
use Rattle.l4_headers.specs.declared.ports.Ports.{Ports}
use Rattle.l4_headers.specs.declared.ports.L4.{L4}
use Rattle.l4_headers.specs.Transport.{header_octets, l4_of, with_l4}
use Rattle.l4_headers.specs.PseudoHeader.{pseudo_header4, IsRightOver}
use Rattle.l4_headers.proofs.Laws.{right_tcp, right_udp}
use Rattle.l4_headers.proofs.RightSums.{header_stands, words-pseudo4}
use Rattle.icmp_messages.specs.declared.icmp4.Icmp4.{Icmp4}
use Rattle.icmp_messages.specs.Message.{with_sum4, message4}
use Rattle.packets.specs.Packet4.{IsSegment4}
use Rattle.turned_packets.specs.Ends.{End, Source, Destination, NewEnd, address_at, port_at, with_address, with_port}
use Rattle.turned_packets.specs.Segment.{changed_sum, PortsFit, turned_segment}

-- no protocol that is carried has the number 0
numbered : (n : ℕ) (proto : Proto) → proto4 n ≡ Some proto → 0 < n
numbered n proto is = grind (arith, nat_tests)

-- the words of the pseudo header change by those of the address
pub balanced : (end : End) (addr : Addr4) (h : Head4) (len : ℕ) → len < 65536
    → let there = with_address end addr h in
    words (pseudo_header4 there.src there.dst h.proto len) + words (in_quad (address_at end h).0) ≡ words (pseudo_header4 h.src h.dst h.proto len) + words (in_quad addr.0)
balanced Source addr h len short = omega (arith, words-pseudo4 addr h.dst h.proto len short, words-pseudo4 h.src h.dst h.proto len short)
balanced Destination addr h len short = omega (arith, words-pseudo4 h.src addr h.proto len short, words-pseudo4 h.src h.dst h.proto len short)

-- and the sum of both ports by the port
ported : (end : End) (port : ℕ) (ports : Ports) → let there = with_port end port ports in (there.src + there.dst) + port_at end ports ≡ (ports.src + ports.dst) + port
ported Source port ports = omega arith
ported Destination port ports = omega arith

behind : (a b c : ℕ) → a + b + c ≡ a + c + b
behind a b c = omega arith

some_pseudo : (src dst : Addr4) (proto len later : ℕ) → len < 65536 → 0 < proto → 0 < words (pseudo_header4 src dst proto len) + later
some_pseudo src dst proto len later short some = omega (arith, words-pseudo4 src dst proto len short)

sum_kept : (b : Bool) (a c : ℕ) → b ≡ false → cond b a c ≡ c
sum_kept b a c e = rw e refl

no_zero : (n : ℕ) → n ≢ 0 → (n == 0) ≡ false
no_zero n some = grind (arith, nat_tests)

-- a sum in a payload that stays right, with words `rest` outside it that become `rest'`
right_by : (proto : Proto) (new : NewEnd) (payload : List ℕ) (rest rest' old_addr new_addr : ℕ) → proto ≢ Icmp → header_octets proto ≤ length payload
    → (proto ≡ Udp → word payload 6 ≢ 0) → PortsFit new (l4_of proto payload).ports → 0 < rest' → rest' + old_addr ≡ rest + new_addr
    → folded (rest + words payload) ≡ 65535
    → let l4 = l4_of proto payload in
    folded (rest' + words (with_l4 proto payload (with_port new.end new.port l4.ports) (changed_sum proto l4.sum (old_addr + port_at new.end l4.ports) (new_addr + new.port)))) ≡ 65535
right_by Tcp new payload rest rest' old_addr new_addr carried stands summed fits some change right =
    let ports = (l4_of Tcp payload).ports in
    let moved = ported new.end new.port ports in
    right_tcp rest rest' (old_addr + port_at new.end ports) (new_addr + new.port) payload (with_port new.end new.port ports) stands fits.0 fits.1 some (omega arith) right
right_by Udp new payload rest rest' old_addr new_addr carried stands summed fits some change right =
    let ports = (l4_of Udp payload).ports in
    let moved = ported new.end new.port ports in
    let old = old_addr + port_at new.end ports in
    let sum = as_udp (adjusted (word payload 6) old (new_addr + new.port)) in
    ap (λ (c : ℕ). folded (rest' + words (with_l4 Udp payload (with_port new.end new.port ports) c))) (sum_kept (word payload 6 == 0) 0 sum (no_zero (word payload 6) (summed refl)))
    ∙ right_udp rest rest' old (new_addr + new.port) payload (with_port new.end new.port ports) stands fits.0 fits.1 (omega arith) right
right_by Icmp new payload rest rest' old_addr new_addr carried stands summed fits some change right = absurd (carried refl)

-- the words of an end are those of its address and its port, of a protocol that isn't ICMP
segment_is : (proto : Proto) (new : NewEnd) (h : Head4) (l4 : L4) (payload : List ℕ) → proto ≢ Icmp
    → turned_segment new h proto l4 payload
    ≡ with_l4 proto payload (with_port new.end new.port l4.ports)
    (changed_sum proto l4.sum (words (in_quad (address_at new.end h).0) + port_at new.end l4.ports) (words (in_quad new.addr.0) + new.port))
segment_is Tcp new h l4 payload carried = refl
segment_is Udp new h l4 payload carried = refl
segment_is Icmp new h l4 payload carried = absurd (carried refl)

pub segment_right : (new : NewEnd) (h : Head4) (proto : Proto) (l4 : L4) (payload : List ℕ) (len later : ℕ) → IsSegment4 h payload proto l4
    → (proto ≡ Udp → word payload 6 ≢ 0) → PortsFit new l4.ports → len < 65536
    → IsRightOver (pseudo_header4 h.src h.dst h.proto len) payload later
    → let there = with_address new.end new.addr h in
    IsRightOver (pseudo_header4 there.src there.dst h.proto len) (turned_segment new h proto l4 payload) later
segment_right new h proto l4 payload len later is summed fits short right =
    let there = with_address new.end new.addr h in
    let rest = words (pseudo_header4 h.src h.dst h.proto len) in
    let rest' = words (pseudo_header4 there.src there.dst h.proto len) in
    let moved = balanced new.end new.addr h len short in
    let given : folded ((rest + later) + words payload) ≡ 65535 = ap folded (behind rest later (words payload)) ∙ right in
    let ranged : PortsFit new (l4_of proto payload).ports = subst (λ (l : L4). PortsFit new l.ports) is.header fits in
    let result = right_by proto new payload (rest + later) (rest' + later) (words (in_quad (address_at new.end h).0)) (words (in_quad new.addr.0)) is.no_icmp
    (header_stands proto payload (not h.mf) is.transport) summed ranged (some_pseudo there.src there.dst h.proto len later short (numbered h.proto proto is.protocol)) (omega arith) given in
    ap folded (behind rest' (words (turned_segment new h proto l4 payload)) later)
    ∙ ap (λ (all : List ℕ). folded ((rest' + later) + words all)) (ap (λ (l : L4). turned_segment new h proto l payload) is.header ∙ segment_is proto new h (l4_of proto payload) payload is.no_icmp)
    ∙ result

-- the sum of a message is right
pub message_right : (m : Icmp4) → IsRight (message4 m)
message_right m = right_with_check (m.kind ∷ m.code ∷ []) (in_quad m.rest ++ m.body) (words (with_sum4 m 0)) refl (omega arith)
