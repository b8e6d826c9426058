-- TCP and UDP, in a whole packet and in the first fragment of one, there and back.
use Rattle.std.proofs.Common.{◌≡◌, ◌≢◌, ℕ, ◌+◌, ◌-◌, ◌%◌, ◌^◌, ◌<◌, ◌≤◌, Bool, true, false, cond, not, List, length, Option, Some, refl, sym, ap, ◌∙◌, subst, arith}
use Rattle.std.proofs.lemmas.Bool.{false≢true}
use Rattle.octets.specs.Field.{word, in_quad, in_sixteen}
use Rattle.octets.specs.declared.address.Addr4.{Addr4}
use Rattle.octets.specs.declared.address.Addr6.{Addr6}
use Rattle.octets.specs.declared.mtus.Mtus.{Mtus}
use Rattle.octets.specs.declared.proto.Proto.{Proto}
use Rattle.octets.specs.declared.proto.Proto.TheVariants.{Tcp, Udp, Icmp}
use Rattle.inet_sum.specs.Sum.{words, adjusted, check_sum}
use Rattle.ip4_packet.specs.Grammar.{payload_of4}
use Rattle.ip4_packet.specs.Written.{written4}
use Rattle.ip6_packet.specs.declared.head.Head6.{Head6}
use Rattle.ip6_packet.specs.Written.{written6}
use Rattle.l4_headers.specs.declared.ports.Ports.{Ports}
use Rattle.l4_headers.specs.declared.ports.L4.{L4}
use Rattle.l4_headers.specs.Transport.{header_octets, IsBadTransport, l4_of, with_l4}
use Rattle.l4_headers.specs.PseudoHeader.{pseudo_header4, pseudo_header6, IsRightOver}
use Rattle.l4_headers.specs.Readdressed.{as_written, port_words, readdressed_sum, computed_udp_sum}
use Rattle.l4_headers.proofs.Laws.{length-with_l4, bad_with_l4, l4_of-with_tcp, l4_of-with_udp}
use Rattle.l4_headers.proofs.RightSums.{header_stands}
use Rattle.xlat46.specs.Head.{translated as translated46}
use Rattle.ip4_packet.specs.Fragment.{is_fragment}
use Rattle.xlat46.specs.Whole.{Parts4, IsCarried4, ArePorts, lacks_sum, has_no_sum, sum46, payload46, packet46}
use Rattle.xlat46.proofs.RightSums.{computed}
use Rattle.xlat64.specs.Whole.{Parts6, IsCarried6, sum64, payload64, packet64}
use Rattle.xlat64.proofs.RightSums.{changed as right_over_ipv4}
use Rattle.l4_headers.specs.declared.ends.Ends.{Ends}
use Rattle.packets.specs.declared.packet4.Content4.{Content4}
use Rattle.packets.specs.declared.packet4.Content4.TheVariants.{Segment as Segment4}
use Rattle.packets.specs.declared.packet6.Content6.{Content6}
use Rattle.packets.specs.declared.packet6.Content6.TheVariants.{Segment as Segment6, Later as Later6}
use Rattle.packets.specs.declared.packet6.Packet6.{Packet6}
use Rattle.packets.specs.Packet4.{IsContent4, IsSegment4}
use Rattle.packets.specs.Packet6.{IsPacket6}
use Rattle.packets.specs.Asked.{flow_of6}
use Rattle.transit.specs.Passage46.{translation46}
use Rattle.transit.specs.Passage64.{translation64}
use Rattle.crossing.specs.Named.{IsSegment, IsPayload, uncut}
use Rattle.crossing.specs.Transfer.{Transfer, FitsPorts, IsTakenAs, IsThere, IsBack, ComesOf, crossing_of, content_with}
use Rattle.crossing.proofs.Heads.{payload_len_is, some_same, offset_there, more_there, head_there, head_back, IsLaid, laid_inside, between, named_uncut}
use Rattle.crossing.proofs.Contents.{IsFlowNumber, flow_number, one_segment}
use Rattle.crossing.proofs.Sums.{written-twice, written_fits, udp_fits, udp_some}
use Rattle.crossing.proofs.Twice.{with_l4-twice}

-- ---- the payload over IPv6

pub sum_fits : (p : Parts4) (src dst : Addr6) (ports : Ports) → sum46 p src dst ports < 65536
sum_fits p src dst ports = by (has_no_sum p)
  where
    by : (b : Bool) → cond b (computed_udp_sum (words (pseudo_header6 src dst 17 (length p.payload))) p.payload ports) (readdressed_sum p.proto (l4_of p.proto p.payload) (words (in_quad p.head.src.0) + words (in_quad p.head.dst.0)) (words (in_sixteen src.0) + words (in_sixteen dst.0)) ports) < 65536
    by true = udp_fits (check_sum (words (pseudo_header6 src dst 17 (length p.payload)) + words (with_l4 Udp p.payload ports 0))) (omega arith)
    by false = written_fits p.proto _ _ _

pub udp_has_sum : (p : Parts4) (src dst : Addr6) (ports : Ports) → p.proto ≡ Udp → sum46 p src dst ports ≢ 0
udp_has_sum p src dst ports udp = by (has_no_sum p)
  where
    written : (c : ℕ) → as_written p.proto c ≢ 0
    written c = rw udp (udp_some c)

    by : (b : Bool) → cond b (computed_udp_sum (words (pseudo_header6 src dst 17 (length p.payload))) p.payload ports) (readdressed_sum p.proto (l4_of p.proto p.payload) (words (in_quad p.head.src.0) + words (in_quad p.head.dst.0)) (words (in_sixteen src.0) + words (in_sixteen dst.0)) ports) ≢ 0
    by true = udp_some (check_sum (words (pseudo_header6 src dst 17 (length p.payload)) + words (with_l4 Udp p.payload ports 0)))
    by false =
        let l4 = l4_of p.proto p.payload in
        written (adjusted l4.sum (words (in_quad p.head.src.0) + words (in_quad p.head.dst.0) + port_words l4.ports) (words (in_sixteen src.0) + words (in_sixteen dst.0) + port_words ports))

-- ports and sum are read again
pub record ReadAgain (proto : Proto) (payload : List ℕ) (ports : Ports) (sum : ℕ) : Type 0 where
  pub ports_are : (l4_of proto (with_l4 proto payload ports sum)).ports ≡ ports
  pub sum_is : (l4_of proto (with_l4 proto payload ports sum)).sum ≡ sum

pub read_again : (proto : Proto) (payload : List ℕ) (ports : Ports) (sum : ℕ) → proto ≢ Icmp → header_octets proto ≤ length payload → ports.src < 65536 → ports.dst < 65536 → sum < 65536 → ReadAgain proto payload ports sum
read_again Tcp payload ports sum flows stands src dst fits =
    let all = l4_of-with_tcp payload ports sum stands src dst fits in
    record { ports_are = ap (λ (l : L4). l.ports) all; sum_is = ap (λ (l : L4). l.sum) all }
read_again Udp payload ports sum flows stands src dst fits =
    let all = l4_of-with_udp payload ports sum stands src dst fits in
    record { ports_are = ap (λ (l : L4). l.ports) all; sum_is = ap (λ (l : L4). l.sum) all }
read_again Icmp payload ports sum flows stands src dst fits = absurd (flows refl)

-- ---- what the second node makes of it, by parts

-- the packet by its parts, and the one on the access network
abbrev pub parts_there : Transfer → Proto → Parts4
parts_there t proto = record { head = t.taken.head; proto = proto; payload = t.payload }

abbrev pub sum_there : Transfer → Proto → ℕ
sum_there t proto = sum46 (parts_there t proto) t.six.src t.six.dst t.six.ports

abbrev pub payload_there : Transfer → Proto → List ℕ
payload_there t proto = payload46 (parts_there t proto) t.six.src t.six.dst (Some t.six.ports)

abbrev pub parts_back : Transfer → Proto → Parts6
parts_back t proto = record { head = translated46 t.taken.head t.six.src t.six.dst; proto = proto; payload = payload_there t proto }

abbrev pub sum_back : Transfer → Proto → ℕ
sum_back t proto = sum64 (parts_back t proto) t.four.src t.four.dst t.four.ports

abbrev pub payload_back : Transfer → Proto → List ℕ
payload_back t proto = payload64 (parts_back t proto) t.four.src t.four.dst (Some t.four.ports)

-- what is known of the first
pub record Carries (t : Transfer) (proto : Proto) : Type 0 where
  pub there : IsCarried4 (parts_there t proto)
  pub first : t.taken.head.offset ≡ 0
  pub stands : header_octets proto ≤ length t.payload
  pub six : ArePorts t.six.ports
  pub short : length t.payload < 65536

pub again_of : (t : Transfer) (proto : Proto) → Carries t proto → ReadAgain proto t.payload t.six.ports (sum_there t proto)
again_of t proto is = read_again proto t.payload t.six.ports (sum_there t proto) is.there.no_icmp is.stands is.six.0 is.six.1 (sum_fits (parts_there t proto) t.six.src t.six.dst t.six.ports)

udp_word : (proto : Proto) (payload : List ℕ) (sum : ℕ) → proto ≡ Udp → (l4_of proto payload).sum ≡ sum → word payload 6 ≡ sum
udp_word proto payload sum udp is = rw udp at is

-- what the second node makes of it by parts is carried
pub carried_back : (t : Transfer) (proto : Proto) → Carries t proto → IsCarried6 (parts_back t proto)
carried_back t proto is =
    let h = t.taken.head in
    let over = payload_there t proto in
    let sum = sum_there t proto in
    let number = flow_number h.proto proto is.there.protocol is.there.no_icmp in
    let good : IsBadTransport proto t.payload (not h.mf) → ⊥ = is.there.transport is.first in
    let fine : IsBadTransport proto over (not h.mf) → ⊥ = λ bad. good ((bad_with_l4 proto t.payload t.six.ports sum (not h.mf) is.stands).0 bad) in
    record {
      protocol = number.six;
      no_icmp = is.there.no_icmp;
      unrouted = refl;
      transport = λ first. subst (λ (b : Bool). IsBadTransport proto over (not b) → ⊥) (sym (more_there h)) fine;
      summed = λ first udp none. udp_has_sum (parts_there t proto) t.six.src t.six.dst t.six.ports udp (sym (udp_word proto over sum udp (again_of t proto is).sum_is) ∙ none);
    }

sum_back_is : (t : Transfer) (proto : Proto) → Carries t proto → has_no_sum (parts_there t proto) ≡ false
    → sum_back t proto ≡ readdressed_sum proto (l4_of proto t.payload) (words (in_quad t.taken.head.src.0) + words (in_quad t.taken.head.dst.0)) (words (in_quad t.four.src.0) + words (in_quad t.four.dst.0)) t.four.ports
sum_back_is t proto is summed =
    let l4 = l4_of proto t.payload in
    let again = again_of t proto is in
    let four = words (in_quad t.taken.head.src.0) + words (in_quad t.taken.head.dst.0) in
    let six = words (in_sixteen t.six.src.0) + words (in_sixteen t.six.dst.0) in
    let after = words (in_quad t.four.src.0) + words (in_quad t.four.dst.0) in
    let first : sum_there t proto ≡ readdressed_sum proto l4 four six t.six.ports = rw summed refl in
    let change = λ (read : Ports) (sum : ℕ). as_written proto (adjusted sum (six + port_words read) (after + port_words t.four.ports)) in
    ap (λ (read : Ports). change read (l4_of proto (payload_there t proto)).sum) again.ports_are
    ∙ ap (λ (sum : ℕ). change t.six.ports sum) (again.sum_is ∙ first)
    ∙ written-twice proto l4.sum (four + port_words l4.ports) (six + port_words t.six.ports) (after + port_words t.four.ports)

lacking_is_udp : (proto : Proto) (fragment : Bool) (sum : ℕ) → lacks_sum proto fragment sum ≡ true → proto ≡ Udp
lacking_is_udp Tcp fragment sum e = absurd (false≢true e)
lacking_is_udp Udp fragment sum e = refl
lacking_is_udp Icmp fragment sum e = absurd (false≢true e)

sum_back_some : (t : Transfer) (proto : Proto) → proto ≡ Udp → sum_back t proto ≢ 0
sum_back_some t proto udp = by proto udp _
  where
    by : (p : Proto) → p ≡ Udp → (c : ℕ) → as_written p c ≢ 0
    by p is c = rw is (udp_some c)

right_back : (t : Transfer) (proto : Proto) → Carries t proto → ArePorts t.four.ports → has_no_sum (parts_there t proto) ≡ true
    → IsRightOver (pseudo_header4 t.four.src t.four.dst 17 (length t.payload)) (payload_back t proto) 0
right_back t proto is ports lacking =
    let udp = lacking_is_udp proto (is_fragment t.taken.head) (l4_of proto t.payload).sum lacking in
    let number = flow_number t.taken.head.proto proto is.there.protocol is.there.no_icmp in
    let there = computed (parts_there t proto) t.six.src t.six.dst t.six.ports is.there is.first is.six lacking in
    let upper = number.udp udp in
    rw upper at (right_over_ipv4 (parts_back t proto) t.four.src t.four.dst t.four.ports (length t.payload) 0 (carried_back t proto is) (offset_there t.taken.head ∙ is.first) ports is.short (rw upper there))

pub length_there : (t : Transfer) (proto : Proto) → header_octets proto ≤ length t.payload → length (payload_there t proto) ≡ length t.payload
length_there t proto stands = length-with_l4 proto t.payload t.six.ports (sum_there t proto) stands

pub length_back : (t : Transfer) (proto : Proto) → header_octets proto ≤ length t.payload → length (payload_back t proto) ≡ length t.payload
length_back t proto stands =
    let there = length_there t proto stands in
    length-with_l4 proto (payload_there t proto) t.four.ports (sum_back t proto) (omega (arith, there, stands)) ∙ there

pub segment_is : (t : Transfer) (proto : Proto) → Carries t proto → ArePorts t.four.ports → IsSegment (crossing_of t) proto t.four.ports (payload_back t proto)
segment_is t proto is ports =
    let size = length_back t proto is.stands in
    record {
      sum = sum_back t proto;
      rest = with_l4-twice proto t.payload t.six.ports t.four.ports (sum_there t proto) (sum_back t proto) is.there.no_icmp is.stands;
      changed = sum_back_is t proto is;
      missing = λ lacking. (
        sum_back_some t proto (lacking_is_udp proto (is_fragment t.taken.head) (l4_of proto t.payload).sum lacking),
        subst (λ (n : ℕ). IsRightOver (pseudo_header4 t.four.src t.four.dst 17 n) (payload_back t proto) 0) (sym size) (right_back t proto is ports lacking),
      );
    }

-- ---- whatever is read on the access network

-- a transport header was taken, and is on the access network
pub record IsSegmentLaid (t : Transfer) (proto : Proto) (six : List ℕ) : Type 0 where
  pub carries : Carries t proto
  pub size : length (payload_there t proto) ≡ t.taken.head.total - t.taken.head.head_len
  pub number : IsFlowNumber t.taken.head.proto proto
  pub laid : IsLaid t (payload_there t proto) six

pub segment_laid : (t : Transfer) (proto : Proto) (l4 : L4) (octets six : List ℕ) → t.taken.content ≡ Segment4 proto l4 → IsTakenAs t octets → IsThere t six → IsSegmentLaid t proto six
segment_laid t proto l4 octets six e taken there =
    let h = t.taken.head in
    let found : IsSegment4 h (payload_of4 h octets) proto l4 = subst (λ (c : Content4). IsContent4 h (payload_of4 h octets) c) e taken.is.content in
    let has : IsSegment4 h t.payload proto l4 = subst (λ (xs : List ℕ). IsSegment4 h xs proto l4) (sym taken.payload) found in
    let number = flow_number h.proto proto has.protocol has.no_icmp in
    let stands = header_stands proto t.payload (not h.mf) has.transport in
    let declared : length t.payload ≡ h.total - h.head_len = ap (λ (xs : List ℕ). length xs) taken.payload ∙ payload_len_is h (payload_of4 h octets) octets taken.is.is in
    let over = payload_there t proto in
    let size : length over ≡ h.total - h.head_len = length_there t proto stands ∙ declared in
    record {
      carries = record {
        there = record { protocol = has.protocol; no_icmp = has.no_icmp; unrouted = taken.is.unrouted; transport = λ first bad. has.transport bad; summed = λ first. has.summed };
        first = has.first;
        stands = stands;
        six = taken.six.ports;
        short = omega (arith, declared, taken.fits.total);
      };
      size = size;
      number = number;
      laid = record {
        fits = omega (arith, size, taken.fits.total, taken.is.is.head_fits);
        upper = number.upper;
        written = sym (some_same (packet46 (parts_there t proto) t.six.src t.six.dst (Some t.six.ports)) six (subst (λ (c : Content4). translation46 t.mtus h t.payload t.six c ≡ Some six) e there)) ∙ ap (λ (n : ℕ). written6 (head_there t n) over) (sym size);
      };
    }

-- its flow is read there
pub record ReadsFlow (q : Content6) (proto : Proto) (ports : Ports) : Type 0 where
  pub fault : (flow_of6 q).fault ≡ false
  pub proto_is : (flow_of6 q).proto ≡ proto
  pub ports_are : (flow_of6 q).ports ≡ ports
  pub no_later : (other : Proto) → q ≡ Later6 other → ⊥
  -- it is translated by its outer ends alone
  pub outer : (mtus : Mtus) (head : Head6) (payload : List ℕ) (one other : Ends Addr4) (id : ℕ) → one.src ≡ other.src → one.dst ≡ other.dst → one.ports ≡ other.ports
      → translation64 (record { mtus = mtus; ends = one; id = id }) head payload q ≡ translation64 (record { mtus = mtus; ends = other; id = id }) head payload q

pub outer_segment : (proto : Proto) (l4 : L4) (mtus : Mtus) (head : Head6) (payload : List ℕ) (one other : Ends Addr4) (id : ℕ) → one.src ≡ other.src → one.dst ≡ other.dst → one.ports ≡ other.ports
    → translation64 (record { mtus = mtus; ends = one; id = id }) head payload (Segment6 proto l4) ≡ translation64 (record { mtus = mtus; ends = other; id = id }) head payload (Segment6 proto l4)
outer_segment proto l4 mtus head payload one other id src dst ports =
    let q : Parts6 = record { head = head; proto = proto; payload = payload } in
    ap (λ (a : Addr4). some_octets (packet64 q a one.dst (Some one.ports) id)) src
    ∙ ap (λ (a : Addr4). some_octets (packet64 q other.src a (Some one.ports) id)) dst
    ∙ ap (λ (p : Ports). some_octets (packet64 q other.src other.dst (Some p) id)) ports
  where
    some_octets : List ℕ → Option (List ℕ)
    some_octets xs = Some xs

pub segment_flow : (t : Transfer) (proto : Proto) (l4 : L4) (octets six : List ℕ) (at_relay : Bool) (q : Packet6) → t.taken.content ≡ Segment4 proto l4
    → IsTakenAs t octets → IsThere t six → IsPacket6 at_relay q six → ReadsFlow q.content proto t.six.ports
segment_flow t proto l4 octets six at_relay q e taken there is =
    let h = t.taken.head in
    let laid = segment_laid t proto l4 octets six e taken there in
    let over = payload_there t proto in
    let one = one_segment at_relay (head_there t (length over)) over proto q.content laid.number.six laid.carries.there.no_icmp (offset_there h ∙ laid.carries.first) (laid_inside t octets over six at_relay q taken laid.laid is) in
    subst (λ (c : Content6). ReadsFlow c proto t.six.ports) (sym one.is)
    (record { fault = refl; proto_is = refl; ports_are = ap (λ (l : L4). l.ports) one.l4_is ∙ (again_of t proto laid.carries).ports_are; no_later = λ other later. cc; outer = λ mtus head payload ends other id src dst ports. outer_segment proto one.l4 mtus head payload ends other id src dst ports })

pub segment_crosses : (t : Transfer) (proto : Proto) (l4 : L4) (octets six four : List ℕ) (at_relay : Bool) (q : Packet6) → t.taken.content ≡ Segment4 proto l4
    → IsTakenAs t octets → IsThere t six → IsBack t at_relay q six four → ComesOf (crossing_of t) uncut four
segment_crosses t proto l4 octets six four at_relay q e taken there back =
    let h = t.taken.head in
    let id = t.number % 2 ^ 16 in
    let laid = segment_laid t proto l4 octets six e taken there in
    let over = payload_there t proto in
    let read = between t octets over six four at_relay q taken laid.laid back in
    let one = one_segment at_relay (head_there t (length over)) over proto q.content laid.number.six laid.carries.there.no_icmp (offset_there h ∙ laid.carries.first) read.inside in
    let ports : ArePorts t.four.ports = subst (λ (c : Content4). FitsPorts c t.four.ports) e back.ports in
    let new = payload_back t proto in
    let size : length new ≡ h.total - h.head_len = length_back t proto laid.carries.stands ∙ sym (length_there t proto laid.carries.stands) ∙ laid.size in
    let makes : translation64 (record { mtus = t.mtus; ends = t.four; id = id }) (translated46 h t.six.src t.six.dst) over q.content ≡ Some four = subst (λ (n : ℕ). translation64 (record { mtus = t.mtus; ends = t.four; id = id }) (head_there t n) over q.content ≡ Some four) laid.size read.back in
    let comes : packet64 (parts_back t proto) t.four.src t.four.dst (Some t.four.ports) id ≡ four = some_same (packet64 (parts_back t proto) t.four.src t.four.dst (Some t.four.ports) id) four (subst (λ (c : Content6). translation64 (record { mtus = t.mtus; ends = t.four; id = id }) (translated46 h t.six.src t.six.dst) over c ≡ Some four) one.is makes) in
    record {
      whole = new;
      sent = record { head = head_back t (length new); payload = new; octets = written4 (head_back t (length new)) new };
      named = named_uncut t new taken.fits read.lasts (omega (arith, size, taken.fits.total, taken.is.is.head_fits)) laid.number.back
          (subst (λ (c : Content4). IsPayload (crossing_of t) c (content_with t.four c) new) (sym e) (segment_is t proto laid.carries ports));
      octets_are = sym comes ∙ ap (λ (n : ℕ). written4 (head_back t n) new) (sym size);
    }
