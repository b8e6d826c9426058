-- A served packet goes out and is translated back.
use Rattle.std.proofs.Common.{◌≡◌, ◌≢◌, ℕ, ◌+◌, ◌-◌, ◌%◌, ◌^◌, ◌<◌, ◌≤◌, false, List, length, not, Option, Some, None, refl, sym, ap, ◌∙◌, subst, arith}
use Rattle.std.proofs.lemmas.Bool.{false≢true}
use Rattle.octets.specs.declared.address.Addr4.{Addr4}
use Rattle.octets.specs.declared.address.Addr6.{Addr6}
use Rattle.octets.specs.declared.proto.Proto.{Proto}
use Rattle.octets.specs.declared.proto.Proto.TheVariants.{Tcp, Udp, Icmp}
use Rattle.ip4_packet.specs.declared.head.Head4.{Head4}
use Rattle.ip4_packet.specs.Grammar.{payload_of4}
use Rattle.ip4_packet.specs.Written.{written4}
use Rattle.ip6_packet.specs.declared.head.Head6.{Head6}
use Rattle.ip6_packet.specs.Fragment.{fragment_offset, more_fragments}
use Rattle.ip6_packet.specs.Grammar.{payload_of6, Is6}
use Rattle.ip6_packet.specs.Written.{written6, IsPacket6}
use Rattle.ip6_packet.proofs.WrittenLemmas.{written_is6}
use Rattle.l4_headers.specs.declared.ports.Ports.{Ports}
use Rattle.l4_headers.specs.Transport.{header_octets, l4_of, with_l4}
use Rattle.l4_headers.proofs.Laws.{length-with_l4}
use Rattle.l4_headers.proofs.RightSums.{header_stands}
use Rattle.xlat46.specs.Fits.{FitsHead}
use Rattle.xlat46.specs.Head.{upper_protocol, translated}
use Rattle.ip4_packet.specs.Fragment.{is_fragment}
use Rattle.xlat46.specs.Whole.{packet46}
use Rattle.xlat64.specs.Whole.{Parts6, IsCarried6, sum64, packet64}
use Rattle.l4_headers.specs.declared.ends.Ends.{Ends}
use Rattle.packets.specs.declared.packet4.Content4.TheVariants.{Segment}
use Rattle.packets.specs.declared.packet4.Packet4.{Packet4}
use Rattle.transit.proofs.Form.{low_offset}
use Rattle.crossing.specs.Nat44.{with_source, with_ports, nat44}
use Rattle.crossing.specs.Transfer.{Transfer, packet_with}
use Rattle.crossing.proofs.Heads.{whole_parts, payload_len_is, head_there, head_back, form, named_uncut}
use Rattle.crossing.proofs.Contents.{flow_number}
use Rattle.crossing.proofs.Segment.{Carries, again_of, carried_back, parts_back, payload_back, length_there, length_back, segment_is}
use Rattle.one_edge.specs.declared.taken.Taken.{Taken}
use Rattle.one_edge.specs.Edge.{Edge, outside_port, own4, own6, far6}
use Rattle.one_edge.specs.Served.{IsServed, parts_of}
use Rattle.one_edge.specs.Crossed.{IsCrossed, ports_outside, read_packet, answer_of}

-- the packet's way out; it embeds no other, so that the inner ends say nothing
abbrev pub ends6 : Edge → Taken → Ends Addr6
ends6 e t = record { src = own6 e; dst = far6 e t.head.dst; inner_src = own6 e; inner_dst = own6 e; ports = ports_outside e t.ports }

abbrev pub ends4 : Edge → Taken → Ends Addr4
ends4 e t = record { src = own4 e; dst = t.head.dst; inner_src = own4 e; inner_dst = own4 e; ports = ports_outside e t.ports }

abbrev pub way_of : Edge → Taken → List ℕ → ℕ → Transfer
way_of e t octets number = record {
  taken = read_packet t octets;
  payload = payload_of4 t.head octets;
  six = ends6 e t;
  four = ends4 e t;
  mtus = e.mtus;
  number = number;
}

-- the packet on the access network
abbrev pub carried_of : Edge → Taken → List ℕ → Parts6
carried_of e t octets = parts_back (way_of e t octets 0) t.proto

-- numbers that fit their fields
pub record Fits (e : Edge) (t : Taken) : Type 0 where
  pub class : t.head.tos < 256
  pub total : t.head.total < 65536
  pub source : (own6 e).0 < 2 ^ 128
  pub far : (far6 e t.head.dst).0 < 2 ^ 128
  pub port : outside_port e t.ports.src < 65536
  pub far_port : t.ports.dst < 65536
  pub most : e.mtus.mtu4 ≤ 9000
  pub most6 : e.mtus.mtu6 ≤ 9000

-- a whole packet's identification isn't looked at
pub head_fits : (e : Edge) (t : Taken) (octets : List ℕ) → IsServed e t octets → Fits e t → FitsHead t.head
head_fits e t octets is fit = record { tos = fit.class; total = fit.total; id = λ fragment. absurd (false≢true (sym is.carried.whole ∙ fragment)) }

pub stands_of : (e : Edge) (t : Taken) (octets : List ℕ) → IsServed e t octets → header_octets t.proto ≤ length (payload_of4 t.head octets)
stands_of e t octets is =
    let parts = whole_parts t.head.mf t.head.offset is.carried.whole in
    header_stands t.proto (payload_of4 t.head octets) (not t.head.mf) (is.sound.carried.transport parts.1)

pub declared : (e : Edge) (t : Taken) (octets : List ℕ) → IsServed e t octets → length (payload_of4 t.head octets) ≡ t.head.total - t.head.head_len
declared e t octets is = payload_len_is t.head (payload_of4 t.head octets) octets is.sound.is

pub carries : (e : Edge) (t : Taken) (octets : List ℕ) (number : ℕ) → IsServed e t octets → Fits e t → Carries (way_of e t octets number) t.proto
carries e t octets number is fit = record {
  there = is.sound.carried;
  first = (whole_parts t.head.mf t.head.offset is.carried.whole).1;
  stands = stands_of e t octets is;
  six = (fit.port, fit.far_port);
  short = omega (arith, declared e t octets is, fit.total);
}

pub payload_length : (e : Edge) (t : Taken) (octets : List ℕ) → IsServed e t octets → length (carried_of e t octets).payload ≡ t.head.total - t.head.head_len
payload_length e t octets is = length_there (way_of e t octets 0) t.proto (stands_of e t octets is) ∙ declared e t octets is

pub carried_is : (e : Edge) (t : Taken) (octets : List ℕ) → IsServed e t octets → Fits e t → IsCarried6 (carried_of e t octets)
carried_is e t octets is fit = carried_back (way_of e t octets 0) t.proto (carries e t octets 0 is fit)

pub form_of : (e : Edge) (t : Taken) (octets : List ℕ) → IsServed e t octets → Fits e t → IsPacket6 (carried_of e t octets).head (carried_of e t octets).payload (written6 (carried_of e t octets).head (carried_of e t octets).payload)
form_of e t octets is fit =
    let w = way_of e t octets 0 in
    let over = (carried_of e t octets).payload in
    let size = payload_length e t octets is in
    let number = flow_number t.head.proto t.proto is.sound.carried.protocol is.sound.carried.no_icmp in
    let low = low_offset t.head (payload_of4 t.head octets) octets is.sound.is is.sound.header in
    let made = form w over (head_fits e t octets is fit) (record { src = fit.source; dst = fit.far; inner_src = fit.source; inner_dst = fit.source; ports = (fit.port, fit.far_port) }) low (omega (arith, size, fit.total, is.sound.is.head_fits)) number.upper in
    subst (λ (n : ℕ). IsPacket6 (head_there w n) over (written6 (head_there w n) over)) size made

pub read_as : (e : Edge) (t : Taken) (octets : List ℕ) → IsServed e t octets → Fits e t → Is6 (carried_of e t octets).head (carried_of e t octets).payload (written6 (carried_of e t octets).head (carried_of e t octets).payload)
read_as e t octets is fit = written_is6 (carried_of e t octets).head (carried_of e t octets).payload (written6 (carried_of e t octets).head (carried_of e t octets).payload) (form_of e t octets is fit)

-- the payload on the access network
pub payload_is : (e : Edge) (t : Taken) (octets : List ℕ) (head : Head6) (access payload : List ℕ) → IsServed e t octets → Fits e t → head ≡ translated t.head (own6 e) (far6 e t.head.dst)
    → access ≡ packet46 (parts_of t octets) (own6 e) (far6 e t.head.dst) (Some (ports_outside e t.ports)) → payload ≡ payload_of6 head access → payload ≡ (carried_of e t octets).payload
payload_is e t octets head access payload is fit translates out reads =
    reads
    ∙ ap (λ (h : Head6). payload_of6 h access) translates
    ∙ ap (λ (xs : List ℕ). payload_of6 (carried_of e t octets).head xs) out
    ∙ sym (read_as e t octets is fit).payload_is

pub carried_same : (e : Edge) (t : Taken) (octets : List ℕ) (head : Head6) (payload : List ℕ) → head ≡ (carried_of e t octets).head → payload ≡ (carried_of e t octets).payload
    → record { head = head; proto = t.proto; payload = payload } ≡ carried_of e t octets
carried_same e t octets head payload head_same payload_same =
    ap (λ (h : Head6). record { head = h; proto = t.proto; payload = payload }) head_same ∙ ap (λ (xs : List ℕ). record { head = (carried_of e t octets).head; proto = t.proto; payload = xs }) payload_same

-- the packet's ports as the machine replaces them
source_replaced : (proto : Proto) (port : ℕ) (ports : Ports) → proto ≢ Icmp → with_source proto port ports ≡ record { src = port; dst = ports.dst }
source_replaced Tcp port ports flows = refl
source_replaced Udp port ports flows = refl
source_replaced Icmp port ports flows = absurd (flows refl)

abbrev some_packet : Packet4 → Option Packet4
some_packet p = Some p

pub by_answer : (e : Edge) (t : Taken) (octets : List ℕ) → IsServed e t octets → nat44 (read_packet t octets) (answer_of e t) ≡ Some (packet_with (ends4 e t) (read_packet t octets))
by_answer e t octets is =
    let l4 = l4_of t.proto (payload_of4 t.head octets) in
    let ports : with_source t.proto (outside_port e t.ports.src) l4.ports ≡ ports_outside e t.ports = source_replaced t.proto (outside_port e t.ports.src) l4.ports is.sound.carried.no_icmp ∙ ap (λ (read : Ports). record { src = outside_port e t.ports.src; dst = read.dst }) (sym is.ports) in
    ap (λ (ports : Ports). some_packet (record { head = record t.head { src = own4 e }; content = Segment t.proto (with_ports ports l4) })) ports

pub is_crossed : (e : Edge) (t : Taken) (octets : List ℕ) (number : ℕ) (access core : List ℕ) → IsServed e t octets → Fits e t
    → access ≡ packet46 (parts_of t octets) (own6 e) (far6 e t.head.dst) (Some (ports_outside e t.ports))
    → core ≡ packet64 (carried_of e t octets) (own4 e) t.head.dst (Some (ports_outside e t.ports)) (number % 2 ^ 16) → IsCrossed e number octets access core
is_crossed e t octets number access core is fit out back =
    let w = way_of e t octets number in
    let q = carried_of e t octets in
    let carry = carries e t octets number is fit in
    let again = (again_of w t.proto carry).ports_are in
    let new = payload_back w t.proto in
    let size : length new ≡ t.head.total - t.head.head_len = length_back w t.proto carry.stands ∙ declared e t octets is in
    let flow = flow_number t.head.proto t.proto is.sound.carried.protocol is.sound.carried.no_icmp in
    record {
      taken = t;
      served = is;
      out = out;
      carried = q;
      read = rw out (read_as e t octets is fit);
      sound = carried_is e t octets is fit;
      back = back ∙ ap (λ (read : Ports). packet64 q (own4 e) t.head.dst (Some read) (number % 2 ^ 16)) (sym again);
      between = record {
        replaced = packet_with (ends4 e t) (read_packet t octets);
        by_answer = by_answer e t octets is;
        whole = new;
        sent = record { head = head_back w (length new); payload = new; octets = written4 (head_back w (length new)) new };
        named = named_uncut w new (head_fits e t octets is fit) is.carried.lasts (omega (arith, size, fit.total, is.sound.is.head_fits)) flow.back (segment_is w t.proto carry (fit.port, fit.far_port));
        arrives = back ∙ ap (λ (n : ℕ). written4 (head_back w n) new) (sym size);
      };
    }

-- a whole packet has no Fragment Header
abbrev plain6 : Head4 → Addr6 → Addr6 → Head6
plain6 h src dst = record {
  class = h.tos;
  hop = h.ttl - 1;
  src = src;
  dst = dst;
  upper = upper_protocol h.proto;
  start = 40;
  length = h.total - h.head_len;
  frag = None;
  left = None;
}

no_header : (h : Head4) (src dst : Addr6) → is_fragment h ≡ false → translated h src dst ≡ plain6 h src dst
no_header h src dst whole = rw whole refl

plain_length : (h : Head4) (src dst : Addr6) (payload : List ℕ) → length (written6 (plain6 h src dst) payload) ≡ 40 + length payload
plain_length h src dst payload = omega arith

-- neither packet has more octets than a network carries
pub access_short : (e : Edge) (t : Taken) (octets : List ℕ) (number : ℕ) (access : List ℕ) → IsServed e t octets → Fits e t
    → access ≡ packet46 (parts_of t octets) (own6 e) (far6 e t.head.dst) (Some (ports_outside e t.ports)) → length access ≤ 9000
access_short e t octets number access is fit out =
    let q = carried_of e t octets in
    let size = payload_length e t octets is in
    let plain = no_header t.head (own6 e) (far6 e t.head.dst) is.carried.whole in
    let long : length (written6 q.head q.payload) ≡ 40 + length q.payload = ap (λ (h : Head6). length (written6 h q.payload)) plain ∙ plain_length t.head (own6 e) (far6 e t.head.dst) q.payload in
    let len : length access ≡ 40 + length q.payload = ap length out ∙ long in
    omega (arith, len, size, is.carried.fits6, fit.most6)

-- what the code has of a packet on its way
pub record Made (e : Edge) (t : Taken) (head : Head6) (source far : Addr6) (ports : Ports) : Type 0 where
  pub translates : head ≡ translated t.head source far
  pub source_is : source ≡ own6 e
  pub far_is : far ≡ far6 e t.head.dst
  pub ports_are : ports ≡ ports_outside e t.ports
  pub class_fits : head.class < 256
  pub total_fits : t.head.total < 65536
  pub source_fits : source.0 < 2 ^ 128
  pub far_fits : far.0 < 2 ^ 128
  pub port_fits : ports.src < 65536
  pub far_port_fits : ports.dst < 65536
  pub most4 : e.mtus.mtu4 ≤ 9000
  pub most_six : e.mtus.mtu6 ≤ 9000

pub fits_of : (e : Edge) (t : Taken) (head : Head6) (source far : Addr6) (ports : Ports) → Made e t head source far ports → Fits e t
fits_of e t head source far ports made = record {
  class = subst (λ (n : ℕ). n < 256) (ap (λ (h : Head6). h.class) made.translates) made.class_fits;
  total = made.total_fits;
  source = subst (λ (a : Addr6). a.0 < 2 ^ 128) made.source_is made.source_fits;
  far = subst (λ (a : Addr6). a.0 < 2 ^ 128) made.far_is made.far_fits;
  port = subst (λ (p : Ports). p.src < 65536) made.ports_are made.port_fits;
  far_port = subst (λ (p : Ports). p.dst < 65536) made.ports_are made.far_port_fits;
  most = made.most4;
  most6 = made.most_six;
}

pub translates_of : (e : Edge) (t : Taken) (head : Head6) (source far : Addr6) (ports : Ports) → Made e t head source far ports → head ≡ translated t.head (own6 e) (far6 e t.head.dst)
translates_of e t head source far ports made =
    made.translates ∙ ap (λ (a : Addr6). translated t.head a far) made.source_is ∙ ap (λ (a : Addr6). translated t.head (own6 e) a) made.far_is

pub out_of : (e : Edge) (t : Taken) (octets access : List ℕ) (head : Head6) (source far : Addr6) (ports : Ports) → Made e t head source far ports
    → access ≡ packet46 (parts_of t octets) source far (Some ports) → access ≡ packet46 (parts_of t octets) (own6 e) (far6 e t.head.dst) (Some (ports_outside e t.ports))
out_of e t octets access head source far ports made out =
    out
    ∙ ap (λ (a : Addr6). packet46 (parts_of t octets) a far (Some ports)) made.source_is
    ∙ ap (λ (a : Addr6). packet46 (parts_of t octets) (own6 e) a (Some ports)) made.far_is
    ∙ ap (λ (p : Ports). packet46 (parts_of t octets) (own6 e) (far6 e t.head.dst) (Some p)) made.ports_are

pub carried_by : (e : Edge) (t : Taken) (octets access payload : List ℕ) (head : Head6) (source far : Addr6) (ports : Ports) → IsServed e t octets → Made e t head source far ports
    → access ≡ packet46 (parts_of t octets) source far (Some ports) → payload ≡ payload_of6 head access → record { head = head; proto = t.proto; payload = payload } ≡ carried_of e t octets
carried_by e t octets access payload head source far ports is made out reads =
    let translates = translates_of e t head source far ports made in
    carried_same e t octets head payload translates
    (payload_is e t octets head access payload is (fits_of e t head source far ports made) translates (out_of e t octets access head source far ports made out) reads)

pub crossed_by : (e : Edge) (t : Taken) (octets : List ℕ) (number id : ℕ) (access core payload : List ℕ) (head : Head6) (source far : Addr6) (from : Addr4) (ports : Ports) → IsServed e t octets → Made e t head source far ports
    → access ≡ packet46 (parts_of t octets) source far (Some ports) → payload ≡ payload_of6 head access → from ≡ own4 e → id ≡ number % 2 ^ 16
    → core ≡ packet64 (record { head = head; proto = t.proto; payload = payload }) from t.head.dst (Some ports) id → IsCrossed e number octets access core
crossed_by e t octets number id access core payload head source far from ports is made out reads from_is id_is back =
    is_crossed e t octets number access core is (fits_of e t head source far ports made) (out_of e t octets access head source far ports made out)
    (back
    ∙ ap (λ (q : Parts6). packet64 q from t.head.dst (Some ports) id) (carried_by e t octets access payload head source far ports is made out reads)
    ∙ ap (λ (a : Addr4). packet64 (carried_of e t octets) a t.head.dst (Some ports) id) from_is
    ∙ ap (λ (p : Ports). packet64 (carried_of e t octets) (own4 e) t.head.dst (Some p) id) made.ports_are
    ∙ ap (λ (n : ℕ). packet64 (carried_of e t octets) (own4 e) t.head.dst (Some (ports_outside e t.ports)) n) id_is)

pub carries_by : (e : Edge) (t : Taken) (octets : List ℕ) (access payload : List ℕ) (head : Head6) (source far : Addr6) (ports : Ports) → IsServed e t octets → Made e t head source far ports
    → access ≡ packet46 (parts_of t octets) source far (Some ports) → payload ≡ payload_of6 head access → IsCarried6 (record { head = head; proto = t.proto; payload = payload }) × (head.length ≡ length payload)
carries_by e t octets access payload head source far ports is made out reads =
    let fit = fits_of e t head source far ports made in
    let same = carried_by e t octets access payload head source far ports is made out reads in (
      subst IsCarried6 (sym same) (carried_is e t octets is fit),
      ap (λ (q : Parts6). q.head.length) same ∙ sym (payload_length e t octets is) ∙ ap (λ (q : Parts6). length q.payload) (sym same),
    )

-- the core's packet is 20 octets shorter than that of the access network
pub shorter : (e : Edge) (t : Taken) (octets : List ℕ) (payload core : List ℕ) (head : Head6) (from : Addr4) (ports : Ports) (id : ℕ) → IsCarried6 (record { head = head; proto = t.proto; payload = payload }) → fragment_offset head.frag ≡ 0
    → core ≡ packet64 (record { head = head; proto = t.proto; payload = payload }) from t.head.dst (Some ports) id → length core ≡ 20 + length payload
shorter e t octets payload core head from ports id carried first back =
    let stands = header_stands t.proto payload (not (more_fragments head.frag)) (carried.transport first) in
    let q : Parts6 = record { head = head; proto = t.proto; payload = payload } in
    let size = length-with_l4 t.proto payload ports (sum64 q from t.head.dst ports) stands in
    let made : length (packet64 q from t.head.dst (Some ports) id) ≡ 20 + length (with_l4 t.proto payload ports (sum64 q from t.head.dst ports)) = omega arith in
    ap length back ∙ made ∙ ap (λ (n : ℕ). 20 + n) size

-- what is carried fits IPv4
pub payload_short : (e : Edge) (t : Taken) (octets : List ℕ) (number : ℕ) (access payload : List ℕ) (head : Head6) (source far : Addr6) (ports : Ports) → IsServed e t octets → Made e t head source far ports
    → access ≡ packet46 (parts_of t octets) source far (Some ports) → payload ≡ payload_of6 head access → length payload ≤ 8980
payload_short e t octets number access payload head source far ports is made out reads =
    let fit = fits_of e t head source far ports made in
    let same = ap (λ (q : Parts6). length q.payload) (carried_by e t octets access payload head source far ports is made out reads) in
    let size = payload_length e t octets is in
    omega (arith, same, size, is.carried.fits4, fit.most)
