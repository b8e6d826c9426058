-- Numbers that are read of octets fit their fields.
use Rattle.std.proofs.Common.{◌≡◌, ℕ, suc, ◌+◌, ◌*◌, ◌-◌, ◌/◌, ◌%◌, ◌^◌, ◌<◌, Bool, true, false, cond, List, take, drop, sym, subst, arith}
use Rattle.std.specs.Prelude.{◌==◌, not, ◌&&◌, ◌||◌}
use Rattle.std.proofs.lemmas.List.{places}
use Rattle.octets.specs.Field.{word, quad, part}
use Rattle.octets.specs.declared.proto.Proto.{Proto}
use Rattle.octets.specs.declared.proto.Proto.TheVariants.{Tcp, Udp, Icmp}
use Rattle.ip4_packet.specs.declared.head.Head4.{Head4}
use Rattle.ip4_packet.specs.Grammar.{HasFields4, payload_of4}
use Rattle.octets.specs.declared.address.Addr4.{Addr4}
use Rattle.icmp_messages.specs.declared.icmp4.Icmp4.{Icmp4}
use Rattle.icmp_messages.specs.declared.inner4.Inner4.{Inner4}
use Rattle.icmp_messages.specs.Inner.{IsInner4, IsInner6}
use Rattle.icmp_messages.specs.declared.table.Row.{Row}
use Rattle.icmp_messages.specs.Extension.{embedded46, embedded64}
use Rattle.l4_headers.specs.declared.ports.Ports.{Ports}
use Rattle.l4_headers.specs.declared.ports.L4.{L4}
use Rattle.l4_headers.specs.Transport.{l4_of}
use Rattle.xlat46.specs.Fits.{FitsHead}
use Rattle.xlat46.specs.Whole.{ArePorts}
use Rattle.packets.specs.declared.packet4.Content4.{Content4}
use Rattle.packets.specs.declared.packet4.Content4.TheVariants.{Segment, Later, Query, Error}
use Rattle.packets.specs.declared.packet4.Packet4.{Packet4}
use Rattle.packets.specs.Asked.{flow_of4, flow_of6}
use Rattle.packets.specs.Packet4.{IsContent4, IsErrorOf4}
use Rattle.crossing.specs.Transfer.{FitsContent}
use Rattle.icmp_messages.specs.declared.icmp6.Icmp6.{Icmp6}
use Rattle.icmp_messages.specs.declared.inner6.Inner6.{Inner6}
use Rattle.ip6_packet.specs.declared.head.Head6.{Head6}
use Rattle.ip6_packet.specs.Grammar.{payload_of6}
use Rattle.nat_model.specs.declared.ask.Ask.{Ask}
use Rattle.packets.specs.declared.asked.Flow.{Flow}
use Rattle.packets.specs.declared.packet6.Content6.{Content6}
use Rattle.packets.specs.declared.packet6.Content6.TheVariants.{Segment as Segment6, Later as Later6, Query as Query6, Error as Error6}
use Rattle.packets.specs.declared.packet6.Packet6.{Packet6}
use Rattle.packets.specs.Packet6.{IsPacket6, IsContent6}
use Rattle.edge_node.specs.declared.way.Way.{Way}
use Rattle.edge_node.specs.declared.way.Way.TheVariants.{Lan, Access, Turned}
use Rattle.edge_node.specs.Asked.{near_port, other_port, IsAsk}
use Rattle.trace_text.specs.Numbers.{FitsAsk}
use Rattle.trace_text.specs.Hops.{AreOctets, IsTaken4}

word_fits : (xs : List ℕ) (at : ℕ) → AreOctets xs → word xs at < 65536
word_fits xs at are = omega (arith, are at, are (suc at))

quad_fits : (xs : List ℕ) (at : ℕ) → AreOctets xs → quad xs at < 2 ^ 32
quad_fits xs at are = omega (arith, are at, are (suc at), are (suc (suc at)), are (suc (suc (suc at))))

part_octets : (xs : List ℕ) (at count : ℕ) → AreOctets xs → AreOctets (part xs at count)
part_octets xs at count are = λ k. grind (arith, places, are (at + k))

pub head_fits : (h : Head4) (octets : List ℕ) → AreOctets octets → HasFields4 h octets → FitsHead h
head_fits h octets are fields = record {
  tos = omega (arith, fields.tos, are 1);
  total = omega (arith, fields.total, word_fits octets 2 are);
  id = λ fragment. omega (arith, fields.id, word_fits octets 4 are);
}

pub id_fits : (h : Head4) (octets : List ℕ) → AreOctets octets → HasFields4 h octets → h.id < 65536
id_fits h octets are fields = omega (arith, fields.id, word_fits octets 4 are)

pub dst_fits : (h : Head4) (octets : List ℕ) → AreOctets octets → HasFields4 h octets → h.dst.0 < 2 ^ 32
dst_fits h octets are fields = omega (arith, fields.dst, quad_fits octets 16 are)

pub src_fits : (h : Head4) (octets : List ℕ) → AreOctets octets → HasFields4 h octets → h.src.0 < 2 ^ 32
src_fits h octets are fields = omega (arith, fields.src, quad_fits octets 12 are)

l4_ports : (proto : Proto) (payload : List ℕ) → AreOctets payload → ArePorts (l4_of proto payload).ports
l4_ports Tcp payload are = (word_fits payload 0 are, word_fits payload 2 are)
l4_ports Udp payload are = (word_fits payload 0 are, word_fits payload 2 are)
l4_ports Icmp payload are = (word_fits payload 4 are, word_fits payload 4 are)

high_fits : (n : ℕ) → n < 2 ^ 32 → n / 2 ^ 16 < 65536
high_fits n small = omega arith

drop_octets : (xs : List ℕ) (n : ℕ) → AreOctets xs → AreOctets (drop n xs)
drop_octets xs n are = λ k. grind (arith, places, are (n + k))

take_octets : (xs : List ℕ) (n : ℕ) → AreOctets xs → AreOctets (take n xs)
take_octets xs n are = λ k. grind (arith, places, are k)

-- what an error embeds
embedded_octets : (m : Icmp4) (payload : List ℕ) → AreOctets payload → m.body ≡ drop 8 payload → AreOctets (embedded46 m)
embedded_octets m payload are is = by (m.rest / 2 ^ 16 % 256 == 0)
  where
    body : AreOctets m.body
    body = subst (λ (xs : List ℕ). AreOctets xs) (sym is) (drop_octets payload 8 are)

    by : (b : Bool) → AreOctets (cond b m.body (take (4 * (m.rest / 2 ^ 16 % 256)) m.body))
    by true = body
    by false = take_octets m.body (4 * (m.rest / 2 ^ 16 % 256)) body

pub record FitsEmbedded (inner : Inner4) : Type 0 where
  pub head : FitsHead inner.head
  pub dst : inner.head.dst.0 < 2 ^ 32
  pub ports : ArePorts inner.ports

inner_fits : (inner : Inner4) (octets : List ℕ) → AreOctets octets → IsInner4 inner octets → FitsEmbedded inner
inner_fits inner octets are is = record {
  head = head_fits inner.head octets are is.header.fields;
  dst = dst_fits inner.head octets are is.header.fields;
  ports = subst (λ (p : Ports). ArePorts p) (sym is.ports) (l4_ports inner.proto inner.payload (subst (λ (xs : List ℕ). AreOctets xs) (sym is.payload) (part_octets octets inner.head.head_len (inner.head.total - inner.head.head_len) are)));
}

error_fits : (h : Head4) (payload : List ℕ) (m : Icmp4) (row : Row) (inner : Inner4) → AreOctets payload → IsErrorOf4 h payload m row inner → FitsEmbedded inner
error_fits h payload m row inner are has = inner_fits inner (embedded46 m) (embedded_octets m payload are has.message.message.body) has.embedded

content_ports : (h : Head4) (payload : List ℕ) (content : Content4) → AreOctets payload → IsContent4 h payload content → ArePorts (flow_of4 content).ports
content_ports h payload (Segment proto l4) are has = subst (λ (l : L4). ArePorts l.ports) (sym has.header) (l4_ports proto payload are)
content_ports h payload (Later proto) are has = (omega arith, omega arith)
content_ports h payload (Query m row) are has =
    let rest : m.rest < 2 ^ 32 = omega (arith, has.0.message.rest, quad_fits payload 4 are) in
    (high_fits m.rest rest, high_fits m.rest rest)
content_ports h payload (Error m row inner) are has = (error_fits h payload m row inner are has).ports

pub ports_fit : (p : Packet4) (octets : List ℕ) → IsTaken4 p octets → ArePorts (flow_of4 p.content).ports
ports_fit p octets taken = content_ports p.head (payload_of4 p.head octets) p.content (part_octets octets p.head.head_len (p.head.total - p.head.head_len) taken.are) taken.is.content

-- of an error also what it embeds
abbrev pub FitsWithin : Content4 → Addr4 → Type 0
FitsWithin (Error m row inner) dst = FitsEmbedded inner × (inner.head.src ≡ dst)
FitsWithin _ dst = Unit {0}

content_within : (h : Head4) (payload : List ℕ) (content : Content4) → AreOctets payload → IsContent4 h payload content → FitsWithin content h.dst
content_within h payload (Segment proto l4) are has = tt
content_within h payload (Later proto) are has = tt
content_within h payload (Query m row) are has = tt
content_within h payload (Error m row inner) are has = (error_fits h payload m row inner are has, has.answers)

pub within : (p : Packet4) (octets : List ℕ) → IsTaken4 p octets → FitsWithin p.content p.head.dst
within p octets taken = content_within p.head (payload_of4 p.head octets) p.content (part_octets octets p.head.head_len (p.head.total - p.head.head_len) taken.are) taken.is.content

pub content_fits : (content : Content4) (dst : Addr4) → FitsWithin content dst → FitsContent content
content_fits (Segment proto l4) dst is = tt
content_fits (Later proto) dst is = tt
content_fits (Query m row) dst is = tt
content_fits (Error m row inner) dst is = is.0.head

-- ---- the same over IPv6

embedded_octets6 : (m : Icmp6) (payload : List ℕ) → AreOctets payload → m.body ≡ drop 8 payload → AreOctets (embedded64 m)
embedded_octets6 m payload are is = by ((m.kind == 1 || m.kind == 3) && not (m.rest / 2 ^ 24 == 0))
  where
    body : AreOctets m.body
    body = subst (λ (xs : List ℕ). AreOctets xs) (sym is) (drop_octets payload 8 are)

    by : (b : Bool) → AreOctets (cond b (take (8 * (m.rest / 2 ^ 24)) m.body) m.body)
    by true = take_octets m.body (8 * (m.rest / 2 ^ 24)) body
    by false = body

inner_ports6 : (inner : Inner6) (octets : List ℕ) → AreOctets octets → IsInner6 inner octets → ArePorts inner.ports
inner_ports6 inner octets are is =
    subst (λ (p : Ports). ArePorts p) (sym is.ports) (l4_ports inner.proto inner.payload (subst (λ (xs : List ℕ). AreOctets xs) (sym is.payload) (part_octets octets inner.head.start inner.head.length are)))

content_ports6 : (at_relay : Bool) (h : Head6) (payload : List ℕ) (content : Content6) → AreOctets payload → IsContent6 at_relay h payload content → ArePorts (flow_of6 content).ports
content_ports6 at_relay h payload (Segment6 proto l4) are has = subst (λ (l : L4). ArePorts l.ports) (sym has.header) (l4_ports proto payload are)
content_ports6 at_relay h payload (Later6 proto) are has = (omega arith, omega arith)
content_ports6 at_relay h payload (Query6 m row) are has =
    let rest : m.rest < 2 ^ 32 = omega (arith, has.0.message.rest, quad_fits payload 4 are) in
    (high_fits m.rest rest, high_fits m.rest rest)
content_ports6 at_relay h payload (Error6 m row inner) are has = inner_ports6 inner (embedded64 m) (embedded_octets6 m payload are has.message.message.body) has.embedded

pub ports_fit6 : (at_relay : Bool) (q : Packet6) (octets : List ℕ) → AreOctets octets → IsPacket6 at_relay q octets → ArePorts (flow_of6 q.content).ports
ports_fit6 at_relay q octets are packet = content_ports6 at_relay q.head (payload_of6 q.head octets) q.content (part_octets octets q.head.start q.head.length are) packet.content

-- ---- asks

near_and_other : (flow : Flow) → ArePorts flow.ports → ArePorts (record { src = near_port flow; dst = other_port flow })
near_and_other flow are = by flow.fault
  where
    by : (b : Bool) → ArePorts (record { src = cond b flow.ports.dst flow.ports.src; dst = cond b flow.ports.src flow.ports.dst })
    by true = (are.1, are.0)
    by false = are

pub ask_fits : (way : Way) (octets : List ℕ) (ask : Ask) → AreOctets octets → IsAsk way octets ask → FitsAsk ask
ask_fits Lan octets ask are is =
    let p = is.0 in
    subst FitsAsk (sym is.2) (record { ports = near_and_other (flow_of4 p.content) (ports_fit p octets (record { is = is.1; are = are })); far = dst_fits p.head octets are is.1.is.fields })
ask_fits Access octets ask are is = subst FitsAsk (sym is.2) (record { ports = near_and_other (flow_of6 (is.0).content) (ports_fit6 false is.0 octets are is.1); far = tt })
ask_fits Turned octets ask are is =
    let p = is.0 in
    subst FitsAsk (sym is.2) (record { ports = near_and_other (flow_of4 p.content) (ports_fit p octets (record { is = is.1; are = are })); far = tt })
