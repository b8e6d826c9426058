-- Crossings, computed: a UDP packet of 192.168.1.10:5000 at the home, which holds 192.0.2.18 and port 1232, to port 1236 of that
-- address, which another edge forwards to its host 192.168.1.20:8080. It crosses twice, since the relay turns it, or once from edge
-- to edge. And an ICMP error about a packet of the host. The octets of each packet were computed apart from this program.
use Rattle.std.proofs.Common.{◌≡◌, ℕ, false, List, [], ◌∷◌, Some, refl, arith}
use Rattle.std.proofs.lemmas.Bool.{false≢true}
use Rattle.octets.specs.declared.address.Addr4.{Addr4}
use Rattle.octets.specs.declared.mtus.Mtus.{Mtus}
use Rattle.octets.specs.declared.proto.Proto.TheVariants.{Udp}
use Rattle.ip4_packet.specs.declared.head.Head4.{Head4}
use Rattle.l4_headers.specs.Transport.{l4_of}
use Rattle.icmp_messages.specs.declared.icmp4.Icmp4.{Icmp4}
use Rattle.icmp_messages.specs.declared.inner4.Inner4.{Inner4}
use Rattle.icmp_messages.specs.Message.{message4}
use Rattle.icmp_messages.specs.declared.table.Rest.TheVariants.{Zero}
use Rattle.icmp_messages.specs.Table.{row}
use Rattle.nat_model.specs.declared.answer.Answer.{Answer}
use Rattle.nat_model.specs.declared.answer.Answer.TheVariants.{Out, In}
use Rattle.packets.specs.declared.packet4.Content4.TheVariants.{Segment, Error}
use Rattle.packets.specs.declared.packet4.Packet4.{Packet4}
use Rattle.crossing.specs.Nat44.{nat44, nat44_by, packet_from, packet_to}
use Rattle.crossing.specs.Named.{Crossing, Sent, Named, uncut}

abbrev host : Addr4
host = record { 0 = 0xc0a8_010a }

abbrev shared : Addr4
shared = record { 0 = 0xc000_0212 }

abbrev other_host : Addr4
other_host = record { 0 = 0xc0a8_0114 }

abbrev mtus : Mtus
mtus = record { mtu4 = 1500; mtu6 = 1500; least4 = omega arith; most4 = omega arith; least6 = omega arith; most6 = omega arith }

-- the home's machine sends the packet from port 1232, to the shared address embedded; the other one's takes it in
abbrev goes_out : Answer
goes_out =
    Out shared 1232 (record { 0 = 0x2001_0db8_0012_3400_0000_c000_0212_0034 }) (record { 0 = 0x2001_0db8_ffff_0000_00c0_0002_1200_0000 }) []

abbrev comes_in : Answer
comes_in = In other_host 8080 shared shared []

-- a header of 20 octets with this TTL and identification, and a datagram of two octets
abbrev header : ℕ → ℕ → Addr4 → Addr4 → Head4
header ttl id src dst = record {
  tos = 0;
  id = id;
  df = false;
  mf = false;
  offset = 0;
  ttl = ttl;
  proto = 17;
  src = src;
  dst = dst;
  head_len = 20;
  total = 30;
  routed = false;
}

abbrev packet : Head4 → List ℕ → Packet4
packet head payload = record { head = head; content = Segment Udp (l4_of Udp payload) }

-- from the host; between both crossings; and to the other host
abbrev first : List ℕ
first = 19 ∷ 136 ∷ 4 ∷ 212 ∷ 0 ∷ 10 ∷ 251 ∷ 79 ∷ 104 ∷ 105 ∷ []

abbrev second : List ℕ
second = 4 ∷ 208 ∷ 4 ∷ 212 ∷ 0 ∷ 10 ∷ 9 ∷ 168 ∷ 104 ∷ 105 ∷ []

abbrev third : List ℕ
third = 4 ∷ 208 ∷ 31 ∷ 144 ∷ 0 ∷ 10 ∷ 239 ∷ 65 ∷ 104 ∷ 105 ∷ []

abbrev of_host : Packet4
of_host = packet (header 64 1 host shared) first

abbrev turned : Packet4
turned = packet (header 62 0 shared shared) second

-- record 0 of a replay, where this packet came and its address and port were replaced so
abbrev crossing : Packet4 → List ℕ → Packet4 → Crossing
crossing taken payload replaced = record { taken = taken; payload = payload; replaced = replaced; mtus = mtus; number = 0 }

-- ---- from the home to the relay, which turns it

pub the_home_replaces_its_source : nat44 of_host goes_out ≡ Some (packet_from shared 1232 of_host)
the_home_replaces_its_source = refl

abbrev to_the_relay : Sent
to_the_relay = record {
  head = header 62 0 shared shared;
  payload = second;
  octets =
      69 ∷ 0 ∷ 0 ∷ 30 ∷ 0 ∷ 0 ∷ 0 ∷ 0 ∷ 62 ∷ 17 ∷ 248 ∷ 170 ∷ 192 ∷ 0 ∷ 2 ∷ 18 ∷ 192 ∷ 0 ∷ 2 ∷ 18
      ∷ 4 ∷ 208 ∷ 4 ∷ 212 ∷ 0 ∷ 10 ∷ 9 ∷ 168 ∷ 104 ∷ 105 ∷ [];
}

pub it_crosses_to_the_relay : Named (crossing of_host first (packet_from shared 1232 of_host)) uncut second to_the_relay
it_crosses_to_the_relay = record {
  octets = refl;
  routed = refl;
  head_len = refl;
  total = refl;
  ttl = refl;
  id = refl;
  df = refl;
  payload = record { sum = 0x09a8; rest = refl; changed = λ e. refl; missing = λ e. absurd (false≢true e) };
  part = refl;
  offset = refl;
  more = refl;
  tos = refl;
  proto = refl;
  src = refl;
  dst = refl;
}

-- ---- from the relay, which turned it, to the other edge

pub the_other_edge_replaces_its_destination : nat44 turned comes_in ≡ Some (packet_to other_host 8080 turned)
the_other_edge_replaces_its_destination = refl

abbrev from_the_relay : Sent
from_the_relay = record {
  head = header 60 0 shared other_host;
  payload = third;
  octets =
      69 ∷ 0 ∷ 0 ∷ 30 ∷ 0 ∷ 0 ∷ 0 ∷ 0 ∷ 60 ∷ 17 ∷ 251 ∷ 0 ∷ 192 ∷ 0 ∷ 2 ∷ 18 ∷ 192 ∷ 168 ∷ 1 ∷ 20
      ∷ 4 ∷ 208 ∷ 31 ∷ 144 ∷ 0 ∷ 10 ∷ 239 ∷ 65 ∷ 104 ∷ 105 ∷ [];
}

pub it_crosses_from_the_relay : Named (crossing turned second (packet_to other_host 8080 turned)) uncut third from_the_relay
it_crosses_from_the_relay = record {
  octets = refl;
  routed = refl;
  head_len = refl;
  total = refl;
  ttl = refl;
  id = refl;
  df = refl;
  payload = record { sum = 0xef41; rest = refl; changed = λ e. refl; missing = λ e. absurd (false≢true e) };
  part = refl;
  offset = refl;
  more = refl;
  tos = refl;
  proto = refl;
  src = refl;
  dst = refl;
}

-- ---- from edge to edge, by a forwarding rule: both answers in turn, and one crossing

abbrev from_edge_to_edge : Packet4
from_edge_to_edge = packet_to other_host 8080 (packet_from shared 1232 of_host)

pub both_edges_replace_an_end : nat44_by of_host (goes_out ∷ comes_in ∷ []) ≡ Some from_edge_to_edge
both_edges_replace_an_end = refl

abbrev straight : Sent
straight = record {
  head = header 62 0 shared other_host;
  payload = third;
  octets =
      69 ∷ 0 ∷ 0 ∷ 30 ∷ 0 ∷ 0 ∷ 0 ∷ 0 ∷ 62 ∷ 17 ∷ 249 ∷ 0 ∷ 192 ∷ 0 ∷ 2 ∷ 18 ∷ 192 ∷ 168 ∷ 1 ∷ 20
      ∷ 4 ∷ 208 ∷ 31 ∷ 144 ∷ 0 ∷ 10 ∷ 239 ∷ 65 ∷ 104 ∷ 105 ∷ [];
}

pub it_crosses_from_edge_to_edge : Named (crossing of_host first from_edge_to_edge) uncut third straight
it_crosses_from_edge_to_edge = record {
  octets = refl;
  routed = refl;
  head_len = refl;
  total = refl;
  ttl = refl;
  id = refl;
  df = refl;
  payload = record { sum = 0xef41; rest = refl; changed = λ e. refl; missing = λ e. absurd (false≢true e) };
  part = refl;
  offset = refl;
  more = refl;
  tos = refl;
  proto = refl;
  src = refl;
  dst = refl;
}

-- ---- an ICMP error of the router 198.51.100.9 in the core, from the relay to the home: a TTL is exceeded, of the home's packet from
-- port 1232 to 198.51.100.7:53, which its host sent from port 5000

abbrev router : Addr4
router = record { 0 = 0xc633_6409 }

abbrev server : Addr4
server = record { 0 = 0xc633_6407 }

abbrev comes_to_the_host : Answer
comes_to_the_host = In host 5000 router server []

abbrev embedded : Inner4
embedded = record {
  head = header 62 7 shared server;
  payload = 4 ∷ 208 ∷ 0 ∷ 53 ∷ 0 ∷ 10 ∷ 166 ∷ 30 ∷ 104 ∷ 105 ∷ [];
  ports = record { src = 1232; dst = 53 };
  proto = Udp;
}

abbrev exceeded : List ℕ → Icmp4
exceeded body = record { kind = 11; code = 0; rest = 0; body = body }

abbrev in_core : Icmp4
in_core = exceeded (69 ∷ 0 ∷ 0 ∷ 30 ∷ 0 ∷ 7 ∷ 0 ∷ 0 ∷ 62 ∷ 17 ∷ 144 ∷ 123 ∷ 192 ∷ 0 ∷ 2 ∷ 18 ∷ 198 ∷ 51 ∷ 100 ∷ 7
    ∷ 4 ∷ 208 ∷ 0 ∷ 53 ∷ 0 ∷ 10 ∷ 166 ∷ 30 ∷ 104 ∷ 105 ∷ [])

abbrev at_host : Icmp4
at_host = exceeded (69 ∷ 0 ∷ 0 ∷ 30 ∷ 0 ∷ 0 ∷ 0 ∷ 0 ∷ 62 ∷ 17 ∷ 144 ∷ 226 ∷ 192 ∷ 168 ∷ 1 ∷ 10 ∷ 198 ∷ 51 ∷ 100 ∷ 7
    ∷ 19 ∷ 136 ∷ 0 ∷ 53 ∷ 0 ∷ 10 ∷ 151 ∷ 198 ∷ 104 ∷ 105 ∷ [])

abbrev message_head : ℕ → ℕ → Addr4 → Head4
message_head ttl id dst = record (header ttl id router dst) { proto = 1; total = 58 }

abbrev of_router : Packet4
of_router = record { head = message_head 250 9 shared; content = Error in_core (row 11 0 3 0 Zero) embedded }

pub the_home_replaces_what_it_embeds : nat44 of_router comes_to_the_host ≡ Some (packet_to host 5000 of_router)
the_home_replaces_what_it_embeds = refl

abbrev to_the_host : Sent
to_the_host = record {
  head = message_head 248 0 host;
  payload =
      11 ∷ 0 ∷ 225 ∷ 8 ∷ 0 ∷ 0 ∷ 0 ∷ 0 ∷ 69 ∷ 0 ∷ 0 ∷ 30 ∷ 0 ∷ 0 ∷ 0 ∷ 0 ∷ 62 ∷ 17 ∷ 144 ∷ 226
      ∷ 192 ∷ 168 ∷ 1 ∷ 10 ∷ 198 ∷ 51 ∷ 100 ∷ 7 ∷ 19 ∷ 136 ∷ 0 ∷ 53 ∷ 0 ∷ 10 ∷ 151 ∷ 198 ∷ 104 ∷ 105 ∷ [];
  octets =
      69 ∷ 0 ∷ 0 ∷ 58 ∷ 0 ∷ 0 ∷ 0 ∷ 0 ∷ 248 ∷ 1 ∷ 214 ∷ 211 ∷ 198 ∷ 51 ∷ 100 ∷ 9 ∷ 192 ∷ 168 ∷ 1 ∷ 10
      ∷ 11 ∷ 0 ∷ 225 ∷ 8 ∷ 0 ∷ 0 ∷ 0 ∷ 0 ∷ 69 ∷ 0 ∷ 0 ∷ 30 ∷ 0 ∷ 0 ∷ 0 ∷ 0 ∷ 62 ∷ 17 ∷ 144 ∷ 226
      ∷ 192 ∷ 168 ∷ 1 ∷ 10 ∷ 198 ∷ 51 ∷ 100 ∷ 7 ∷ 19 ∷ 136 ∷ 0 ∷ 53 ∷ 0 ∷ 10 ∷ 151 ∷ 198 ∷ 104 ∷ 105 ∷ [];
}

pub an_error_crosses : Named (crossing of_router (message4 in_core) (packet_to host 5000 of_router)) uncut to_the_host.payload to_the_host
an_error_crosses = record {
  octets = refl;
  routed = refl;
  head_len = refl;
  total = refl;
  ttl = refl;
  id = refl;
  df = refl;
  payload = record {
    told = at_host;
    message = record { there = row 11 0 3 0 Zero; back = row 3 0 11 0 Zero; first = refl; second = refl; kind = refl; code = refl; sum = refl };
    rest = refl;
    body = refl;
  };
  part = refl;
  offset = refl;
  more = refl;
  tos = refl;
  proto = refl;
  src = refl;
  dst = refl;
}
