-- The records that are replayed: whole TCP and UDP packets, each protocol's from one host end, that go out of the domain.
use Rattle.std.specs.Prelude.{◌≡◌, ℕ, ◌-◌, ◌≤◌, Bool, true, false, not, IsTrue, ◌&&◌, ◌||◌, ◌==◌, nat_le, if◌then◌else◌, List, [], ◌∷◌, Option, Some, None}
use Rattle.std.specs.List.{list_all}
use Rattle.octets.specs.declared.proto.Proto.{Proto}
use Rattle.octets.specs.declared.proto.Proto.TheVariants.{Tcp, Udp}
use Rattle.pcap_files.specs.declared.records.Record.{Record}
use Rattle.ip4_packet.specs.declared.head.Head4.{Head4}
use Rattle.ip4_packet.specs.Grammar.{payload_of4}
use Rattle.l4_headers.specs.Transport.{l4_of}
use Rattle.rule_book.specs.Owner.{covers_of}
use Rattle.nat_model.specs.Binding.{same_proto}
use Rattle.ip4_packet.specs.Fragment.{is_fragment}
use Rattle.xlat46.specs.Whole.{Parts4, HasNoTcpUdpCause4}
use Rattle.one_edge.specs.declared.taken.Taken.{Taken}
use Rattle.one_edge.specs.Edge.{Edge}

-- the packet that was read, with its payload
abbrev pub parts_of : Taken → List ℕ → Parts4
parts_of t octets = record { head = t.head; proto = t.proto; payload = payload_of4 t.head octets }

-- the header is that of a whole packet that lasts for both nodes, goes to no rule's own address, and fits both networks
pub record IsServedHead (e : Edge) (head : Head4) : Type 0 where
  pub whole : is_fragment head ≡ false
  pub lasts : 3 ≤ head.ttl
  pub far : covers_of e.rules head.dst.0 ≡ false
  pub fits6 : head.total - head.head_len ≤ e.mtus.mtu6 - 40
  pub fits4 : head.total - head.head_len ≤ e.mtus.mtu4 - 20

-- the octets are this packet, which has none of the causes for which one of TCP or UDP is dropped before it is translated,
-- and is such a one
pub record IsServed (e : Edge) (t : Taken) (octets : List ℕ) : Type 0 where
  pub sound : HasNoTcpUdpCause4 (parts_of t octets) octets
  pub carried : IsServedHead e t.head
  pub ports : t.ports ≡ (l4_of t.proto (payload_of4 t.head octets)).ports

-- each record is served, as these packets
abbrev pub AreServed : Edge → List Record → List Taken → Type 0
AreServed e [] [] = Unit {0}
AreServed e (r ∷ rs) (t ∷ ts) = IsServed e t r.bytes × AreServed e rs ts
AreServed e [] (t ∷ ts) = ⊥
AreServed e (r ∷ rs) [] = ⊥

-- no time is less than the one before
abbrev pub times_rise : ℕ → List Record → Bool
times_rise last [] = true
times_rise last (r ∷ rs) = nat_le last r.time && times_rise r.time rs

-- the packet is one of this protocol; two packets are from one address and port
abbrev pub is_of : Proto → Taken → Bool
is_of proto t = same_proto proto t.proto

abbrev pub same_source : Taken → Taken → Bool
same_source one other = (one.head.src.0 == other.head.src.0) && (one.ports.src == other.ports.src)

-- the first packet of a protocol
abbrev pub first_of : Proto → List Taken → Option Taken
first_of proto [] = None
first_of proto (t ∷ ts) = if is_of proto t then Some t else first_of proto ts

-- each packet of the protocol has the source address and port of that one
abbrev pub follow : Proto → Option Taken → List Taken → Bool
follow proto None ts = true
follow proto (Some first) ts = list_all (λ t. not (is_of proto t) || same_source first t) ts

abbrev pub have_one_source : Proto → List Taken → Bool
have_one_source proto ts = follow proto (first_of proto ts) ts

-- the records are replayed: each is served, times don't fall, and each packet has the source address and port of the
-- first packet of its protocol
pub record AreReplayed (e : Edge) (records : List Record) : Type 0 where
  pub packets : List Taken
  pub served : AreServed e records packets
  pub times : IsTrue (times_rise 0 records)
  pub tcp : IsTrue (have_one_source Tcp packets)
  pub udp : IsTrue (have_one_source Udp packets)
