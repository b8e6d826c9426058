-- What becomes of a record: the packet on the access network, and what the relay makes of that one.
use Rattle.std.specs.Prelude.{◌≡◌, ℕ, ◌+◌, ◌%◌, ◌^◌, List, [], ◌∷◌, Some}
use Rattle.pcap_files.specs.declared.records.Record.{Record}
use Rattle.pcap_files.specs.Written.{written}
use Rattle.ip4_packet.specs.Grammar.{payload_of4}
use Rattle.ip6_packet.specs.Grammar.{Is6}
use Rattle.l4_headers.specs.declared.ports.Ports.{Ports}
use Rattle.l4_headers.specs.Transport.{l4_of}
use Rattle.nat_model.specs.declared.answer.Answer.{Answer}
use Rattle.nat_model.specs.declared.answer.Answer.TheVariants.{Out}
use Rattle.xlat46.specs.Whole.{packet46}
use Rattle.xlat64.specs.Whole.{Parts6, IsCarried6, packet64}
use Rattle.packets.specs.declared.packet4.Content4.TheVariants.{Segment}
use Rattle.packets.specs.declared.packet4.Packet4.{Packet4}
use Rattle.crossing.specs.Nat44.{nat44}
use Rattle.crossing.specs.Named.{Crossing, Sent, Named, uncut}
use Rattle.one_edge.specs.declared.captures.Captures.{Captures}
use Rattle.one_edge.specs.declared.taken.Taken.{Taken}
use Rattle.one_edge.specs.Edge.{Edge, outside_port, own4, own6, far6}
use Rattle.one_edge.specs.Served.{IsServed, parts_of}

-- the ports of the packet outside: its source port is the edge's
abbrev pub ports_outside : Edge → Ports → Ports
ports_outside e inside = record { src = outside_port e inside.src; dst = inside.dst }

-- the answer of the edge's machine
abbrev pub answer_of : Edge → Taken → Answer
answer_of e t = Out (own4 e) (outside_port e t.ports.src) (own6 e) (far6 e t.head.dst) []

-- the packet as it was read
abbrev pub read_packet : Taken → List ℕ → Packet4
read_packet t octets = record { head = t.head; content = Segment t.proto (l4_of t.proto (payload_of4 t.head octets)) }

-- its crossing, with these addresses and ports in place of its own
abbrev pub record_crossing : Edge → ℕ → Taken → List ℕ → Packet4 → Crossing
record_crossing e number t octets replaced = record {
  taken = read_packet t octets;
  payload = payload_of4 t.head octets;
  replaced = replaced;
  mtus = e.mtus;
  number = number;
}

-- between both ends of the way nothing differs but the named header changes
pub record IsNamed (e : Edge) (number : ℕ) (t : Taken) (octets core : List ℕ) : Type 0 where
  pub replaced : Packet4
  pub by_answer : nat44 (read_packet t octets) (answer_of e t) ≡ Some replaced
  pub whole : List ℕ
  pub sent : Sent
  pub named : Named (record_crossing e number t octets replaced) uncut whole sent
  pub arrives : core ≡ sent.octets

-- The record of this number, as it is on the access network and in the core. On the access network it goes from the
-- edge's address to the embedded destination. What stands there is translated back, with its own ports.
pub record IsCrossed (e : Edge) (number : ℕ) (octets access core : List ℕ) : Type 0 where
  pub taken : Taken
  pub served : IsServed e taken octets
  pub out : access ≡ packet46 (parts_of taken octets) (own6 e) (far6 e taken.head.dst) (Some (ports_outside e taken.ports))
  pub carried : Parts6
  pub read : Is6 carried.head carried.payload access
  pub sound : IsCarried6 carried
  pub back : core ≡ packet64 carried (own4 e) taken.head.dst (Some (l4_of carried.proto carried.payload).ports) (number % 2 ^ 16)
  pub between : IsNamed e number taken octets core

-- the records from this number on, each with its time
abbrev pub AreCrossed : Edge → ℕ → List Record → List Record → List Record → Type 0
AreCrossed e number [] [] [] = Unit {0}
AreCrossed e number (r ∷ rs) (a ∷ accesses) (c ∷ cores) =
    (a.time ≡ r.time) × (c.time ≡ r.time) × IsCrossed e number r.bytes a.bytes c.bytes × AreCrossed e (number + 1) rs accesses cores
AreCrossed e number _ _ _ = ⊥

-- the captures of these records
pub record AreCaptured (e : Edge) (records : List Record) (made : Captures) : Type 0 where
  pub accesses : List Record
  pub cores : List Record
  pub crossed : AreCrossed e 0 records accesses cores
  pub access : made.access ≡ written accesses
  pub core : made.core ≡ written cores
