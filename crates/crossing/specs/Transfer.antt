-- A packet that one node translates to IPv6 and a second one translates back, between the ends that each of them gives it,
-- and in what it then may differ.
use Rattle.std.specs.Prelude.{◌≡◌, ℕ, ◌*◌, ◌%◌, ◌^◌, ◌<◌, Bool, false, List, slice_get, Some, None}
use Rattle.octets.specs.declared.address.Addr4.{Addr4}
use Rattle.octets.specs.declared.address.Addr6.{Addr6}
use Rattle.octets.specs.declared.mtus.Mtus.{Mtus}
use Rattle.octets.specs.declared.parcel.Parcel.{Parcel}
use Rattle.ip4_packet.specs.Grammar.{payload_of4}
use Rattle.ip6_packet.specs.Grammar.{payload_of6}
use Rattle.l4_headers.specs.declared.ports.Ports.{Ports}
use Rattle.icmp_messages.specs.declared.inner4.Inner4.{Inner4}
use Rattle.xlat46.specs.Fits.{FitsHead}
use Rattle.xlat46.specs.Whole.{ArePorts}
use Rattle.l4_headers.specs.declared.ends.Ends.{Ends}
use Rattle.packets.specs.declared.packet4.Content4.{Content4}
use Rattle.packets.specs.declared.packet4.Content4.TheVariants.{Segment, Later, Query, Error}
use Rattle.packets.specs.declared.packet4.Packet4.{Packet4}
use Rattle.packets.specs.declared.packet6.Packet6.{Packet6}
use Rattle.packets.specs.Packet4.{IsPacket4}
use Rattle.packets.specs.Packet6.{IsPacket6}
use Rattle.packet_faults.specs.Cut.{step_of}
use Rattle.transit.specs.Passage46.{translation46, is_message4, AreCutOf}
use Rattle.transit.specs.Passage64.{translation64}
use Rattle.crossing.specs.Nat44.{with_ports, with_identifier}
use Rattle.crossing.specs.Named.{Crossing, Sent, Named, Portion, uncut, piece_at}

-- the packet and its payload as they were taken, its ends over IPv6 and then over IPv4, the MTUs of the domain, and the
-- number of the record
pub record Transfer : Type 0 where
  pub taken : Packet4
  pub payload : List ℕ
  pub six : Ends Addr6
  pub four : Ends Addr4
  pub mtus : Mtus
  pub number : ℕ

-- a packet with other ends
abbrev pub inner_with : Ends Addr4 → Inner4 → Inner4
inner_with ends inner =
    record inner { head = record inner.head { src = ends.inner_src; dst = ends.inner_dst }; ports = ends.ports }

abbrev pub content_with : Ends Addr4 → Content4 → Content4
content_with ends (Segment proto l4) = Segment proto (with_ports ends.ports l4)
content_with ends (Later proto) = Later proto
content_with ends (Query m row) = Query (with_identifier ends.ports.src m) row
content_with ends (Error m row inner) = Error m row (inner_with ends inner)

abbrev pub packet_with : Ends Addr4 → Packet4 → Packet4
packet_with ends p = record { head = record p.head { src = ends.src; dst = ends.dst }; content = content_with ends p.content }

-- addresses and ports that fit their fields
pub record FitsEnds (ends : Ends Addr6) : Type 0 where
  pub src : ends.src.0 < 2 ^ 128
  pub dst : ends.dst.0 < 2 ^ 128
  pub inner_src : ends.inner_src.0 < 2 ^ 128
  pub inner_dst : ends.inner_dst.0 < 2 ^ 128
  pub ports : ArePorts ends.ports

-- a later fragment has no ports
abbrev pub FitsPorts : Content4 → Ports → Type 0
FitsPorts (Later proto) ports = Unit {0}
FitsPorts _ ports = ArePorts ports

-- and those of the header that an error embeds
abbrev pub FitsContent : Content4 → Type 0
FitsContent (Error m row inner) = FitsHead inner.head
FitsContent _ = Unit {0}

-- the octets are the packet that was taken, and numbers fit their fields
pub record IsTakenAs (t : Transfer) (octets : List ℕ) : Type 0 where
  pub is : IsPacket4 t.taken octets
  pub payload : t.payload ≡ payload_of4 t.taken.head octets
  pub fits : FitsHead t.taken.head
  pub inner : FitsContent t.taken.content
  pub six : FitsEnds t.six

-- the first node translates it to these octets
abbrev pub IsThere : Transfer → List ℕ → Type 0
IsThere t six = translation46 t.mtus t.taken.head t.payload t.six t.taken.content ≡ Some six

-- or cuts the translation, and this is one of the pieces, which begins so many octets behind the start of the payload
pub record IsPieceThere (t : Transfer) (at : ℕ) (six : List ℕ) : Type 0 where
  pub octets : List ℕ
  pub there : IsThere t octets
  pub flows : is_message4 t.taken.content ≡ false
  pub id : t.taken.head.id < 65536
  pub pieces : List Parcel
  pub cut : AreCutOf octets t.mtus.mtu6 t.taken.head.id pieces
  pub k : ℕ
  pub piece : Parcel
  pub found : slice_get pieces k ≡ Some piece
  pub bytes : piece.bytes ≡ six
  pub begins : at ≡ k * step_of t.mtus.mtu6

abbrev pub IsSentThere : Transfer → Portion → List ℕ → Type 0
IsSentThere t uncut six = IsThere t six
IsSentThere t (piece_at at) six = IsPieceThere t at six

-- The second node takes these octets as this packet, whose hop limit lasts, and translates it to those, with an identification
-- of its own for packets that have none. It is the number of the record where the packet has no Fragment Header. A fragment
-- and a piece keep theirs, and so may go on with another record.
pub record IsBack (t : Transfer) (at_relay : Bool) (q : Packet6) (six four : List ℕ) : Type 0 where
  pub is : IsPacket6 at_relay q six
  pub lasts : 1 < q.head.hop
  pub ports : FitsPorts t.taken.content t.four.ports
  pub id : ℕ
  pub numbered : q.head.frag ≡ None → id ≡ t.number % 2 ^ 16
  pub back : translation64 (record { mtus = t.mtus; ends = t.four; id = id }) q.head (payload_of6 q.head six) q.content ≡ Some four

-- the same packet between other ends over IPv4
abbrev pub with_ends : Transfer → Ends Addr4 → Transfer
with_ends t ends = record t { four = ends }

-- the crossing, and what comes of it where nothing but the named header changes differs
abbrev pub crossing_of : Transfer → Crossing
crossing_of t = record {
  taken = t.taken;
  payload = t.payload;
  replaced = packet_with t.four t.taken;
  mtus = t.mtus;
  number = t.number;
}

pub record ComesOf (x : Crossing) (portion : Portion) (four : List ℕ) : Type 0 where
  pub whole : List ℕ
  pub sent : Sent
  pub named : Named x portion whole sent
  pub octets_are : four ≡ sent.octets
