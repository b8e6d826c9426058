-- The pieces of a packet that was cut on its way: each is named, and together they are the whole payload. Each piece comes to
-- the second node by itself, so that each may have ends of its own there.
use Rattle.std.specs.Prelude.{◌≡◌, ℕ, ◌+◌, Bool, false, List, [], ◌∷◌, ◌++◌, length, map}
use Rattle.octets.specs.declared.address.Addr4.{Addr4}
use Rattle.octets.specs.declared.parcel.Parcel.{Parcel}
use Rattle.l4_headers.specs.declared.ends.Ends.{Ends}
use Rattle.packets.specs.declared.packet4.Packet4.{Packet4}
use Rattle.packets.specs.declared.packet6.Packet6.{Packet6}
use Rattle.transit.specs.Passage46.{is_message4, AreCutOf}
use Rattle.crossing.specs.Named.{Crossing, Sent, Named, piece_at}
use Rattle.crossing.specs.Transfer.{Transfer, IsThere, IsBack, with_ends, packet_with, crossing_of}

-- a piece behind the second node: the packet with what this node replaced for the piece, and the octets that it sends of it
pub record Arrived : Type 0 where
  pub replaced : Packet4
  pub octets : List ℕ

-- the payloads of these packets, one after the other
abbrev pub payloads_of : List Sent → List ℕ
payloads_of [] = []
payloads_of (r ∷ rs) = r.payload ++ payloads_of rs

-- Each of them is the piece that begins where those before it end, named by what was replaced for this piece: that says which
-- crossing it is, and what all of the payload is.
abbrev pub AreNamedFrom : (Packet4 → Crossing) → (Packet4 → List ℕ) → ℕ → List Arrived → List Sent → Type 0
AreNamedFrom crossing whole at [] [] = Unit {0}
AreNamedFrom crossing whole at (a ∷ arrived) (r ∷ sent) =
    Named (crossing a.replaced) (piece_at at) (whole a.replaced) r
    × (a.octets ≡ r.octets)
    × AreNamedFrom crossing whole (at + length r.payload) arrived sent
AreNamedFrom crossing whole at _ _ = ⊥

-- all of the payload by what was replaced for the first piece, in which ports and sum stand
abbrev pub by_first : (Packet4 → List ℕ) → List Arrived → List ℕ
by_first whole [] = []
by_first whole (a ∷ arrived) = whole a.replaced

-- All pieces of a cut packet, in order, where none was dropped or held: together they are the whole payload, with no gap. It is
-- one and the same wherever the same is replaced.
pub record ComeTogether (crossing : Packet4 → Crossing) (arrived : List Arrived) : Type 0 where
  pub whole : Packet4 → List ℕ
  pub sent : List Sent
  pub named : AreNamedFrom crossing whole 0 arrived sent
  pub no_gap : payloads_of sent ≡ by_first whole arrived

-- the first node cuts the packet into these pieces
pub record IsCutInto (t : Transfer) (pieces : List Parcel) : Type 0 where
  pub six : List ℕ
  pub there : IsThere t six
  pub flows : is_message4 t.taken.content ≡ false
  pub cut : AreCutOf six t.mtus.mtu6 t.taken.head.id pieces

-- the ends that the second node gives a piece, and the octets that it sends of it
pub record PieceBack : Type 0 where
  pub ends : Ends Addr4
  pub octets : List ℕ

-- the second node takes each of them, between the ends of this piece, and translates it to these octets
abbrev pub AreBack : Transfer → Bool → List Parcel → List PieceBack → Type 0
AreBack t at_relay [] [] = Unit {0}
AreBack t at_relay (piece ∷ pieces) (one ∷ backs) =
    ((q : Packet6) × IsBack (with_ends t one.ends) at_relay q piece.bytes one.octets) × AreBack t at_relay pieces backs
AreBack t at_relay _ _ = ⊥

-- what was replaced for each piece, and the crossing with that
abbrev pub arrived_by : Packet4 → List PieceBack → List Arrived
arrived_by taken backs = map (λ one. record { replaced = packet_with one.ends taken; octets = one.octets }) backs

abbrev pub crossing_with : Transfer → Packet4 → Crossing
crossing_with t replaced = record (crossing_of t) { replaced = replaced }
