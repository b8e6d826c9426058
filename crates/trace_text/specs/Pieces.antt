-- A packet that the first node cuts, of which the second node drops and holds no piece: from an edge to the relay, from the relay to
-- an edge, and from an edge to an edge. Each piece finds the second node by itself: under rules of its own generation, in the hop of
-- a record of its own, and at an edge with an answer of its own.
use Rattle.std.specs.Prelude.{◌≡◌, ℕ, false, true, List, [], ◌∷◌, Some}
use Rattle.octets.specs.declared.parcel.Parcel.{Parcel}
use Rattle.ip4_packet.specs.Grammar.{payload_of4}
use Rattle.packets.specs.declared.packet4.Packet4.{Packet4}
use Rattle.packets.specs.declared.packet6.Packet6.{Packet6}
use Rattle.packets.specs.Packet6.{IsPacket6}
use Rattle.transit.specs.declared.passage.Passage.TheVariants.{Sent, Cut}
use Rattle.edge_node.specs.Asked.{near_addr6}
use Rattle.relay_node.specs.Relay.{Relay}
use Rattle.crossing.specs.Named.{Crossing}
use Rattle.crossing.specs.Nat44.{nat44}
use Rattle.crossing.specs.Pieces.{Arrived, ComeTogether}
use Rattle.trace_text.specs.Answered.{AreRulesOf, AnsweredOut, AnsweredIn, rules_of_step}
use Rattle.rule_book.specs.Valid.{FitBook}
use Rattle.trace_text.specs.Numbers.{FitsAnswer}
use Rattle.trace_text.specs.Hops.{IsTaken4, EdgeSends, EdgeReceives, RelaySends, RelayReceives}
use Rattle.trace_text.specs.Crossings.{Setting, EdgeAnswer, IsRelayOf}

-- the packet as it was taken, its pieces over the access network, and what was sent of each at the end
pub record PassedInPieces : Type 0 where
  pub taken : Packet4
  pub octets : List ℕ
  pub pieces : List Parcel
  pub arrived : List Arrived

-- the second node takes each piece and sends this of it
abbrev pub AreReceived : (List ℕ → Arrived → Type 0) → List Parcel → List Arrived → Type 0
AreReceived Receives [] [] = Unit {0}
AreReceived Receives (piece ∷ pieces) (a ∷ arrived) = Receives piece.bytes a × AreReceived Receives pieces arrived
AreReceived Receives _ _ = ⊥

-- the relay takes a piece, and replaces nothing: its packet is the one that the edge sent
pub record RelayTakes (setting : Setting) (sent : Packet4) (six : List ℕ) (a : Arrived) : Type 0 where
  pub relay : Relay
  pub relay_is : IsRelayOf setting relay
  pub read : Packet6
  pub arrives : IsPacket6 true read six
  pub received : RelayReceives relay read six (Sent a.octets)
  pub replaced : a.replaced ≡ sent

-- an edge takes one, with this answer of its machine
pub record EdgeTakes (setting : Setting) (sent : Packet4) (six : List ℕ) (a : Arrived) : Type 0 where
  pub edge : EdgeAnswer
  pub rules : AreRulesOf setting.dmr (rules_of_step edge.step)
  pub fits : FitsAnswer edge.answer
  pub read : Packet6
  pub arrives : IsPacket6 false read six
  pub answered : AnsweredIn edge.step read.head.src (near_addr6 read read.content) edge.answer
  pub id : ℕ
  pub received : EdgeReceives (record { mtus = setting.mtus; id = id }) edge.answer read six (Sent a.octets)
  pub replaced : nat44 sent edge.answer ≡ Some a.replaced

-- from an edge, which sent it as this packet, to the relay
pub record PiecesToRelay (setting : Setting) (edge : EdgeAnswer) (sent_as : Packet4) (c : PassedInPieces) : Type 0 where
  pub taken : IsTaken4 c.taken c.octets
  pub answered : AnsweredOut edge.step c.taken.head.dst edge.answer
  pub rules : AreRulesOf setting.dmr (rules_of_step edge.step)
  pub fits : FitsAnswer edge.answer
  pub replaced : nat44 c.taken edge.answer ≡ Some sent_as
  pub sent : EdgeSends setting.mtus edge.answer c.taken c.octets (Cut c.pieces)
  pub received : AreReceived (RelayTakes setting sent_as) c.pieces c.arrived

-- from the relay to an edge
pub record PiecesFromRelay (setting : Setting) (relay : Relay) (c : PassedInPieces) : Type 0 where
  pub taken : IsTaken4 c.taken c.octets
  pub relay_is : IsRelayOf setting relay
  pub relay_fits : FitBook relay.rules relay.dmr
  pub sent : RelaySends relay c.taken c.octets (Cut c.pieces)
  pub received : AreReceived (EdgeTakes setting c.taken) c.pieces c.arrived

-- from an edge, which sent it as this packet, to an edge
pub record PiecesBetweenEdges (setting : Setting) (edge : EdgeAnswer) (sent_as : Packet4) (c : PassedInPieces) : Type 0 where
  pub taken : IsTaken4 c.taken c.octets
  pub answered : AnsweredOut edge.step c.taken.head.dst edge.answer
  pub rules : AreRulesOf setting.dmr (rules_of_step edge.step)
  pub fits : FitsAnswer edge.answer
  pub replaced : nat44 c.taken edge.answer ≡ Some sent_as
  pub sent : EdgeSends setting.mtus edge.answer c.taken c.octets (Cut c.pieces)
  pub received : AreReceived (EdgeTakes setting sent_as) c.pieces c.arrived

-- the crossing of a packet in pieces, with this packet in place of the one that was taken
abbrev pub crossing_in_pieces : Setting → PassedInPieces → Packet4 → Crossing
crossing_in_pieces setting c replaced = record {
  taken = c.taken;
  payload = payload_of4 c.taken.head c.octets;
  replaced = replaced;
  mtus = setting.mtus;
  number = setting.number;
}

-- together they are the whole payload, each piece by what was replaced for it
abbrev pub ArriveWhole : Setting → PassedInPieces → Type 0
ArriveWhole setting c = ComeTogether (crossing_in_pieces setting c) c.arrived
