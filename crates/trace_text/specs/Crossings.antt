-- A packet that crosses, by the hops of both nodes, in each direction: from an edge to the relay, from the relay to an edge, and
-- by a forwarding rule from an edge to an edge. The second node neither drops nor holds it. The nodes may go by the rules of two
-- generations. A later fragment may have waited at either node for the first one.
use Rattle.std.specs.Prelude.{◌≡◌, ℕ, ◌%◌, ◌^◌, false, true, List, Some, None}
use Rattle.octets.specs.declared.mtus.Mtus.{Mtus}
use Rattle.ip4_packet.specs.Grammar.{payload_of4}
use Rattle.map_rules.specs.declared.dmr.Dmr.{Dmr}
use Rattle.nat_model.specs.declared.answer.Answer.{Answer}
use Rattle.packets.specs.declared.packet4.Packet4.{Packet4}
use Rattle.packets.specs.declared.packet6.Packet6.{Packet6}
use Rattle.packets.specs.Packet4.{IsPacket4}
use Rattle.packets.specs.Packet6.{IsPacket6}
use Rattle.transit.specs.declared.passage.Passage.{Passage}
use Rattle.transit.specs.declared.passage.Passage.TheVariants.{Sent}
use Rattle.edge_node.specs.Asked.{near_addr6}
use Rattle.relay_node.specs.Relay.{Relay}
use Rattle.crossing.specs.Nat44.{nat44_by}
use Rattle.crossing.specs.Named.{Crossing, Portion}
use Rattle.crossing.specs.Transfer.{ComesOf}
use Rattle.trace_text.specs.Answered.{Step, AreRulesOf, AnsweredOut, AnsweredIn, rules_of_step}
use Rattle.rule_book.specs.Valid.{FitBook}
use Rattle.trace_text.specs.Numbers.{FitsAnswer}
use Rattle.trace_text.specs.Hops.{IsTaken4, EdgeSends, EdgeReceives, IsEmitted, RelaySends, RelayReceives}

-- the packet as it was taken, how it passed the first node, what went over the access network and was read there, and what was
-- sent at the end
pub record Passed : Type 0 where
  pub taken : Packet4
  pub octets : List ℕ
  pub passage : Passage
  pub portion : Portion
  pub six : List ℕ
  pub read : Packet6
  pub four : List ℕ

-- what the nodes of the domain have in common, and the number of the record that the packet belongs to
pub record Setting : Type 0 where
  pub dmr : Dmr
  pub mtus : Mtus
  pub number : ℕ

-- The identification that the second node gives packets that have none is the number of the record. Only a packet without a
-- Fragment Header has none: it is whole and came uncut, so it waits nowhere, and both nodes' hops are of one record. A fragment
-- and a piece keep theirs; they may have waited, at either node, and been sent on in the hop of another record.
abbrev pub IsNumbered : Setting → Packet6 → ℕ → Type 0
IsNumbered setting read id = read.head.frag ≡ None → id ≡ setting.number % 2 ^ 16

-- the relay is that of the domain
pub record IsRelayOf (setting : Setting) (relay : Relay) : Type 0 where
  pub dmr : relay.dmr ≡ setting.dmr
  pub mtus : relay.params.mtus ≡ setting.mtus

-- from an edge, which answered so, to the relay
pub record ToRelay (setting : Setting) (step : Step) (answer : Answer) (relay : Relay) (c : Passed) : Type 0 where
  pub taken : IsTaken4 c.taken c.octets
  pub answered : AnsweredOut step c.taken.head.dst answer
  pub rules : AreRulesOf setting.dmr (rules_of_step step)
  pub fits : FitsAnswer answer
  pub sent : EdgeSends setting.mtus answer c.taken c.octets c.passage
  pub emitted : IsEmitted setting.mtus c.passage c.portion c.six
  pub arrives : IsPacket6 true c.read c.six
  pub relay_is : IsRelayOf setting relay
  pub numbered : IsNumbered setting c.read relay.id
  pub received : RelayReceives relay c.read c.six (Sent c.four)

-- from the relay to an edge, which answered so
pub record FromRelay (setting : Setting) (relay : Relay) (step : Step) (answer : Answer) (c : Passed) : Type 0 where
  pub taken : IsTaken4 c.taken c.octets
  pub relay_is : IsRelayOf setting relay
  pub relay_fits : FitBook relay.rules relay.dmr
  pub sent : RelaySends relay c.taken c.octets c.passage
  pub emitted : IsEmitted setting.mtus c.passage c.portion c.six
  pub arrives : IsPacket6 false c.read c.six
  pub answered : AnsweredIn step c.read.head.src (near_addr6 c.read c.read.content) answer
  pub rules : AreRulesOf setting.dmr (rules_of_step step)
  pub fits : FitsAnswer answer
  pub id : ℕ
  pub numbered : IsNumbered setting c.read id
  pub received : EdgeReceives (record { mtus = setting.mtus; id = id }) answer c.read c.six (Sent c.four)

-- one edge of two, by its machine's answer
pub record EdgeAnswer : Type 0 where
  pub step : Step
  pub answer : Answer

-- from an edge to an edge
pub record EdgeToEdge (setting : Setting) (one other : EdgeAnswer) (c : Passed) : Type 0 where
  pub taken : IsTaken4 c.taken c.octets
  pub out : AnsweredOut one.step c.taken.head.dst one.answer
  pub rules_out : AreRulesOf setting.dmr (rules_of_step one.step)
  pub fits_out : FitsAnswer one.answer
  pub sent : EdgeSends setting.mtus one.answer c.taken c.octets c.passage
  pub emitted : IsEmitted setting.mtus c.passage c.portion c.six
  pub arrives : IsPacket6 false c.read c.six
  pub inward : AnsweredIn other.step c.read.head.src (near_addr6 c.read c.read.content) other.answer
  pub rules_in : AreRulesOf setting.dmr (rules_of_step other.step)
  pub fits_in : FitsAnswer other.answer
  pub id : ℕ
  pub numbered : IsNumbered setting c.read id
  pub received : EdgeReceives (record { mtus = setting.mtus; id = id }) other.answer c.read c.six (Sent c.four)

-- the crossing, with this packet in place of the one that was taken
abbrev pub crossing_with : Setting → Passed → Packet4 → Crossing
crossing_with setting c replaced = record {
  taken = c.taken;
  payload = payload_of4 c.taken.head c.octets;
  replaced = replaced;
  mtus = setting.mtus;
  number = setting.number;
}

-- what was sent is the packet with what these answers replace in it, but for the named header changes
pub record IsOneStep (setting : Setting) (answers : List Answer) (c : Passed) : Type 0 where
  pub replaced : Packet4
  pub by_answers : nat44_by c.taken answers ≡ Some replaced
  pub comes : ComesOf (crossing_with setting c replaced) c.portion c.four

-- a packet in these octets crossed, by these answers, and those octets were sent of it at the end
pub record HasCrossed (setting : Setting) (answers : List Answer) (octets four : List ℕ) : Type 0 where
  pub passed : Passed
  pub taken : passed.octets ≡ octets
  pub sent : passed.four ≡ four
  pub is_step : IsOneStep setting answers passed

-- an edge answered so to the packet in these octets of its LAN, by rules of the domain
pub record EdgeLetsOut (setting : Setting) (edge : EdgeAnswer) (octets : List ℕ) : Type 0 where
  pub answered : (p : Packet4) → IsPacket4 p octets → AnsweredOut edge.step p.head.dst edge.answer
  pub rules : AreRulesOf setting.dmr (rules_of_step edge.step)
  pub fits : FitsAnswer edge.answer

-- and so to the one in these octets from the access network, with this identification for a packet that has none
pub record EdgeLetsIn (setting : Setting) (edge : EdgeAnswer) (id : ℕ) (six : List ℕ) : Type 0 where
  pub answered : (q : Packet6) → IsPacket6 false q six → AnsweredIn edge.step q.head.src (near_addr6 q q.content) edge.answer
  pub rules : AreRulesOf setting.dmr (rules_of_step edge.step)
  pub fits : FitsAnswer edge.answer
  pub numbered : (q : Packet6) → IsPacket6 false q six → IsNumbered setting q id
