-- The packets of a trace: which packet each hop took. They are derived one by one from the answers in the trace, the packets of
-- a record first in first out. A freed parcel has the octets of the hop whose entry stands at the parcel's place, which may be
-- one of another record, and freed itself; so a derivation is a list of packets of any records, each of which follows from those
-- before it.
use Rattle.std.specs.Prelude.{◌≡◌, ◌⊎◌, ℕ, suc, ◌%◌, ◌^◌, ◌==◌, Bool, true, false, List, [], ◌∷◌, ◌++◌, map, length, slice_get, Option, Some, None}
use Rattle.std.specs.Option.{option_map}
use Rattle.std.specs.List.{filter, filter_map, flat_map}
use Rattle.octets.specs.declared.cause.Cause.{Cause}
use Rattle.octets.specs.declared.parcel.Parcel.{Parcel}
use Rattle.rule_book.specs.Book.{dmr_of}
use Rattle.l4_headers.specs.declared.ports.Ports.{Ports}
use Rattle.frag_table.specs.declared.ask.FragAsk.{FragAsk}
use Rattle.frag_table.specs.declared.answer.FragAnswer.{FragAnswer}
use Rattle.frag_table.specs.declared.answer.FragAnswer.TheVariants.{Noted, Known, Held, Released, Full}
use Rattle.frag_table.specs.Frag.{freed_by}
use Rattle.nat_model.specs.declared.answer.Answer.{Answer}
use Rattle.nat_model.specs.declared.answer.Answer.TheVariants.{Refused}
use Rattle.nat_model.specs.declared.entry.Who.{Who}
use Rattle.nat_model.specs.Waiting.{freed_of}
use Rattle.packets.specs.declared.packet4.Packet4.{Packet4}
use Rattle.packets.specs.declared.packet6.Packet6.{Packet6}
use Rattle.packets.specs.Asked.{flow_of4, flow_of6}
use Rattle.packets.specs.Packet4.{IsPacket4}
use Rattle.packets.specs.Packet6.{IsPacket6}
use Rattle.hops.specs.declared.hop.Out.{Out}
use Rattle.hops.specs.declared.hop.Hop.{Hop}
use Rattle.hops.specs.Hop.{nothing, AreFreed}
use Rattle.edge_node.specs.declared.way.Way.{Way}
use Rattle.edge_node.specs.declared.way.Node.{Node}
use Rattle.edge_node.specs.Asked.{IsDroppedAt}
use Rattle.edge_node.specs.Hop.{Own, Becomes, IsLaterAt, IsAnswerAt, IsTaken}
use Rattle.relay_node.specs.Relay.{Relay, relay_at}
use Rattle.relay_node.specs.Asked.{AsksFrom, MayBeTold, IsDroppedFrom}
use Rattle.relay_node.specs.FromAccess.{AreFreed6}
use Rattle.relay_node.specs.FromIpv4.{AreFreed4}
use Rattle.relay_node.specs.Hop.{IsRelayHop}
use Rattle.setup_tables.specs.declared.edge.EdgeLine.{EdgeLine}
use Rattle.mapt_setup.specs.declared.setup.Setup.{Setup}
use Rattle.mapt_setup.specs.declared.script.ScriptItem.{ScriptItem}
use Rattle.mapt_setup.specs.declared.script.ScriptItem.TheVariants.{Rec, Move}
use Rattle.mapt_setup.specs.Generation.{rules_in}
use Rattle.mapt_setup.specs.Script.{is_record}
use Rattle.domain_core.specs.declared.journey.HopNote.{HopNote}
use Rattle.domain_core.specs.declared.history.EdgeNote.{EdgeNote}
use Rattle.domain_core.specs.declared.history.StripeNote.{StripeNote}
use Rattle.domain_core.specs.declared.trace.Trace.{Trace}
use Rattle.journeys.specs.declared.stand.Stand.{Stand}
use Rattle.journeys.specs.declared.stand.Stand.TheVariants.{Edge, Relay as AtRelay}
use Rattle.journeys.specs.Waiting.{Waiting, onward, start_of}
use Rattle.journeys.specs.Answers.{and_then, note_of, edge_entry, named_at_edge, named_at_relay}

-- what packets are derived from: a trace, with the setup and the script that it is of
pub record Told : Type 0 where
  pub setup : Setup
  pub script : List ScriptItem
  pub trace : Trace

-- a packet that a hop of this record took
pub record Packet : Type 0 where
  pub rec : ℕ
  pub taken : Waiting

-- the packets of a record among some, each that of the hop of its number
abbrev pub packets_of : ℕ → List Packet → List Waiting
packets_of rec known = map (λ (p : Packet). p.taken) (filter (λ (p : Packet). p.rec == rec) known)

-- the record of a number, and where it starts
abbrev pub record_in : List ScriptItem → ℕ → Option ScriptItem
record_in script rec = slice_get (filter is_record script) rec

abbrev pub start_in : Setup → ScriptItem → Option Waiting
start_in setup (Rec side time bytes) = start_of setup side bytes
start_in setup (Move number live) = None

abbrev pub first_of : Told → ℕ → Option Waiting
first_of told rec = and_then (record_in told.script rec) (start_in told.setup)

-- the identification of packets of this record that have none of their own
abbrev pub id_of : ℕ → ℕ
id_of rec = rec % 2 ^ 16

-- an edge, and the relay under the rules of a generation. Above the number of changes these are the rules after all of them.
abbrev pub edge_node : Setup → ℕ → EdgeLine → Node
edge_node setup rec line = record { params = record { lan = line.lan; mtus = setup.mtus }; id = id_of rec }

abbrev pub relay_node : Setup → ℕ → ℕ → Relay
relay_node setup rec seen =
    relay_at (rules_in setup seen) (dmr_of setup.book) (record { relay4 = setup.relay; mtus = setup.mtus }) (id_of rec)

-- ---- what one hop makes, by parts: of the packet itself, and of each parcel that it frees. A part is untold as long as the
-- parcel's packet isn't derived.
pub data Part : Type 0 where
  made : Hop → Part
  untold : Part

-- how a node frees what waited: whether a hop's packet waited at the same table, and what becomes of its octets
pub record Freeing : Type 1 where
  pub Waited : Who → Waiting → Type 0
  pub Becomes : List ℕ → Hop → Type 0

-- a hop that is in the trace, by its record and its number there
abbrev pub IsThere : Trace → Who → Type 0
IsThere trace who = (note : HopNote) × (note_of trace who.rec who.hop ≡ Some note)

-- the packet of a hop that waited elsewhere is passed over
abbrev pub IsPartOf : Freeing → Who → Option Waiting → Part → Type 0
IsPartOf freeing who None part = part ≡ untold
IsPartOf freeing who (Some w) part =
    ((freeing.Waited who w → ⊥) × (part ≡ made nothing))
    ⊎ (freeing.Waited who w × ((hop : Hop) × freeing.Becomes w.octets hop × (part ≡ made hop)))

-- what a freed parcel comes to whose place names this hop, by the packets that are known; it comes to nothing where its place
-- names no entry, or an entry of a hop that isn't in the trace
abbrev pub IsFreedPart : Told → List Packet → Freeing → Option Who → Part → Type 0
IsFreedPart told known freeing None part = part ≡ made nothing
IsFreedPart told known freeing (Some who) part =
    ((IsThere told.trace who → ⊥) × (part ≡ made nothing))
    ⊎ (IsThere told.trace who × IsPartOf freeing who (slice_get (packets_of who.rec known) who.hop) part)

-- the parts of a list of parcels, one each, where this says what becomes of one at its place
abbrev pub AreFreedParts : (ℕ → Part → Type 0) → List Parcel → List Part → Type 0
AreFreedParts IsOne [] parts = parts ≡ []
AreFreedParts IsOne (parcel ∷ parcels) parts =
    (one : Part) × (others : List Part) × IsOne parcel.place one × AreFreedParts IsOne parcels others × (parts ≡ one ∷ others)

-- the packet itself, and then what it frees
abbrev pub AreParts : (Hop → Type 0) → (List Part → Type 0) → List Part → Type 0
AreParts Own Freed parts =
    (own : Hop) × (freed : List Part) × Own own × Freed freed × (parts ≡ made own ∷ freed)

-- one parcel with these octets
abbrev pub alone : List ℕ → List Parcel
alone octets = record { place = 0; bytes = octets } ∷ []

-- ---- at an edge: its number, the way, and the node with the record's identification
pub record EdgeAt : Type 0 where
  pub number : ℕ
  pub way : Way
  pub node : Node

-- what waited there came the same way; octets that are no later fragment are passed over
abbrev pub freeing_edge : EdgeAt → Answer → Freeing
freeing_edge at answer = record {
  Waited = λ who w. w.stand ≡ Edge at.number at.way;
  Becomes = λ octets hop. AreFreed (IsLaterAt at.way) (Becomes at.node at.way answer) (alone octets) hop;
}

abbrev pub who_at_edge : Trace → ℕ → ℕ → Option Who
who_at_edge trace number place = option_map (λ (e : EdgeNote). e.mark.who) (edge_entry trace number place)

-- the parts by an answer of the machine
abbrev pub AreEdgeParts : Told → List Packet → EdgeAt → List ℕ → Answer → List Part → Type 0
AreEdgeParts told known at octets answer parts =
    AreParts (Own at.node at.way answer octets)
    (AreFreedParts (λ place part. IsFreedPart told known (freeing_edge at answer) (who_at_edge told.trace at.number place) part)
    (freed_of answer))
    parts

-- The parts by the entry that the hop's note names: none where it names no entry, or one whose answer is of a kind that the
-- packet doesn't have.
abbrev pub AreEntryParts : Told → List Packet → EdgeAt → List ℕ → Option EdgeNote → List Part → Type 0
AreEntryParts told known at octets None parts = parts ≡ []
AreEntryParts told known at octets (Some entry) parts =
    ((IsAnswerAt at.way entry.answer → ⊥) × (parts ≡ []))
    ⊎ (IsAnswerAt at.way entry.answer × AreEdgeParts told known at octets entry.answer parts)

-- a packet that is dropped before anything is asked counts as refused
abbrev pub AreAtEdge : Told → List Packet → EdgeAt → List ℕ → HopNote → List Part → Type 0
AreAtEdge told known at octets note parts =
    ((cause : Cause) × IsDroppedAt at.way cause octets × AreEdgeParts told known at octets (Refused cause []) parts)
    ⊎ (IsTaken at.way octets
    × AreEntryParts told known at octets (named_at_edge told.trace at.number note.stripe note.place) parts)

-- ---- at the relay: under the rules of a generation, by the version of the packet, at the stripe of the hop's note
pub record RelayAt : Type 0 where
  pub relay : Relay
  pub six : Bool
  pub stripe : Option ℕ

-- the ports of a packet that the relay took
abbrev pub HasPorts : Bool → List ℕ → Ports → Type 0
HasPorts true octets ports = (p : Packet6) × IsPacket6 true p octets × (ports ≡ (flow_of6 p.content).ports)
HasPorts false octets ports = (p : Packet4) × IsPacket4 p octets × (ports ≡ (flow_of4 p.content).ports)

abbrev pub FreesFrom : Relay → Bool → Ports → List Parcel → Hop → Type 0
FreesFrom relay true ports parcels hop = AreFreed6 relay ports parcels hop
FreesFrom relay false ports parcels hop = AreFreed4 relay ports parcels hop

-- what waited there was of the same version, and its hop's line names the same stripe
abbrev pub freeing_relay : Trace → RelayAt → Ports → Freeing
freeing_relay trace at ports = record {
  Waited = λ who w. (w.stand ≡ AtRelay at.six)
      × ((note : HopNote) × (note_of trace who.rec who.hop ≡ Some note) × (note.stripe ≡ at.stripe));
  Becomes = λ octets hop. FreesFrom at.relay at.six ports (alone octets) hop;
}

abbrev pub who_at_relay : Trace → Option ℕ → ℕ → Option Who
who_at_relay trace stripe place = option_map (λ (e : StripeNote). e.who) (named_at_relay trace stripe (Some place))

-- the packet's own part is that of a fragment that frees none
abbrev pub own_answer : FragAnswer → FragAnswer
own_answer Noted = Noted
own_answer (Known ports) = Known ports
own_answer Held = Held
own_answer (Released parcels) = Noted
own_answer Full = Full

-- the parts by an answer of the notes, and without one
abbrev pub AreStripeParts : Told → List Packet → RelayAt → List ℕ → FragAnswer → List Part → Type 0
AreStripeParts told known at octets answer parts =
    (ports : Ports) × HasPorts at.six octets ports
    × AreParts (IsRelayHop at.relay at.six octets (Some (own_answer answer)))
    (AreFreedParts (λ place part. IsFreedPart told known (freeing_relay told.trace at ports) (who_at_relay told.trace at.stripe place) part)
    (freed_by answer))
    parts

abbrev pub AreUnasked : RelayAt → List ℕ → List Part → Type 0
AreUnasked at octets parts = (hop : Hop) × IsRelayHop at.relay at.six octets None hop × (parts ≡ made hop ∷ [])

-- the parts by the entry that the hop's note names, as at an edge
abbrev pub AreToldParts : Told → List Packet → RelayAt → List ℕ → FragAsk → Option StripeNote → List Part → Type 0
AreToldParts told known at octets ask None parts = parts ≡ []
AreToldParts told known at octets ask (Some entry) parts =
    ((MayBeTold (Some ask) (Some entry.answer) → ⊥) × (parts ≡ []))
    ⊎ (MayBeTold (Some ask) (Some entry.answer) × AreStripeParts told known at octets entry.answer parts)

-- a packet that is dropped before any note is asked, one that is no fragment, and a fragment
abbrev pub AreAtRelay : Told → List Packet → RelayAt → List ℕ → HopNote → List Part → Type 0
AreAtRelay told known at octets note parts =
    ((cause : Cause) × IsDroppedFrom at.six cause octets × AreUnasked at octets parts)
    ⊎ ((AsksFrom at.six octets None × AreUnasked at octets parts)
    ⊎ ((ask : FragAsk) × AsksFrom at.six octets (Some ask)
    × AreToldParts told known at octets ask (named_at_relay told.trace note.stripe note.place) parts))

-- ---- what a hop makes of a packet where it stands. One that stands at no edge of the setup comes to nothing.
abbrev pub AreAtLine : Told → List Packet → ℕ → (ℕ × Way) → Option EdgeLine → List ℕ → HopNote → List Part → Type 0
AreAtLine told known rec at None octets note parts = parts ≡ []
AreAtLine told known rec at (Some line) octets note parts =
    AreAtEdge told known (record { number = at.0; way = at.1; node = edge_node told.setup rec line }) octets note parts

abbrev pub AreAtStand : Told → List Packet → ℕ → Waiting → HopNote → List Part → Type 0
AreAtStand told known rec w note parts = by w.stand
  where
    by : Stand → Type 0
    by (Edge number way) = AreAtLine told known rec (number, way) (slice_get told.setup.edges number) w.octets note parts
    by (AtRelay six) =
        AreAtRelay told known (record { relay = relay_node told.setup rec note.seen; six = six; stripe = note.stripe }) w.octets note parts

-- a hop that its record lacks in the trace gives nothing
abbrev pub AreOfHop : Told → List Packet → ℕ → Waiting → Option HopNote → List Part → Type 0
AreOfHop told known rec w None parts = parts ≡ []
AreOfHop told known rec w (Some note) parts = AreAtStand told known rec w note parts

-- ---- the packets of a record: its own, and then what its hops send on, first in first out

-- what a part sends on from where its packet stood; nothing is known of what an untold one sends
abbrev pub sent_on : Setup → Stand → List Out → List (Option Waiting)
sent_on setup here outs = map Some (filter_map (onward setup here) outs)

abbrev pub sent_by : Setup → Stand → Part → List (Option Waiting)
sent_by setup here (made hop) = sent_on setup here hop.outs
sent_by setup here untold = None ∷ []

abbrev pub sent_by_all : Setup → Stand → List Part → List (Option Waiting)
sent_by_all setup here parts = flat_map (sent_by setup here) parts

-- what these hops of a record send on, where the first of them has this number
abbrev pub AreSentFrom : Told → List Packet → ℕ → ℕ → List Waiting → List (Option Waiting) → Type 0
AreSentFrom told known rec hop [] sent = sent ≡ []
AreSentFrom told known rec hop (w ∷ ws) sent =
    (parts : List Part) × (others : List (Option Waiting))
    × AreOfHop told known rec w (note_of told.trace rec hop) parts
    × AreSentFrom told known rec (suc hop) ws others
    × (sent ≡ sent_by_all told.setup w.stand parts ++ others)

-- as far as it is known
abbrev pub known_until : {A : Type 0} → List (Option A) → List A
known_until [] = []
known_until (None ∷ xs) = []
known_until (Some x ∷ xs) = x ∷ known_until xs

-- the packets that a record's hops are known to take, by those that are known of it so far
abbrev pub AreArrivals : Told → List Packet → ℕ → List Waiting → Type 0
AreArrivals told known rec arrivals =
    (sent : List (Option Waiting))
    × AreSentFrom told known rec 0 (packets_of rec known) sent
    × (arrivals ≡ known_until (first_of told rec ∷ sent))

-- A packet follows from those before it: it is the next of its record.
pub record IsNext (told : Told) (known : List Packet) (p : Packet) : Type 0 where
  pub arrivals : List Waiting
  pub are : AreArrivals told known p.rec arrivals
  pub next : slice_get arrivals (length (packets_of p.rec known)) ≡ Some p.taken

-- a derivation: each packet follows from those before it
abbrev pub FollowFrom : Told → List Packet → List Packet → Type 0
FollowFrom told known [] = Unit {0}
FollowFrom told known (p ∷ ps) = IsNext told known p × FollowFrom told (known ++ p ∷ []) ps

abbrev pub IsDerivation : Told → List Packet → Type 0
IsDerivation told packets = FollowFrom told [] packets

-- a hop, by its record and number, took this packet
pub record IsDerived (told : Told) (rec hop : ℕ) (w : Waiting) : Type 0 where
  pub packets : List Packet
  pub are : IsDerivation told packets
  pub there : slice_get (packets_of rec packets) hop ≡ Some w

-- a derivation has all packets of a record: its hops send on no more
abbrev pub HasAll : Told → List Packet → ℕ → Type 0
HasAll told packets rec = AreArrivals told packets rec (packets_of rec packets)
