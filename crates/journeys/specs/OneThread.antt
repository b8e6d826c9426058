-- The trace of one worker: it takes the items of the script in their order and makes one hop after the other, each with the
-- number of changes before its record. So the entries of a history stand in the order of the hops that asked.
use Rattle.std.specs.Prelude.{◌≡◌, ◌≢◌, ◌⊎◌, ℕ, zero, suc, Bool, ◌==◌, true, false, List, [], ◌∷◌, ◌++◌, map, length, slice_get, Some, None}
use Rattle.std.specs.List.{filter}
use Rattle.octets.specs.declared.cause.Cause.{Cause}
use Rattle.octets.specs.declared.parcel.Parcel.{Parcel}
use Rattle.rule_book.specs.Book.{dmr_of}
use Rattle.frag_table.specs.declared.key.FragKey.{FragKey}
use Rattle.frag_table.specs.declared.ask.FragAsk.{FragAsk}
use Rattle.frag_table.specs.declared.ask.FragAsk.TheVariants.{First, Later}
use Rattle.frag_table.specs.declared.answer.FragAnswer.{FragAnswer}
use Rattle.frag_table.specs.declared.answer.FragAnswer.TheVariants.{Noted, Known, Held as Waits, Released, Full}
use Rattle.nat_model.specs.declared.answer.Answer.{Answer}
use Rattle.nat_model.specs.declared.answer.Answer.TheVariants.{Out, Turn, In, Kept, Held, Refused}
use Rattle.nat_model.specs.declared.ask.Ask.{Ask}
use Rattle.nat_model.specs.declared.entry.Entry.{Entry}
use Rattle.nat_model.specs.declared.stripe.StripeEntry.{StripeEntry}
use Rattle.nat_model.specs.State.{Generation}
use Rattle.nat_model.specs.History.{EdgeStart, IsGood}
use Rattle.nat_model.specs.Stripe.{IsGoodStripe}
use Rattle.nat_model.specs.Machine.{nat}
use Rattle.edge_node.specs.declared.way.Way.{Way}
use Rattle.edge_node.specs.Asked.{IsAsk, IsDroppedAt}
use Rattle.relay_node.specs.Asked.{AsksFrom, IsDroppedFrom, stripe, stripes}
use Rattle.setup_tables.specs.declared.edge.EdgeLine.{EdgeLine}
use Rattle.mapt_setup.specs.declared.forward.ForwardLine.{ForwardLine}
use Rattle.mapt_setup.specs.declared.setup.Setup.{Setup}
use Rattle.mapt_setup.specs.declared.script.ScriptItem.{ScriptItem}
use Rattle.mapt_setup.specs.declared.script.ScriptItem.TheVariants.{Rec, Move}
use Rattle.mapt_setup.specs.Generation.{rules_in}
use Rattle.domain_core.specs.declared.journey.HopNote.{HopNote}
use Rattle.domain_core.specs.declared.journey.Journey.{Journey}
use Rattle.domain_core.specs.declared.history.EdgeNote.{EdgeNote}
use Rattle.domain_core.specs.declared.history.StripeNote.{StripeNote}
use Rattle.domain_core.specs.declared.trace.TraceItem.{TraceItem}
use Rattle.domain_core.specs.declared.trace.TraceItem.TheVariants.{Record, Live, Still}
use Rattle.domain_core.specs.Form.{relay as relay_number}
use Rattle.journeys.specs.declared.stand.Stand.{Stand}
use Rattle.journeys.specs.declared.stand.Stand.TheVariants.{Edge, Relay}
use Rattle.journeys.specs.Waiting.{Waiting}
use Rattle.journeys.specs.Derived.{Told, Packet, packets_of, IsDerivation, HasAll}

-- the rules of a generation as the machine sees them, and those of all generations
abbrev pub generation : Setup → ℕ → Generation
generation setup number = record { rules = rules_in setup number; dmr = dmr_of setup.book; number = number }

abbrev pub generations_to : Setup → ℕ → List Generation
generations_to setup zero = generation setup 0 ∷ []
generations_to setup (suc number) = generations_to setup number ++ generation setup (suc number) ∷ []

abbrev pub generations : Setup → List Generation
generations setup = generations_to setup (length setup.changes)

-- an edge begins under the rules of generation 0, with the bindings of its forwards
abbrev pub edge_start : Setup → ℕ → EdgeLine → EdgeStart
edge_start setup number line = record {
  prefix = line.prefix;
  book = generation setup 0;
  kept = map (λ (f : ForwardLine). f.binding) (filter (λ (f : ForwardLine). f.edge == number) setup.forwards);
}

-- ---- items: worker 0 takes each, and each hop sees the changes before its record

abbrev pub node_number : Stand → ℕ
node_number (Edge number way) = number
node_number (Relay six) = relay_number

-- a record's hops take these packets, in this generation
abbrev pub AreNotes : ℕ → List Waiting → List HopNote → Type 0
AreNotes seen [] notes = notes ≡ []
AreNotes seen (w ∷ ws) notes =
    (note : HopNote) × (others : List HopNote)
    × (note.node ≡ node_number w.stand) × (note.seen ≡ seen) × AreNotes seen ws others × (notes ≡ note ∷ others)

-- the items of a trace, where so many records and changes stand before the first of them
abbrev pub AreItems : List Packet → ℕ → ℕ → List ScriptItem → List TraceItem → Type 0
AreItems packets rec changes [] items = items ≡ []
AreItems packets rec changes (Rec side time bytes ∷ script) items =
    (journey : Journey) × (others : List TraceItem)
    × (journey.rec ≡ rec) × (journey.worker ≡ 0) × AreNotes changes (packets_of rec packets) journey.hops
    × AreItems packets (suc rec) changes script others
    × (items ≡ Record journey ∷ others)
AreItems packets rec changes (Move number true ∷ script) items =
    (others : List TraceItem) × AreItems packets rec (suc changes) script others × (items ≡ Live number 0 ∷ others)
AreItems packets rec changes (Move number false ∷ script) items =
    (others : List TraceItem) × AreItems packets rec (suc changes) script others × (items ≡ Still number ∷ others)

-- ---- hops, in the order in which they are made

pub record HopMade : Type 0 where
  pub rec : ℕ
  pub hop : ℕ
  pub time : ℕ
  pub taken : Waiting
  pub note : HopNote

-- those of one record, from the hop of some number on
abbrev pub hops_from : ℕ → ℕ → ℕ → List Waiting → List HopNote → List HopMade
hops_from rec time hop (w ∷ ws) (note ∷ notes) =
    record { rec = rec; hop = hop; time = time; taken = w; note = note } ∷ hops_from rec time (suc hop) ws notes
hops_from rec time hop ws notes = []

-- and those of all, from the record of some number on
abbrev pub all_hops : List Packet → ℕ → List ScriptItem → List TraceItem → List HopMade
all_hops packets rec (Rec side time bytes ∷ script) (Record journey ∷ items) =
    hops_from rec time 0 (packets_of rec packets) journey.hops ++ all_hops packets (suc rec) script items
all_hops packets rec (Move number live ∷ script) (item ∷ items) = all_hops packets rec script items
all_hops packets rec script items = []

-- ---- the history of an edge

-- without the octets of what it frees, as a trace has an answer
abbrev pub place_alone : Parcel → Parcel
place_alone parcel = record { place = parcel.place; bytes = [] }

abbrev pub places_alone : Answer → Answer
places_alone (Out from port src6 dst6 freed) = Out from port src6 dst6 (map place_alone freed)
places_alone (Turn from port freed) = Turn from port (map place_alone freed)
places_alone (In to port from peer freed) = In to port from peer (map place_alone freed)
places_alone (Kept port until) = Kept port until
places_alone Held = Held
places_alone (Refused cause freed) = Refused cause (map place_alone freed)

abbrev pub edge_note : Entry → EdgeNote
edge_note e = record { mark = e.mark; answer = places_alone e.answer }

-- an entry is that of this hop's ask
pub record IsEntryOf (made : HopMade) (ask : Ask) (entry : Entry) : Type 0 where
  pub worker : entry.mark.who.worker ≡ 0
  pub rec : entry.mark.who.rec ≡ made.rec
  pub hop : entry.mark.who.hop ≡ made.hop
  pub seen : entry.mark.seen ≡ made.note.seen
  pub now : entry.now ≡ made.time
  pub asked : entry.ask ≡ ask

-- A hop at this edge names no place where its packet is dropped before anything is asked.
abbrev pub IsUnasked : HopMade → Way → Type 0
IsUnasked made way =
    (made.note.stripe ≡ None) × (made.note.place ≡ None) × ((cause : Cause) × IsDroppedAt way cause made.taken.octets)

-- and else the place of its entry, which comes before these others
abbrev pub IsAsked : HopMade → Way → ℕ → List Entry → List Entry → Type 0
IsAsked made way place others entries =
    (made.note.stripe ≡ None) × (made.note.place ≡ Some place)
    × ((ask : Ask) × (entry : Entry) × IsAsk way made.taken.octets ask × IsEntryOf made ask entry × (entries ≡ entry ∷ others))

-- What a hop adds to the entries of an edge, where the first says what stands from this place on without an entry of it, and the
-- second what stands behind one.
abbrev pub AddsAtEdge : ℕ → ℕ → HopMade → (List Entry → Type 0) → (List Entry → Type 0) → Stand → List Entry → Type 0
AddsAtEdge number place made From Behind (Relay six) entries = From entries
AddsAtEdge number place made From Behind (Edge other way) entries =
    ((other ≢ number) × From entries)
    ⊎ (((other ≡ number) × IsUnasked made way × From entries)
    ⊎ ((other ≡ number) × ((others : List Entry) × Behind others × IsAsked made way place others entries)))

-- the entries of the hops at an edge, one each that asks, from this place on
abbrev pub AreEdgeEntries : ℕ → ℕ → List HopMade → List Entry → Type 0
AreEdgeEntries number place [] entries = entries ≡ []
AreEdgeEntries number place (made ∷ hops) entries =
    AddsAtEdge number place made (AreEdgeEntries number place hops) (AreEdgeEntries number (suc place) hops) made.taken.stand entries

-- what the trace tells of an edge: a good history of the asks of its hops
pub record IsEdgeHistory (setup : Setup) (hops : List HopMade) (number : ℕ) (notes : List EdgeNote) : Type 0 where
  pub line : EdgeLine
  pub there : slice_get setup.edges number ≡ Some line
  pub entries : List Entry
  pub good : IsGood nat (edge_start setup number line) (generations setup) entries
  pub asked : AreEdgeEntries number 0 hops entries
  pub written : notes ≡ map edge_note entries

-- ---- the history of a stripe

abbrev pub told_alone : FragAnswer → FragAnswer
told_alone Noted = Noted
told_alone (Known ports) = Known ports
told_alone Waits = Waits
told_alone (Released parcels) = Released (map place_alone parcels)
told_alone Full = Full

abbrev pub stripe_note : StripeEntry → StripeNote
stripe_note e = record { who = e.who; answer = told_alone e.answer }

abbrev pub key_of : FragAsk → FragKey
key_of (First key ports) = key
key_of (Later key octets) = key

pub record IsStripeEntryOf (made : HopMade) (ask : FragAsk) (entry : StripeEntry) : Type 0 where
  pub worker : entry.who.worker ≡ 0
  pub rec : entry.who.rec ≡ made.rec
  pub hop : entry.who.hop ≡ made.hop
  pub now : entry.now ≡ made.time
  pub asked : entry.ask ≡ ask

-- A hop at the relay that asks nothing names no place: its packet is dropped before, or is no fragment.
abbrev pub AsksNothing : Bool → List ℕ → Type 0
AsksNothing six octets = ((cause : Cause) × IsDroppedFrom six cause octets) ⊎ AsksFrom six octets None

-- Another names its stripe, and there the place of its entry, which comes before these others.
abbrev pub IsAskedAt : HopMade → FragAsk → ℕ → List StripeEntry → List StripeEntry → Type 0
IsAskedAt made ask place others entries =
    (made.note.place ≡ Some place)
    × ((entry : StripeEntry) × IsStripeEntryOf made ask entry × (entries ≡ entry ∷ others))

-- what a hop adds to the entries of a stripe, as at an edge
abbrev pub AddsAtStripe : ℕ → ℕ → HopMade → (List StripeEntry → Type 0) → (List StripeEntry → Type 0) → Stand → List StripeEntry → Type 0
AddsAtStripe number place made From Behind (Edge other way) entries = From entries
AddsAtStripe number place made From Behind (Relay six) entries =
    (AsksNothing six made.taken.octets × (made.note.stripe ≡ None) × (made.note.place ≡ None) × From entries)
    ⊎ ((ask : FragAsk) × AsksFrom six made.taken.octets (Some ask) × (made.note.stripe ≡ Some (stripe (key_of ask)))
    × (((stripe (key_of ask) ≢ number) × From entries)
    ⊎ ((stripe (key_of ask) ≡ number)
    × ((others : List StripeEntry) × Behind others × IsAskedAt made ask place others entries))))

-- the entries of the hops at the relay that ask at this stripe, from this place on
abbrev pub AreStripeEntries : ℕ → ℕ → List HopMade → List StripeEntry → Type 0
AreStripeEntries number place [] entries = entries ≡ []
AreStripeEntries number place (made ∷ hops) entries =
    AddsAtStripe number place made (AreStripeEntries number place hops) (AreStripeEntries number (suc place) hops) made.taken.stand entries

pub record IsStripeHistory (hops : List HopMade) (number : ℕ) (notes : List StripeNote) : Type 0 where
  pub entries : List StripeEntry
  pub good : IsGoodStripe entries
  pub asked : AreStripeEntries number 0 hops entries
  pub written : notes ≡ map stripe_note entries

-- ---- the trace

pub record IsOneThread (told : Told) : Type 0 where
  pub workers : told.trace.workers ≡ 1
  pub packets : List Packet
  pub derived : IsDerivation told packets
  pub whole : (rec : ℕ) → HasAll told packets rec
  pub items : AreItems packets 0 0 told.script told.trace.items
  pub edge_count : length told.trace.edges ≡ length told.setup.edges
  pub edges : (number : ℕ) (notes : List EdgeNote) → slice_get (map (λ h. h.notes) told.trace.edges) number ≡ Some notes
      → IsEdgeHistory told.setup (all_hops packets 0 told.script told.trace.items) number notes
  pub stripe_count : length told.trace.stripes ≡ stripes
  pub stripes_are : (number : ℕ) (notes : List StripeNote) → slice_get (map (λ h. h.notes) told.trace.stripes) number ≡ Some notes
      → IsStripeHistory (all_hops packets 0 told.script told.trace.items) number notes
