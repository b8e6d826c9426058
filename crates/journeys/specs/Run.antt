-- What one worker does with a script: the hops of each record first in first out, each with what it asks, is answered and sends, and
-- what that leaves in the histories of edges and stripes.
use Rattle.std.specs.Prelude.{◌≡◌, ◌⊎◌, ℕ, suc, ◌≤◌, Bool, true, false, List, [], ◌∷◌, ◌++◌, map, length, replicate, slice_get, slice_set, Option, Some, None}
use Rattle.std.specs.List.{filter_map, All}
use Rattle.octets.specs.declared.cause.Cause.{Cause}
use Rattle.frag_table.specs.declared.ask.FragAsk.{FragAsk}
use Rattle.nat_model.specs.declared.answer.Answer.TheVariants.{Refused}
use Rattle.nat_model.specs.declared.ask.Ask.{Ask}
use Rattle.nat_model.specs.declared.entry.Entry.{Entry}
use Rattle.nat_model.specs.declared.stripe.StripeEntry.{StripeEntry}
use Rattle.nat_model.specs.State.{Generation}
use Rattle.nat_model.specs.History.{IsGood}
use Rattle.nat_model.specs.Stripe.{IsGoodStripe}
use Rattle.nat_model.specs.Machine.{nat}
use Rattle.hops.specs.declared.hop.Hop.{Hop}
use Rattle.edge_node.specs.declared.way.Way.{Way}
use Rattle.edge_node.specs.Asked.{IsAsk, IsDroppedAt}
use Rattle.edge_node.specs.Hop.{IsAnswerAt, IsEdgeHop}
use Rattle.relay_node.specs.Asked.{AsksFrom, MayBeTold, IsDroppedFrom, stripe, stripes}
use Rattle.relay_node.specs.Hop.{IsRelayHop}
use Rattle.setup_tables.specs.declared.edge.EdgeLine.{EdgeLine}
use Rattle.mapt_setup.specs.declared.setup.Setup.{Setup}
use Rattle.mapt_setup.specs.declared.script.ScriptItem.{ScriptItem}
use Rattle.mapt_setup.specs.declared.script.ScriptItem.TheVariants.{Rec, Move}
use Rattle.domain_core.specs.declared.history.EdgeHistory.{EdgeHistory}
use Rattle.domain_core.specs.declared.history.StripeHistory.{StripeHistory}
use Rattle.domain_core.specs.declared.trace.Trace.{Trace}
use Rattle.domain_core.specs.declared.trace.TraceItem.{TraceItem}
use Rattle.domain_core.specs.declared.trace.TraceItem.TheVariants.{Record, Live, Still}
use Rattle.journeys.specs.declared.made.MadeHop.{MadeHop}
use Rattle.journeys.specs.declared.made.Taking.{Taking}
use Rattle.journeys.specs.declared.stand.Stand.{Stand}
use Rattle.journeys.specs.declared.stand.Stand.TheVariants.{Edge, Relay}
use Rattle.journeys.specs.Waiting.{Waiting, onward, start_of}
use Rattle.journeys.specs.Walk.{Step as Made}
use Rattle.journeys.specs.Derived.{edge_node, relay_node}
use Rattle.journeys.specs.OneThread.{HopMade, node_number, generation, edge_start, edge_note, stripe_note, key_of, IsEntryOf, IsStripeEntryOf}

-- the histories so far, of each edge and of each stripe
pub record Histories : Type 0 where
  pub edges : List (List Entry)
  pub stripes : List (List StripeEntry)

abbrev pub with_edge : ℕ → List Entry → Histories → Histories
with_edge number entries h = record { edges = slice_set h.edges number entries; stripes = h.stripes }

abbrev pub with_stripe : ℕ → List StripeEntry → Histories → Histories
with_stripe number entries h = record { edges = h.edges; stripes = slice_set h.stripes number entries }

-- a hop that was made, and what it sent and dropped
pub record Step : Type 0 where
  pub made : HopMade
  pub hop : Hop

-- a hop that is kept of a record's walk, as a step of one worker
abbrev pub run_step : Taking → Made → Step
run_step taking made = record {
  made = record { rec = taking.rec; hop = made.hop; time = taking.time; taken = made.taken; note = made.note };
  hop = made.came;
}

-- it names no entry, and leaves the histories
abbrev pub LeavesAll : HopMade → Histories → Histories → Type 0
LeavesAll made before after = (made.note.stripe ≡ None) × (made.note.place ≡ None) × (after ≡ before)

-- ---- at an edge: a packet that is dropped before anything is asked counts as refused; another asks, and its entry comes last
abbrev pub IsUnaskedAt : Setup → EdgeLine → Way → Step → Histories → Histories → Type 0
IsUnaskedAt setup line way step before after =
    (cause : Cause) × IsDroppedAt way cause step.made.taken.octets × LeavesAll step.made before after
    × IsEdgeHop (edge_node setup step.made.rec line) way (Refused cause []) step.made.taken.octets step.hop

pub record IsAskedAt (setup : Setup) (line : EdgeLine) (number : ℕ) (way : Way) (step : Step) (before after : Histories) : Type 0 where
  pub ask : Ask
  pub entry : Entry
  pub entries : List Entry
  pub asked : IsAsk way step.made.taken.octets ask
  pub is : IsEntryOf step.made ask entry
  pub kind : IsAnswerAt way entry.answer
  pub stripe : step.made.note.stripe ≡ None
  pub place : step.made.note.place ≡ Some (length entries)
  pub history : slice_get before.edges number ≡ Some entries
  pub adds : after ≡ with_edge number (entries ++ entry ∷ []) before
  pub sends : IsEdgeHop (edge_node setup step.made.rec line) way entry.answer step.made.taken.octets step.hop

-- ---- at the relay, under the rules of the hop's generation
abbrev pub IsUntold : Setup → Bool → Step → Histories → Histories → Type 0
IsUntold setup six step before after =
    (((cause : Cause) × IsDroppedFrom six cause step.made.taken.octets) ⊎ AsksFrom six step.made.taken.octets None)
    × LeavesAll step.made before after
    × IsRelayHop (relay_node setup step.made.rec step.made.note.seen) six step.made.taken.octets None step.hop

pub record IsToldAt (setup : Setup) (six : Bool) (step : Step) (before after : Histories) : Type 0 where
  pub ask : FragAsk
  pub entry : StripeEntry
  pub entries : List StripeEntry
  pub asked : AsksFrom six step.made.taken.octets (Some ask)
  pub is : IsStripeEntryOf step.made ask entry
  pub kind : MayBeTold (Some ask) (Some entry.answer)
  pub stripe_is : step.made.note.stripe ≡ Some (stripe (key_of ask))
  pub place : step.made.note.place ≡ Some (length entries)
  pub history : slice_get before.stripes (stripe (key_of ask)) ≡ Some entries
  pub adds : after ≡ with_stripe (stripe (key_of ask)) (entries ++ entry ∷ []) before
  pub sends : IsRelayHop (relay_node setup step.made.rec step.made.note.seen) six step.made.taken.octets (Some entry.answer) step.hop

-- a hop where its packet stands
abbrev pub IsStepAt : Setup → Stand → Step → Histories → Histories → Type 0
IsStepAt setup (Edge number way) step before after =
    (line : EdgeLine) × (slice_get setup.edges number ≡ Some line)
    × (IsUnaskedAt setup line way step before after ⊎ IsAskedAt setup line number way step before after)
IsStepAt setup (Relay six) step before after = IsUntold setup six step before after ⊎ IsToldAt setup six step before after

abbrev pub IsStep : Setup → Step → Histories → Histories → Type 0
IsStep setup step before after = IsStepAt setup step.made.taken.stand step before after

-- ---- the hops of a record

-- the hop of this number takes this packet
pub record IsOf (taking : Taking) (hop : ℕ) (w : Waiting) (made : HopMade) : Type 0 where
  pub rec : made.rec ≡ taking.rec
  pub hop_is : made.hop ≡ hop
  pub time : made.time ≡ taking.time
  pub taken : made.taken ≡ w
  pub node : made.note.node ≡ node_number w.stand
  pub seen : made.note.seen ≡ taking.seen

-- what it sends on to nodes
abbrev pub sent_by_step : Setup → Step → List Waiting
sent_by_step setup step = filter_map (onward setup step.made.taken.stand) step.hop.outs

-- These steps, from the hop of some number on, take the packets that wait, first in first out, and what they send on behind them.
abbrev pub Walks : Setup → Taking → ℕ → List Waiting → List Step → Histories → Histories → Type 0
Walks setup taking hop waiting [] before after = (waiting ≡ []) × (after ≡ before)
Walks setup taking hop waiting (step ∷ steps) before after =
    (w : Waiting) × (others : List Waiting) × (mid : Histories)
    × (waiting ≡ w ∷ others) × IsOf taking hop w step.made × IsStep setup step before mid
    × Walks setup taking (suc hop) (others ++ sent_by_step setup step) steps mid after

abbrev pub first_waiting : Option Waiting → List Waiting
first_waiting None = []
first_waiting (Some w) = w ∷ []

-- ---- the items of a script

-- what an item came to: a record's number and its steps, a live change, or another
pub data ItemRun : Type 0 where
  ran : ℕ → List Step → ItemRun
  live : ℕ → ItemRun
  still : ℕ → ItemRun

-- the items in their order, where so many records and changes stand before the first of them
abbrev pub Runs : Setup → ℕ → ℕ → List ScriptItem → List ItemRun → Histories → Histories → Type 0
Runs setup rec changes [] runs before after = (runs ≡ []) × (after ≡ before)
Runs setup rec changes (Rec side time bytes ∷ script) runs before after =
    (steps : List Step) × (others : List ItemRun) × (mid : Histories)
    × Walks setup (record { rec = rec; time = time; seen = changes }) 0 (first_waiting (start_of setup side bytes)) steps before mid
    × Runs setup (suc rec) changes script others mid after
    × (runs ≡ ran rec steps ∷ others)
Runs setup rec changes (Move number true ∷ script) runs before after =
    (others : List ItemRun) × Runs setup rec (suc changes) script others before after × (runs ≡ live number ∷ others)
Runs setup rec changes (Move number false ∷ script) runs before after =
    (others : List ItemRun) × Runs setup rec (suc changes) script others before after × (runs ≡ still number ∷ others)

-- ---- what is kept of it

-- of a step, and of the records in their order, each its steps
abbrev pub kept_of_step : Step → MadeHop
kept_of_step step = record { stand = step.made.taken.stand; note = step.made.note; hop = step.hop }

abbrev pub made_in : List ItemRun → List (List MadeHop)
made_in [] = []
made_in (ran rec steps ∷ runs) = map kept_of_step steps ∷ made_in runs
made_in (live number ∷ runs) = made_in runs
made_in (still number ∷ runs) = made_in runs

-- ---- what a trace tells of it

abbrev pub item_of : ItemRun → TraceItem
item_of (ran rec steps) = Record (record { rec = rec; worker = 0; hops = map (λ (s : Step). s.made.note) steps })
item_of (live number) = Live number 0
item_of (still number) = Still number

-- no edge and no stripe has an entry yet
abbrev pub no_histories : Setup → Histories
no_histories setup = record { edges = map (λ (line : EdgeLine). []) setup.edges; stripes = replicate stripes [] }

-- rules that an edge used are those of generations of the setup
abbrev pub AreGenerations : Setup → List Generation → Type 0
AreGenerations setup books = All (λ (b : Generation). (b ≡ generation setup b.number) × (b.number ≤ length setup.changes)) books

-- A history is good over rules of the setup's generations.
abbrev pub IsGoodAt : Setup → ℕ → List Entry → Type 0
IsGoodAt setup number entries =
    (line : EdgeLine) × (slice_get setup.edges number ≡ Some line)
    × ((books : List Generation) × AreGenerations setup books × IsGood nat (edge_start setup number line) books entries)

-- a trace of such a run
pub record IsRun (setup : Setup) (script : List ScriptItem) (trace : Trace) : Type 0 where
  pub runs : List ItemRun
  pub after : Histories
  pub are : Runs setup 0 0 script runs (no_histories setup) after
  pub workers : trace.workers ≡ 1
  pub items : trace.items ≡ map item_of runs
  pub edges : map (λ (h : EdgeHistory). h.notes) trace.edges ≡ map (map edge_note) after.edges
  pub stripes_are : map (λ (h : StripeHistory). h.notes) trace.stripes ≡ map (map stripe_note) after.stripes
  pub good : (number : ℕ) (entries : List Entry) → slice_get after.edges number ≡ Some entries → IsGoodAt setup number entries
  pub good_stripes : (number : ℕ) (entries : List StripeEntry) → slice_get after.stripes number ≡ Some entries → IsGoodStripe entries
