-- The machines of a domain, as one worker finds them between two hops.
use Rattle.std.specs.Prelude.{◌≡◌, ℕ, ◌<◌, ◌≤◌, ◌^◌, List, map, length, slice_get, Some}
use Rattle.rule_book.specs.Book.{dmr_of}
use Rattle.rule_book.specs.Valid.{FitBook}
use Rattle.edge_core.specs.Shown.{EdgeShown, KeepsEdge, StripeShown, KeepsStripe}
use Rattle.relay_node.specs.Asked.{stripes}
use Rattle.setup_tables.specs.declared.edge.EdgeLine.{EdgeLine}
use Rattle.mapt_setup.specs.declared.setup.Setup.{Setup}
use Rattle.mapt_setup.specs.Generation.{rules_in, IsGeneration}
use Rattle.journeys.specs.declared.made.Taking.{Taking}
use Rattle.journeys.specs.declared.made.MadeHop.{MadeHop}
use Rattle.journeys.specs.Waiting.{Waiting}
use Rattle.journeys.specs.Walk.{Step, kept_of}
use Rattle.journeys.specs.Level.{IsAnswered}
use Rattle.journeys.specs.OneThread.{edge_start}
use Rattle.journeys.specs.Run.{Histories, IsStep, Walks, AreGenerations, run_step}
use Rattle.domain_run.specs.declared.machines.Machines.{Machines}

-- the histories so far
abbrev pub histories_of : Machines → Histories
histories_of machines = record {
  edges = map (λ (e : EdgeShown). e.history) machines.edges.items;
  stripes = map (λ (s : StripeShown). s.history) machines.stripes.items;
}

-- an edge began as the setup says, and used rules of its generations
pub record IsEdgeOf (setup : Setup) (number : ℕ) (line : EdgeLine) (edge : EdgeShown) : Type 0 where
  pub start : edge.start ≡ edge_start setup number line
  pub books : AreGenerations setup edge.books
  pub keeps : KeepsEdge edge

-- The machines are those of the setup, under the rules after so many changes.
pub record AreMachines (setup : Setup) (changes : ℕ) (machines : Machines) : Type 0 where
  pub edge_count : length machines.edges.items ≡ length setup.edges
  pub edges : (number : ℕ) (line : EdgeLine) (edge : EdgeShown) → slice_get setup.edges number ≡ Some line → slice_get machines.edges.items number ≡ Some edge
      → IsEdgeOf setup number line edge
  pub stripe_count : length machines.stripes.items ≡ stripes
  pub stripes_are : (number : ℕ) (stripe : StripeShown) → slice_get machines.stripes.items number ≡ Some stripe → KeepsStripe stripe
  pub generation : IsGeneration setup changes machines.book
  pub few : changes ≤ length setup.changes
  pub fit : FitBook (rules_in setup changes) (dmr_of setup.book)

-- they can make hops of a record
pub record AreReady (setup : Setup) (taking : Taking) (machines : Machines) : Type 0 where
  pub machines_are : AreMachines setup taking.seen machines
  pub time : taking.time < 2 ^ 63

-- ---- a hop

-- it is one step of the run, and the machines can make others
abbrev pub MakesOne : Setup → Taking → Step → Machines → Machines → Type 0
MakesOne setup taking step before after =
    IsStep setup (run_step taking step) (histories_of before) (histories_of after) × AreReady setup taking after

-- as it is answered
abbrev pub IsMadeOne : Setup → Taking → ℕ → Waiting → MadeHop → Machines → Machines → Type 0
IsMadeOne setup taking hop w made before after = IsAnswered (MakesOne setup taking) setup taking hop w made before after

-- ---- a record

-- The hops that are kept of a record's packets which wait: they are those of one worker's run.
abbrev pub IsTakenRecord : Setup → Taking → List Waiting → Machines → Machines → List MadeHop → Type 0
IsTakenRecord setup taking waiting before after kept =
    (steps : List Step)
    × Walks setup taking 0 waiting (map (run_step taking) steps) (histories_of before) (histories_of after)
    × (kept ≡ map kept_of steps)
