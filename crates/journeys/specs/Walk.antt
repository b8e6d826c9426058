-- The hops of one record, first in first out, whoever makes a hop.
use Rattle.std.specs.Prelude.{◌≡◌, ℕ, suc, List, [], ◌∷◌, ◌++◌, map}
use Rattle.std.specs.List.{filter_map}
use Rattle.hops.specs.declared.hop.Hop.{Hop}
use Rattle.mapt_setup.specs.declared.setup.Setup.{Setup}
use Rattle.domain_core.specs.declared.journey.HopNote.{HopNote}
use Rattle.journeys.specs.declared.made.MadeHop.{MadeHop}
use Rattle.journeys.specs.declared.made.Taking.{Taking}
use Rattle.journeys.specs.Waiting.{Waiting, onward}
use Rattle.journeys.specs.OneThread.{node_number}

-- a hop: the packet that it took, what a trace tells of it, and what it sent and dropped
pub record Step : Type 0 where
  pub hop : ℕ
  pub taken : Waiting
  pub note : HopNote
  pub came : Hop

-- the hop of this number took this packet, in the generation of its record
pub record IsOf (taking : Taking) (hop : ℕ) (w : Waiting) (step : Step) : Type 0 where
  pub hop_is : step.hop ≡ hop
  pub taken : step.taken ≡ w
  pub node : step.note.node ≡ node_number w.stand
  pub seen : step.note.seen ≡ taking.seen

-- what it sends on to nodes
abbrev pub sent_by_step : Setup → Step → List Waiting
sent_by_step setup step = filter_map (onward setup step.taken.stand) step.came.outs

-- as it is kept: without the octets of the packet
abbrev pub kept_of : Step → MadeHop
kept_of step = record { stand = step.taken.stand; note = step.note; hop = step.came }

-- who makes hops: what one leaves of what he knows
abbrev pub Making : Type 0 → Type 1
Making S = Step → S → S → Type 0

-- These steps, from the hop of some number on, take packets that wait, first in first out, and what they send on behind them; and
-- these others wait still.
abbrev pub Leads : {S : Type 0} → Making S → Setup → Taking → ℕ → List Waiting → List Step → List Waiting → S → S → Type 0
Leads {S} Makes setup taking hop waiting [] left before after = (left ≡ waiting) × (after ≡ before)
Leads {S} Makes setup taking hop waiting (step ∷ steps) left before after =
    (w : Waiting) × (others : List Waiting) × (mid : S)
    × (waiting ≡ w ∷ others) × IsOf taking hop w step × Makes step before mid
    × Leads Makes setup taking (suc hop) (others ++ sent_by_step setup step) steps left mid after

-- none waits any more
abbrev pub Walks : {S : Type 0} → Making S → Setup → Taking → List Waiting → List Step → S → S → Type 0
Walks {S} Makes setup taking waiting steps before after = Leads Makes setup taking 0 waiting steps [] before after

-- The hops that are kept of a record's steps: they take its packets that wait, and all that they send on.
abbrev pub IsJourney : {S : Type 0} → Making S → Setup → Taking → List Waiting → S → S → List MadeHop → Type 0
IsJourney {S} Makes setup taking waiting before after kept =
    (steps : List Step) × Walks Makes setup taking waiting steps before after × (kept ≡ map kept_of steps)
