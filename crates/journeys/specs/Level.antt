-- The hops of a record level by level: those of packets that wait, one after the other, and then those of all that they sent on.
use Rattle.std.specs.Prelude.{◌≡◌, ℕ, suc, ◌+◌, ◌≤◌, List, [], ◌∷◌, ◌++◌, map, length}
use Rattle.std.specs.List.{filter_map, flat_map}
use Rattle.mapt_setup.specs.declared.setup.Setup.{Setup}
use Rattle.journeys.specs.declared.made.MadeHop.{MadeHop}
use Rattle.journeys.specs.declared.made.Taking.{Taking}
use Rattle.journeys.specs.Waiting.{Waiting, StandsIn, onward}
use Rattle.journeys.specs.Rank.{rank, SendsLess}
use Rattle.journeys.specs.Walk.{Step, Making, IsOf, kept_of, Leads}

-- the hop of this number, which took this packet and sends what goes less far
pub record IsMade {S : Type 0} (Makes : Making S) (setup : Setup) (taking : Taking) (hop : ℕ) (w : Waiting) (step : Step) (before after : S) : Type 0 where
  pub of_it : IsOf taking hop w step
  pub stands : StandsIn setup step.taken.stand
  pub less : SendsLess setup step.taken step.came
  pub makes : Makes step before after

-- as one that makes hops answers it
abbrev pub IsAnswered : {S : Type 0} → Making S → Setup → Taking → ℕ → Waiting → MadeHop → S → S → Type 0
IsAnswered {S} Makes setup taking hop w made before after =
    (step : Step) × IsMade Makes setup taking hop w step before after × (made ≡ kept_of step)

-- the hops of these packets, one after the other
abbrev pub AreMade : {S : Type 0} → Making S → Setup → Taking → ℕ → List Waiting → List Step → S → S → Type 0
AreMade {S} Makes setup taking hop [] steps before after = (steps ≡ []) × (after ≡ before)
AreMade {S} Makes setup taking hop (w ∷ ws) steps before after =
    (step : Step) × (others : List Step) × (mid : S)
    × IsMade Makes setup taking hop w step before mid × AreMade Makes setup taking (suc hop) ws others mid after
    × (steps ≡ step ∷ others)

-- each of these stands at a node
abbrev pub AreStanding : Setup → List MadeHop → Type 0
AreStanding setup [] = Unit {0}
AreStanding setup (made ∷ others) = StandsIn setup made.stand × AreStanding setup others

-- what kept hops send on to nodes
abbrev pub sent_by_kept : Setup → MadeHop → List Waiting
sent_by_kept setup made = filter_map (onward setup made.stand) made.hop.outs

abbrev pub sent_by_level : Setup → List MadeHop → List Waiting
sent_by_level setup level = flat_map (sent_by_kept setup) level

-- These kept hops come behind those before them, which are as many as there are from this number on: the hops of these packets.
abbrev pub Gains : {S : Type 0} → Making S → Setup → Taking → ℕ → List Waiting → List MadeHop → List MadeHop → S → S → Type 0
Gains {S} Makes setup taking from ws kept_before kept before after =
    (steps : List Step) × AreMade Makes setup taking (from + length kept_before) ws steps before after × (kept ≡ kept_before ++ map kept_of steps)

-- none of these goes further than this
abbrev pub AreWithin : ℕ → List Waiting → Type 0
AreWithin most [] = Unit {0}
AreWithin most (w ∷ ws) = (rank w ≤ most) × AreWithin most ws

-- The kept hops so far, of which the last are those of the present level, and what these send on waits.
pub record IsWalked {S : Type 0} (Makes : Making S) (setup : Setup) (taking : Taking) (first : List Waiting) (most : ℕ) (done level : List MadeHop) (before after : S) : Type 0 where
  pub steps : List Step
  pub leads : Leads Makes setup taking 0 first steps (sent_by_level setup level) before after
  pub kept : done ++ level ≡ map kept_of steps
  pub within : AreWithin most (sent_by_level setup level)
  pub standing : AreStanding setup level
