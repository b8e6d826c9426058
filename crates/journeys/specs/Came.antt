-- What the hops of a trace came to: the journeys of its records, hop by hop, as its answers tell them. A trace that has no note of
-- a hop, or frees a parcel of a hop whose packet isn't derived, has no journeys. Notes past a record's last packet are of no hop.
use Rattle.std.specs.Prelude.{◌≡◌, ℕ, List, [], ◌∷◌, map, length, slice_get, Option, Some, None}
use Rattle.std.specs.Option.{option_map}
use Rattle.std.specs.List.{filter}
use Rattle.hops.specs.declared.hop.Hop.{Hop}
use Rattle.hops.specs.Hop.{nothing, then}
use Rattle.mapt_setup.specs.Script.{is_record}
use Rattle.journeys.specs.declared.made.MadeHop.{MadeHop}
use Rattle.journeys.specs.Answers.{note_of}
use Rattle.journeys.specs.Derived.{Told, Packet, packets_of, Part, made, untold, AreAtStand, IsDerivation, HasAll}
use Rattle.journeys.specs.Walk.{Step, kept_of}

-- ---- a hop

-- a part and then others; nothing is known of them where one is untold
abbrev pub came_by : Part → Option Hop → Option Hop
came_by (made hop) others = option_map (then hop) others
came_by untold others = None

-- what parts came to, one after the other
abbrev pub came_to : List Part → Option Hop
came_to [] = Some nothing
came_to (part ∷ parts) = came_by part (came_to parts)

-- This hop of a record is told by the trace: it took the packet of its number, and its note's answer says what it came to.
pub record IsToldHop (told : Told) (packets : List Packet) (rec : ℕ) (step : Step) : Type 0 where
  pub takes : slice_get (packets_of rec packets) step.hop ≡ Some step.taken
  pub noted : note_of told.trace rec step.hop ≡ Some step.note
  pub parts : List Part
  pub makes : AreAtStand told packets rec step.taken step.note parts
  pub comes : came_to parts ≡ Some step.came

-- ---- the hops of a record: one of each of its packets, in their order
pub record IsToldJourney (told : Told) (packets : List Packet) (rec : ℕ) (steps : List Step) : Type 0 where
  pub numbers : (hop : ℕ) (step : Step) → slice_get steps hop ≡ Some step → step.hop ≡ hop
  pub takes : map (λ (s : Step). s.taken) steps ≡ packets_of rec packets
  pub each : (hop : ℕ) (step : Step) → slice_get steps hop ≡ Some step → IsToldHop told packets rec step

-- ---- the hops of all records

-- By a derivation that has all packets of each record: a journey for each record of the script, in their order.
pub record AreJourneysBy (told : Told) (packets : List Packet) (journeys : List (List Step)) : Type 0 where
  pub derived : IsDerivation told packets
  pub whole : (rec : ℕ) → HasAll told packets rec
  pub count : length journeys ≡ length (filter is_record told.script)
  pub each : (rec : ℕ) (steps : List Step) → slice_get journeys rec ≡ Some steps → IsToldJourney told packets rec steps

abbrev pub AreJourneys : Told → List (List Step) → Type 0
AreJourneys told journeys = (packets : List Packet) × AreJourneysBy told packets journeys

-- as they are kept
abbrev pub AreKept : Told → List (List MadeHop) → Type 0
AreKept told kept = (journeys : List (List Step)) × AreJourneys told journeys × (kept ≡ map (map kept_of) journeys)
