-- The bounds that the notes keep to in each state of the fragment machine.
use Rattle.std.specs.Prelude.{◌≡◌, ℕ, ◌≤◌, List, [], length, Option, Some, None}
use Rattle.std.specs.List.{AllByRecursion}
use Rattle.octets.specs.declared.parcel.Parcel.{Parcel}
use Rattle.l4_headers.specs.declared.ports.Ports.{Ports}
use Rattle.frag_table.specs.declared.note.Note.{Note}
use Rattle.frag_table.specs.declared.ask.FragAsk.{FragAsk}
use Rattle.frag_table.specs.State.{FragState}
use Rattle.frag_table.specs.Frag.{most_notes, most_held, frag}

-- nothing waits for ports that are known
abbrev pub IsIdle : Option Ports → List Parcel → Type 0
IsIdle None held = Unit {0}
IsIdle (Some ports) held = held ≡ []

-- at most 16 fragments wait in a note, and none where the ports are known
pub record IsWithin (note : Note) : Type 0 where
  pub few : length note.held ≤ most_held
  pub idle : IsIdle note.ports note.held

-- there are at most 256 notes, each of them within its bounds
pub record AreWithin (s : FragState) : Type 0 where
  pub few : length s.notes ≤ most_notes
  pub each : AllByRecursion IsWithin s.notes

-- a step keeps them so
abbrev pub StepsKeepBounds : Type 0
StepsKeepBounds = (s : FragState) (now place : ℕ) (ask : FragAsk) → AreWithin s → AreWithin (frag s now place ask).after
