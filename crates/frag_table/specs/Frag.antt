-- The fragment machine: what a node is told of a fragment, and what it keeps (RFC 6146, section 3.4, with
-- this project's bounds).
use Rattle.std.specs.Prelude.{ℕ, ◌+◌, ◌==◌, ◌&&◌, nat_lt, max, Bool, List, [], ◌∷◌, ◌++◌, length, Option, Some, None, if◌then◌else◌}
use Rattle.std.specs.List.{filter}
use Rattle.octets.specs.declared.parcel.Parcel.{Parcel}
use Rattle.l4_headers.specs.declared.ports.Ports.{Ports}
use Rattle.frag_table.specs.declared.key.FragKey.{FragKey}
use Rattle.frag_table.specs.declared.note.Note.{Note}
use Rattle.frag_table.specs.declared.ask.FragAsk.{FragAsk}
use Rattle.frag_table.specs.declared.ask.FragAsk.TheVariants.{First, Later}
use Rattle.frag_table.specs.declared.answer.FragAnswer.{FragAnswer}
use Rattle.frag_table.specs.declared.answer.FragAnswer.TheVariants.{Noted, Known, Held, Released, Full}
use Rattle.frag_table.specs.State.{FragState}

-- the most notes at a time
abbrev pub most_notes : ℕ
most_notes = 256

-- the most fragments that wait for one first fragment
abbrev pub most_held : ℕ
most_held = 16

-- how long a note stays, in microseconds: 60 seconds, as a reassembly may take (RFC 8200, section 4.5)
abbrev pub note_time : ℕ
note_time = 60000000

-- the state after a step, and its answer
pub record FragStep : Type 0 where
  pub after : FragState
  pub answer : FragAnswer

-- the note's deadline is still to come
abbrev pub is_live : ℕ → Note → Bool
is_live clock note = nat_lt clock note.deadline

-- the notes whose deadline hasn't come at a clock; the others go, with what they hold
abbrev pub live_at : ℕ → List Note → FragState
live_at clock notes = record { clock = clock; notes = filter (is_live clock) notes }

-- each step begins so: the clock never goes back
abbrev pub aged : FragState → ℕ → FragState
aged s now = live_at (max s.clock now) s.notes

-- two keys are the same, in each of their parts
abbrev pub same_key : FragKey → FragKey → Bool
same_key a b = (a.way == b.way) && ((a.src == b.src) && ((a.dst == b.dst) && ((a.proto == b.proto) && (a.id == b.id))))

-- the note of a key, if there is one
abbrev pub note_of : FragKey → List Note → Option Note
note_of key [] = None
note_of key (n ∷ notes) = if same_key n.key key then Some n else note_of key notes

-- the notes with this one in the place of the one of its key
abbrev pub with_note : Note → List Note → List Note
with_note note [] = []
with_note note (n ∷ notes) = if same_key n.key note.key then note ∷ notes else n ∷ with_note note notes

-- nothing changes but what the step began with
abbrev pub answered : FragState → FragAnswer → FragStep
answered s answer = record { after = s; answer = answer }

-- the note that is made of a key, whose deadline never moves
abbrev pub new_note : ℕ → FragKey → Option Ports → List Parcel → Note
new_note clock key ports held = record { key = key; deadline = clock + note_time; ports = ports; held = held }

-- a note is changed
abbrev pub changing : FragState → Note → FragAnswer → FragStep
changing s note answer = record { after = record s { notes = with_note note s.notes }; answer = answer }

-- the note of a new key is added where there are fewer than 256
abbrev pub new_key : FragState → Note → FragAnswer → FragStep
new_key s note answer =
    if nat_lt (length s.notes) most_notes then record { after = record s { notes = s.notes ++ note ∷ [] }; answer = answer }
    else answered s Full

-- what a first fragment is told, by what waits for it: that is released in the order of arrival
abbrev pub released : List Parcel → FragAnswer
released [] = Noted
released (parcel ∷ held) = Released (parcel ∷ held)

-- a first fragment whose key has a note: its ports are set anew, and nothing is held any more
abbrev pub first_again : FragState → Note → Ports → FragStep
first_again s note ports = changing s (record note { ports = Some ports; held = [] }) (released note.held)

-- a later fragment whose key has a note: its ports are known, or it is held where fewer than 16 are
abbrev pub later_again : FragState → Note → Parcel → Option Ports → FragStep
later_again s note parcel (Some ports) = answered s (Known ports)
later_again s note parcel None =
    if nat_lt (length note.held) most_held then changing s (record note { held = note.held ++ parcel ∷ [] }) Held
    else answered s Full

-- a first fragment
abbrev pub first_step : FragState → FragKey → Ports → Option Note → FragStep
first_step s key ports None = new_key s (new_note s.clock key (Some ports) []) Noted
first_step s key ports (Some note) = first_again s note ports

-- a later fragment, which is held under the place of the step
abbrev pub later_step : FragState → FragKey → Parcel → Option Note → FragStep
later_step s key parcel (Some note) = later_again s note parcel note.ports
later_step s key parcel None = new_key s (new_note s.clock key None (parcel ∷ [])) Held

-- a step of the machine on the state with its notes of the past gone
abbrev pub frag_now : FragState → ℕ → FragAsk → FragStep
frag_now s place (First key ports) = first_step s key ports (note_of key s.notes)
frag_now s place (Later key octets) = later_step s key (record { place = place; bytes = octets }) (note_of key s.notes)

-- a step of the machine, at a time in microseconds: what it leaves, and what it answers
unfoldable pub frag : FragState → ℕ → ℕ → FragAsk → FragStep
frag s now place ask = frag_now (aged s now) place ask

-- the parcels that an answer frees
abbrev pub freed_by : FragAnswer → List Parcel
freed_by Noted = []
freed_by (Known ports) = []
freed_by Held = []
freed_by (Released parcels) = parcels
freed_by Full = []
