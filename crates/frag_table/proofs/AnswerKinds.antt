-- Each fragment has an answer of its kind.
use Rattle.std.proofs.Common.{◌≡◌, ℕ, Bool, true, false, cond, List, [], ◌∷◌, ◌++◌, length, Option, Some, None}
use Rattle.std.specs.Prelude.{nat_lt}
use Rattle.octets.specs.declared.parcel.Parcel.{Parcel}
use Rattle.l4_headers.specs.declared.ports.Ports.{Ports}
use Rattle.frag_table.specs.declared.key.FragKey.{FragKey}
use Rattle.frag_table.specs.declared.note.Note.{Note}
use Rattle.frag_table.specs.declared.ask.FragAsk.{FragAsk}
use Rattle.frag_table.specs.declared.ask.FragAsk.TheVariants.{First, Later}
use Rattle.frag_table.specs.declared.answer.FragAnswer.{FragAnswer}
use Rattle.frag_table.specs.declared.answer.FragAnswer.TheVariants.{Noted, Known, Held, Released, Full}
use Rattle.frag_table.specs.State.{FragState}
use Rattle.frag_table.specs.Frag.{aged, note_of, answered, new_note, changing, released, new_key, first_step, later_step, later_again, frag_now, frag}
use Rattle.frag_table.specs.Kind.{IsFragAnswerTo}

-- an answer of the ask's kind that releases something where it releases
abbrev pub Fits : FragAsk → FragAnswer → Type 0
Fits ask Noted = IsFragAnswerTo ask Noted
Fits ask (Known ports) = IsFragAnswerTo ask (Known ports)
Fits ask Held = IsFragAnswerTo ask Held
Fits ask (Released []) = ⊥
Fits ask (Released (parcel ∷ parcels)) = IsFragAnswerTo ask (Released (parcel ∷ parcels))
Fits ask Full = IsFragAnswerTo ask Full

new-fits : (s : FragState) (note : Note) (ask : FragAsk) (answer : FragAnswer) → Fits ask answer → Fits ask Full → Fits ask (new_key s note answer).answer
new-fits s note ask answer fits full = by_room (nat_lt (length s.notes) 256)
  where
    by_room : (b : Bool) → Fits ask (cond b (record { after = record s { notes = s.notes ++ note ∷ [] }; answer = answer }) (answered s Full)).answer
    by_room true = fits
    by_room false = full

released-fits : (key : FragKey) (ports : Ports) (held : List Parcel) → Fits (First key ports) (released held)
released-fits key ports [] = tt
released-fits key ports (parcel ∷ held) = tt

first-fits : (s : FragState) (key : FragKey) (ports : Ports) (o : Option Note) → Fits (First key ports) (first_step s key ports o).answer
first-fits s key ports None = new-fits s (new_note s.clock key (Some ports) []) (First key ports) Noted tt tt
first-fits s key ports (Some note) = released-fits key ports note.held

wait-fits : (s : FragState) (note : Note) (key : FragKey) (octets : List ℕ) (parcel : Parcel) (o : Option Ports) → Fits (Later key octets) (later_again s note parcel o).answer
wait-fits s note key octets parcel (Some ports) = tt
wait-fits s note key octets parcel None = by_room (nat_lt (length note.held) 16)
  where
    by_room : (b : Bool) → Fits (Later key octets) (cond b (changing s (record note { held = note.held ++ parcel ∷ [] }) Held) (answered s Full)).answer
    by_room true = tt
    by_room false = tt

later-fits : (s : FragState) (key : FragKey) (octets : List ℕ) (parcel : Parcel) (o : Option Note) → Fits (Later key octets) (later_step s key parcel o).answer
later-fits s key octets parcel (Some note) = wait-fits s note key octets parcel note.ports
later-fits s key octets parcel None = new-fits s (new_note s.clock key None (parcel ∷ [])) (Later key octets) Held tt tt

now-fits : (s : FragState) (place : ℕ) (ask : FragAsk) → Fits ask (frag_now s place ask).answer
now-fits s place (First key ports) = first-fits s key ports (note_of key s.notes)
now-fits s place (Later key octets) = later-fits s key octets (record { place = place; bytes = octets }) (note_of key s.notes)

pub frag-fits : (s : FragState) (now place : ℕ) (ask : FragAsk) → Fits ask (frag s now place ask).answer
unfolding frag
frag-fits s now place ask = now-fits (aged s now) place ask

of_kind : (ask : FragAsk) (answer : FragAnswer) → Fits ask answer → IsFragAnswerTo ask answer
of_kind ask Noted fits = fits
of_kind ask (Known ports) fits = fits
of_kind ask Held fits = fits
of_kind ask (Released []) fits = absurd fits
of_kind ask (Released (parcel ∷ parcels)) fits = fits
of_kind ask Full fits = fits

pub frag-kind : (s : FragState) (now place : ℕ) (ask : FragAsk) → IsFragAnswerTo ask (frag s now place ask).answer
frag-kind s now place ask = of_kind ask (frag s now place ask).answer (frag-fits s now place ask)

some : (ask : FragAsk) (answer : FragAnswer) (parcels : List Parcel) → Fits ask answer → answer ≡ Released parcels → parcels ≡ [] → ⊥
some ask Noted parcels fits is none = cc
some ask (Known ports) parcels fits is none = cc
some ask Held parcels fits is none = cc
some ask (Released []) parcels fits is none = fits
some ask (Released (parcel ∷ more)) parcels fits is none = cc
some ask Full parcels fits is none = cc

pub frag-some : (s : FragState) (now place : ℕ) (ask : FragAsk) (parcels : List Parcel) → (frag s now place ask).answer ≡ Released parcels → ¬ (parcels ≡ [])
frag-some s now place ask parcels is none = some ask (frag s now place ask).answer parcels (frag-fits s now place ask) is none
