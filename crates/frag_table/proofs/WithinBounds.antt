-- Each step keeps the bounds.
use Rattle.std.proofs.Common.{◌≡◌, ℕ, suc, ◌≤◌, max, Bool, true, false, cond, List, [], ◌∷◌, ◌++◌, length, Option, Some, None, refl, ap, arith, length-append}
use Rattle.std.specs.Prelude.{nat_lt}
use Rattle.std.specs.List.{AllByRecursion, filter}
use Rattle.std.proofs.lemmas.Bool.{ltb-true}
use Rattle.octets.specs.declared.parcel.Parcel.{Parcel}
use Rattle.l4_headers.specs.declared.ports.Ports.{Ports}
use Rattle.frag_table.specs.declared.key.FragKey.{FragKey}
use Rattle.frag_table.specs.declared.note.Note.{Note}
use Rattle.frag_table.specs.declared.ask.FragAsk.{FragAsk}
use Rattle.frag_table.specs.declared.ask.FragAsk.TheVariants.{First, Later}
use Rattle.frag_table.specs.declared.answer.FragAnswer.{FragAnswer}
use Rattle.frag_table.specs.declared.answer.FragAnswer.TheVariants.{Noted, Held, Full}
use Rattle.frag_table.specs.State.{FragState}
use Rattle.frag_table.specs.Frag.{is_live, aged, same_key, note_of, with_note, answered, new_note, changing, released, new_key, first_step, later_step, later_again, frag_now, frag}
use Rattle.frag_table.specs.Bounds.{IsWithin, AreWithin, StepsKeepBounds}
use Rattle.frag_table.proofs.Keys.{AllByRecursion-push}

filter-within : (p : Note → Bool) (notes : List Note) → AllByRecursion IsWithin notes → (length (filter p notes) ≤ length notes) × AllByRecursion IsWithin (filter p notes)
filter-within p [] each = (omega arith, tt)
filter-within p (n ∷ notes) each = by_test (p n) (filter-within p notes each.1)
  where
    by_test : (b : Bool) → (length (filter p notes) ≤ length notes) × AllByRecursion IsWithin (filter p notes) → (length (cond b (n ∷ filter p notes) (filter p notes)) ≤ suc (length notes)) × AllByRecursion IsWithin (cond b (n ∷ filter p notes) (filter p notes))
    by_test true rest = (omega (arith, rest.0), (each.0, rest.1))
    by_test false rest = (omega (arith, rest.0), rest.1)

put-within : (note : Note) (notes : List Note) → IsWithin note → AllByRecursion IsWithin notes → (length (with_note note notes) ≡ length notes) × AllByRecursion IsWithin (with_note note notes)
put-within note [] within each = (refl, tt)
put-within note (n ∷ notes) within each = by_test (same_key n.key note.key) (put-within note notes within each.1)
  where
    by_test : (b : Bool) → (length (with_note note notes) ≡ length notes) × AllByRecursion IsWithin (with_note note notes) → (length (cond b (note ∷ notes) (n ∷ with_note note notes)) ≡ suc (length notes)) × AllByRecursion IsWithin (cond b (note ∷ notes) (n ∷ with_note note notes))
    by_test true rest = (refl, (within, each.1))
    by_test false rest = (ap suc rest.0, (each.0, rest.1))

-- what is found is within its bounds
abbrev FoundWithin : Option Note → Type 0
FoundWithin None = Unit {0}
FoundWithin (Some note) = IsWithin note

found-within : (key : FragKey) (notes : List Note) → AllByRecursion IsWithin notes → FoundWithin (note_of key notes)
found-within key [] each = tt
found-within key (n ∷ notes) each = by_test (same_key n.key key) (found-within key notes each.1)
  where
    by_test : (b : Bool) → FoundWithin (note_of key notes) → FoundWithin (cond b (Some n) (note_of key notes))
    by_test true rest = each.0
    by_test false rest = rest

new-within : (s : FragState) (note : Note) (answer : FragAnswer) → IsWithin note → AreWithin s → AreWithin (new_key s note answer).after
new-within s note answer within are = by_room (nat_lt (length s.notes) 256) refl
  where
    by_room : (b : Bool) → nat_lt (length s.notes) 256 ≡ b → AreWithin (cond b (record { after = record s { notes = s.notes ++ note ∷ [] }; answer = answer }) (answered s Full)).after
    by_room true room = record { few = omega (arith, ltb-true (length s.notes) 256 room, length-append s.notes (note ∷ [])); each = AllByRecursion-push IsWithin s.notes note are.each within }
    by_room false full = are

change-within : (s : FragState) (note : Note) (answer : FragAnswer) → IsWithin note → AreWithin s → AreWithin (changing s note answer).after
change-within s note answer within are =
    let put = put-within note s.notes within are.each in
    record { few = omega (arith, put.0, are.few); each = put.1 }

first-within : (s : FragState) (key : FragKey) (ports : Ports) (o : Option Note) → FoundWithin o → AreWithin s → AreWithin (first_step s key ports o).after
first-within s key ports None found are = new-within s (new_note s.clock key (Some ports) []) Noted (record { few = omega arith; idle = refl }) are
first-within s key ports (Some note) found are = change-within s (record note { ports = Some ports; held = [] }) (released note.held) (record { few = omega arith; idle = refl }) are

wait-within : (s : FragState) (note : Note) (parcel : Parcel) (o : Option Ports) → note.ports ≡ o → IsWithin note → AreWithin s → AreWithin (later_again s note parcel o).after
wait-within s note parcel (Some ports) is within are = are
wait-within s note parcel None is within are = by_room (nat_lt (length note.held) 16) refl
  where
    by_room : (b : Bool) → nat_lt (length note.held) 16 ≡ b → AreWithin (cond b (changing s (record note { held = note.held ++ parcel ∷ [] }) Held) (answered s Full)).after
    by_room true room = change-within s (record note { held = note.held ++ parcel ∷ [] }) Held (record { few = omega (arith, ltb-true (length note.held) 16 room, length-append note.held (parcel ∷ [])); idle = rw is tt }) are
    by_room false full = are

later-within : (s : FragState) (key : FragKey) (parcel : Parcel) (o : Option Note) → FoundWithin o → AreWithin s → AreWithin (later_step s key parcel o).after
later-within s key parcel (Some note) found are = wait-within s note parcel note.ports refl found are
later-within s key parcel None found are = new-within s (new_note s.clock key None (parcel ∷ [])) Held (record { few = omega arith; idle = tt }) are

now-within : (s : FragState) (place : ℕ) (ask : FragAsk) → AreWithin s → AreWithin (frag_now s place ask).after
now-within s place (First key ports) are = first-within s key ports (note_of key s.notes) (found-within key s.notes are.each) are
now-within s place (Later key octets) are = later-within s key (record { place = place; bytes = octets }) (note_of key s.notes) (found-within key s.notes are.each) are

pub steps-within : StepsKeepBounds
unfolding frag
steps-within s now place ask are =
    let live = filter-within (is_live (max s.clock now)) s.notes are.each in
    now-within (aged s now) place ask (record { few = omega (arith, live.0, are.few); each = live.1 })
