-- The rows of the fragment machine, on notes those of which whose deadline has come aren't removed yet.
use Rattle.std.proofs.Common.{◌≡◌, ℕ, zero, suc, ◌<◌, ◌≤◌, Bool, true, false, List, [], ◌∷◌, ◌++◌, length, get_or, set, Option, Some, None, Result, Ok, Err, cond, refl, sym, ap, ◌∙◌, arith}
use Rattle.std.specs.Prelude.{nat_lt, ◌==◌}
use Rattle.std.specs.Option.{IfSome}
use Rattle.std.specs.Result.{IfOk}
use Rattle.std.specs.List.{slice_get, filter}
use Rattle.std.proofs.lemmas.Bool.{lt-ltb, le-ltb, eqb-true}
use Rattle.std.proofs.lemmas.Option.{get_or_from_slice_get}
use Rattle.octets.specs.declared.parcel.Parcel.{Parcel}
use Rattle.l4_headers.specs.declared.ports.Ports.{Ports}
use Rattle.frag_table.specs.declared.key.FragKey.{FragKey}
use Rattle.frag_table.specs.declared.note.Note.{Note}
use Rattle.frag_table.specs.declared.ask.FragAsk.TheVariants.{First, Later}
use Rattle.frag_table.specs.declared.answer.FragAnswer.TheVariants.{Noted, Known, Held, Released, Full}
use Rattle.frag_table.specs.declared.answer.FragAnswer.{FragAnswer}
use Rattle.frag_table.specs.State.{FragState}
use Rattle.frag_table.specs.Frag.{FragStep, is_live, same_key, note_of, with_note, live_at, new_note, answered, released, first_step, later_step, later_again, frag_now, freed_by}
use Rattle.frag_table.specs.Place.{is_note, NoNote, IsPlace}
use Rattle.frag_table.proofs.LiveNotes.{both, same_key-sound, note_of-none, note_of-found, with_note-found, filter_push}

-- the note at a place
pub note_there : (notes : List Note) (at : ℕ) → at < length notes → (note : Note) × (slice_get notes at ≡ Some note)
note_there [] at within = absurd (omega arith)
note_there (n ∷ notes) zero within = (n, refl)
note_there (n ∷ notes) (suc at) within = note_there notes at (omega arith)

-- what a first fragment is told carries what waited
freed_released : (held : List Parcel) → held ≡ freed_by (released held)
freed_released [] = refl
freed_released (parcel ∷ held) = refl

-- nothing waits, or something does
pub released_none : (held : List Parcel) → (length held == 0) ≡ true → Noted ≡ released held
released_none [] none = refl
released_none (parcel ∷ held) none = absurd (omega (arith, eqb-true _ _ none))

pub released_some : (held : List Parcel) → (length held == 0) ≡ false → Released held ≡ released held
released_some [] some = absurd (cc)
released_some (parcel ∷ held) some = refl

-- a later fragment frees nothing
pub freed_later : (s : FragState) (step : ℕ) (key : FragKey) (octets : List ℕ) → [] ≡ freed_by (frag_now s step (Later key octets)).answer
freed_later s step key octets = by_note (note_of key s.notes)
  where
    by_room : (room : Bool) (after : FragState) → [] ≡ freed_by (cond room (record { after = after; answer = Held }) (answered s Full)).answer
    by_room true after = refl
    by_room false after = refl

    by_ports : (note : Note) (ports : Option Ports) → [] ≡ freed_by (later_again s note (record { place = step; bytes = octets }) ports).answer
    by_ports note (Some ports) = refl
    by_ports note None = by_room (nat_lt (length note.held) 16) (record s { notes = with_note (record note { held = note.held ++ record { place = step; bytes = octets } ∷ [] }) s.notes })

    by_note : (found : Option Note) → [] ≡ freed_by (later_step s key (record { place = step; bytes = octets }) found).answer
    by_note (Some note) = by_ports note note.ports
    by_note None = by_room (nat_lt (length s.notes) 256) (record s { notes = s.notes ++ new_note s.clock key None (record { place = step; bytes = octets } ∷ []) ∷ [] })

-- what follows from a fact on an answer
pub if_ok_map : {X E : Type 0} (r : Result X E) (P Q : X → Type 0) → ((x : X) → P x → Q x) → IfOk r P → IfOk r Q
if_ok_map (Ok x) P Q f holds = f x holds
if_ok_map (Err e) P Q f holds = tt

module _ (clock : ℕ) (key : FragKey) (notes : List Note) where
  -- no note of the key is found
  pub none_found : NoNote clock key notes → note_of key (filter (is_live clock) notes) ≡ None
  none_found none = note_of-none clock key notes (λ k d h. none k d (omega arith) h)

  module _ (at : ℕ) (note : Note) (is : IsPlace clock key notes at) (here : slice_get notes at ≡ Some note) where
    is_the_note : is_note clock key note ≡ true
    is_the_note = ap (is_note clock key) (sym (get_or_from_slice_get notes at note note here)) ∙ is.found note

    -- the note at the place is the key's
    pub its_key : note.key ≡ key
    its_key = same_key-sound note.key key (both (is_live clock note) (same_key note.key key) is_the_note).1

    -- and is found
    pub found_is : note_of key (filter (is_live clock) notes) ≡ Some note
    found_is = note_of-found clock key notes at note here is_the_note (λ k d h. is.first k d (omega arith) h)

    -- a change of it but for its key and deadline stands in its place
    pub put_is : (new : Note) → new.key ≡ note.key → new.deadline ≡ note.deadline → with_note new (filter (is_live clock) notes) ≡ filter (is_live clock) (set notes at new)
    put_is new same_keys same_deadlines =
        let of_key = same_keys ∙ its_key in
        let alive = ap (nat_lt clock) same_deadlines ∙ (both (is_live clock note) (same_key note.key key) is_the_note).0 in
        sym (with_note-found clock notes at note new here (ap (λ k. is_note clock k note) of_key ∙ is_the_note) (λ k d h. ap (λ x. is_note clock x (get_or notes k d)) of_key ∙ is.first k d (omega arith) h) alive)

    pub first_again_is : (ports : Ports) → frag_now (live_at clock notes) 0 (First key ports) ≡ record { after = live_at clock (set notes at (record note { ports = Some ports; held = [] })); answer = released note.held }
    first_again_is ports =
        ap (first_step (live_at clock notes) key ports) found_is ∙ ap (λ ns. record { after = record { clock = clock; notes = ns }; answer = released note.held }) (put_is (record note { ports = Some ports; held = [] }) refl refl)

    module _ (place : ℕ) (octets : List ℕ) where
      pub later_known : (ports : Ports) → note.ports ≡ Some ports → frag_now (live_at clock notes) place (Later key octets) ≡ record { after = live_at clock notes; answer = Known ports }
      later_known ports known =
          ap (later_step (live_at clock notes) key (record { place = place; bytes = octets })) found_is ∙ ap (later_again (live_at clock notes) note (record { place = place; bytes = octets })) known

      pub later_full : note.ports ≡ None → 16 ≤ length note.held → frag_now (live_at clock notes) place (Later key octets) ≡ record { after = live_at clock notes; answer = Full }
      later_full unknown many =
          ap (later_step (live_at clock notes) key (record { place = place; bytes = octets })) found_is ∙ ap (later_again (live_at clock notes) note (record { place = place; bytes = octets })) unknown ∙ rw (le-ltb (length note.held) 16 many) refl

      pub later_held : note.ports ≡ None → length note.held < 16 → frag_now (live_at clock notes) place (Later key octets) ≡ record { after = live_at clock (set notes at (record note { held = note.held ++ record { place = place; bytes = octets } ∷ [] })); answer = Held }
      later_held unknown few =
          ap (later_step (live_at clock notes) key (record { place = place; bytes = octets })) found_is ∙ ap (later_again (live_at clock notes) note (record { place = place; bytes = octets })) unknown ∙ rw (lt-ltb (length note.held) 16 few) refl ∙ ap (λ ns. record { after = record { clock = clock; notes = ns }; answer = Held }) (put_is (record note { held = note.held ++ record { place = place; bytes = octets } ∷ [] }) refl refl)

  -- what a body does that sets the ports and hands out what waits
  pub release_is : (at : ℕ) (ports : Ports) (new : List Note) (held : List Parcel) (answer : FragAnswer) → IsPlace clock key notes at → IfSome (slice_get notes at) (λ note. held ≡ note.held) → IfSome (slice_get notes at) (λ note. new ≡ set notes at (record note { ports = Some ports; held = [] })) → answer ≡ released held → record { after = live_at clock new; answer = answer } ≡ frag_now (live_at clock notes) 0 (First key ports)
  release_is at ports new held answer is out set_anew told =
      let there = note_there notes at is.within in
      let out_is = rw there.1 at out in
      let anew_is = rw there.1 at set_anew in
      let told_is = told ∙ ap released out_is in
      (λ i. record { after = live_at clock (anew_is i); answer = told_is i }) ∙ sym (first_again_is at there.0 is there.1 ports)

  -- what waits for a first fragment is what it frees
  pub freed_again : (at : ℕ) (note : Note) (step : ℕ) (ports : Ports) → IsPlace clock key notes at → slice_get notes at ≡ Some note → note.held ≡ freed_by (frag_now (live_at clock notes) step (First key ports)).answer
  freed_again at note step ports is here =
      let answer_of = λ (s : FragStep). freed_by s.answer in
      freed_released note.held ∙ sym (ap answer_of (first_again_is at note is here ports))

  -- and without a note nothing waits
  pub freed_new : (step : ℕ) (ports : Ports) → NoNote clock key notes → [] ≡ freed_by (frag_now (live_at clock notes) step (First key ports)).answer
  freed_new step ports none =
      let answer_of = λ (s : FragStep). freed_by s.answer in
      by_room (nat_lt (length (filter (is_live clock) notes)) 256) ∙ sym (ap (λ o. freed_by (first_step (live_at clock notes) key ports o).answer) (none_found none))
    where
      by_room : (room : Bool) → [] ≡ freed_by (cond room (record { after = record { clock = clock; notes = filter (is_live clock) notes ++ new_note clock key (Some ports) [] ∷ [] }; answer = Noted }) (answered (live_at clock notes) Full)).answer
      by_room true = refl
      by_room false = refl

  module _ (none : NoNote clock key notes) where
    pub first_full : (ports : Ports) → 256 ≤ length (filter (is_live clock) notes) → frag_now (live_at clock notes) 0 (First key ports) ≡ record { after = live_at clock notes; answer = Full }
    first_full ports many =
        ap (first_step (live_at clock notes) key ports) (none_found none) ∙ rw (le-ltb (length (filter (is_live clock) notes)) 256 many) refl

    pub first_new : (ports : Ports) → length (filter (is_live clock) notes) < 256 → frag_now (live_at clock notes) 0 (First key ports) ≡ record { after = live_at clock (notes ++ new_note clock key (Some ports) [] ∷ []); answer = Noted }
    first_new ports few =
        ap (first_step (live_at clock notes) key ports) (none_found none) ∙ rw (lt-ltb (length (filter (is_live clock) notes)) 256 few) refl ∙ ap (λ ns. record { after = record { clock = clock; notes = ns }; answer = Noted }) (sym (filter_push clock notes (new_note clock key (Some ports) []) (lt-ltb _ _ (omega arith))))

    pub later_none_full : (place : ℕ) (octets : List ℕ) → 256 ≤ length (filter (is_live clock) notes) → frag_now (live_at clock notes) place (Later key octets) ≡ record { after = live_at clock notes; answer = Full }
    later_none_full place octets many =
        ap (later_step (live_at clock notes) key (record { place = place; bytes = octets })) (none_found none) ∙ rw (le-ltb (length (filter (is_live clock) notes)) 256 many) refl

    pub later_new : (place : ℕ) (octets : List ℕ) → length (filter (is_live clock) notes) < 256 → frag_now (live_at clock notes) place (Later key octets) ≡ record { after = live_at clock (notes ++ new_note clock key None (record { place = place; bytes = octets } ∷ []) ∷ []); answer = Held }
    later_new place octets few =
        ap (later_step (live_at clock notes) key (record { place = place; bytes = octets })) (none_found none) ∙ rw (lt-ltb (length (filter (is_live clock) notes)) 256 few) refl ∙ ap (λ ns. record { after = record { clock = clock; notes = ns }; answer = Held }) (sym (filter_push clock notes (new_note clock key None (record { place = place; bytes = octets } ∷ [])) (lt-ltb _ _ (omega arith))))
