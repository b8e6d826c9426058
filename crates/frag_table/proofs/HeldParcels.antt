-- What waits in notes, and what is released: each parcel waited at its place under the note's key, and once.
use Rattle.std.proofs.Common.{◌≡◌, ℕ, suc, ◌+◌, ◌<◌, ◌≤◌, max, Bool, true, false, cond, List, [], ◌∷◌, ◌++◌, length, Option, Some, None, refl, sym, ap, ◌∙◌, subst, arith}
use Rattle.std.specs.Prelude.{nat_lt, ◌==◌}
use Rattle.std.specs.List.{AllByRecursion, filter}
use Rattle.octets.specs.declared.parcel.Parcel.{Parcel}
use Rattle.l4_headers.specs.declared.ports.Ports.{Ports}
use Rattle.frag_table.specs.declared.key.FragKey.{FragKey}
use Rattle.frag_table.specs.declared.note.Note.{Note}
use Rattle.frag_table.specs.declared.ask.FragAsk.{FragAsk}
use Rattle.frag_table.specs.declared.ask.FragAsk.TheVariants.{First, Later}
use Rattle.frag_table.specs.declared.answer.FragAnswer.{FragAnswer}
use Rattle.frag_table.specs.declared.answer.FragAnswer.TheVariants.{Noted, Held, Full}
use Rattle.frag_table.specs.State.{FragState}
use Rattle.frag_table.specs.Frag.{FragStep, is_live, aged, same_key, note_of, with_note, answered, new_note, changing, released, new_key, first_step, later_step, later_again, frag_now, frag, freed_by}
use Rattle.frag_table.proofs.Keys.{AllByRecursion-push}
use Rattle.frag_table.proofs.LiveNotes.{same_key-sound}

-- the answer to a later fragment that waits, whose step it is
abbrev pub WaitsAs : FragAsk → FragAnswer → FragKey → List ℕ → Type 0
WaitsAs ask answer key octets = (ask ≡ Later key octets) × (answer ≡ Held)

module _ (W : ℕ → FragKey → List ℕ → Type 0) where
  -- the parcel waited under the key, at a place before this one
  abbrev pub HasWaited : ℕ → FragKey → Parcel → Type 0
  HasWaited n key p = (p.place < n) × W p.place key p.bytes

  abbrev pub HaveWaited : ℕ → FragKey → List Parcel → Type 0
  HaveWaited n key ps = AllByRecursion (HasWaited n key) ps

  abbrev pub NoteHolds : ℕ → Note → Type 0
  NoteHolds n note = HaveWaited n note.key note.held

  -- all that waits in these notes
  abbrev pub NotesHold : ℕ → List Note → Type 0
  NotesHold n notes = AllByRecursion (NoteHolds n) notes

  parcels-later : (n : ℕ) (key : FragKey) (ps : List Parcel) → HaveWaited n key ps → HaveWaited (suc n) key ps
  parcels-later n key [] have = tt
  parcels-later n key (p ∷ ps) have = ((omega (arith, have.0.0), have.0.1), parcels-later n key ps have.1)

  pub notes-later : (n : ℕ) (notes : List Note) → NotesHold n notes → NotesHold (suc n) notes
  notes-later n [] hold = tt
  notes-later n (note ∷ notes) hold = (parcels-later n note.key note.held hold.0, notes-later n notes hold.1)

  pub live-hold : (p : Note → Bool) (n : ℕ) (notes : List Note) → NotesHold n notes → NotesHold n (filter p notes)
  live-hold p n [] hold = tt
  live-hold p n (note ∷ notes) hold = by_test (p note) (live-hold p n notes hold.1)
    where
      by_test : (b : Bool) → NotesHold n (filter p notes) → NotesHold n (cond b (note ∷ filter p notes) (filter p notes))
      by_test true rest = (hold.0, rest)
      by_test false rest = rest

  put-hold : (n : ℕ) (new : Note) (notes : List Note) → NoteHolds n new → NotesHold n notes → NotesHold n (with_note new notes)
  put-hold n new [] here hold = tt
  put-hold n new (note ∷ notes) here hold = by_test (same_key note.key new.key) (put-hold n new notes here hold.1)
    where
      by_test : (b : Bool) → NotesHold n (with_note new notes) → NotesHold n (cond b (new ∷ notes) (note ∷ with_note new notes))
      by_test true rest = (here, hold.1)
      by_test false rest = (hold.0, rest)

  -- what is found under a key holds parcels of that key
  abbrev pub FoundHolds : ℕ → FragKey → Option Note → Type 0
  FoundHolds n key None = Unit {0}
  FoundHolds n key (Some note) = (note.key ≡ key) × NoteHolds n note

  pub found-hold : (n : ℕ) (key : FragKey) (notes : List Note) → NotesHold n notes → FoundHolds n key (note_of key notes)
  found-hold n key [] hold = tt
  found-hold n key (note ∷ notes) hold = by_test (same_key note.key key) refl (found-hold n key notes hold.1)
    where
      by_test : (b : Bool) → same_key note.key key ≡ b → FoundHolds n key (note_of key notes) → FoundHolds n key (cond b (Some note) (note_of key notes))
      by_test true is rest = (same_key-sound note.key key is, hold.0)
      by_test false is rest = rest

  -- what a step leaves, and what it releases
  abbrev StepHolds : ℕ → FragStep → Type 0
  StepHolds n step = NotesHold (suc n) step.after.notes

  abbrev Releases : ℕ → FragKey → FragAnswer → Type 0
  Releases n key answer = HaveWaited n key (freed_by answer)

  new-hold : (n : ℕ) (s : FragState) (note : Note) (answer : FragAnswer) → ((new_key s note answer).answer ≡ answer → NoteHolds (suc n) note) → NotesHold n s.notes → StepHolds n (new_key s note answer)
  new-hold n s note answer here hold = by_room (nat_lt (length s.notes) 256) here
    where
      by_room : (b : Bool) → ((cond b (record { after = record s { notes = s.notes ++ note ∷ [] }; answer = answer }) (answered s Full)).answer ≡ answer → NoteHolds (suc n) note) → StepHolds n (cond b (record { after = record s { notes = s.notes ++ note ∷ [] }; answer = answer }) (answered s Full))
      by_room true now = AllByRecursion-push (NoteHolds (suc n)) s.notes note (notes-later n s.notes hold) (now refl)
      by_room false now = notes-later n s.notes hold

  first-hold : (n : ℕ) (s : FragState) (key : FragKey) (ports : Ports) (o : Option Note) → FoundHolds n key o → NotesHold n s.notes → StepHolds n (first_step s key ports o)
  first-hold n s key ports None found hold = new-hold n s (new_note s.clock key (Some ports) []) Noted (λ e. tt) hold
  first-hold n s key ports (Some note) found hold = put-hold (suc n) (record note { ports = Some ports; held = [] }) s.notes tt (notes-later n s.notes hold)

  released-waited : (n : ℕ) (key : FragKey) (held : List Parcel) → HaveWaited n key held → Releases n key (released held)
  released-waited n key [] have = tt
  released-waited n key (p ∷ held) have = have

  new-none : (s : FragState) (note : Note) (answer : FragAnswer) → freed_by answer ≡ [] → freed_by (new_key s note answer).answer ≡ []
  new-none s note answer none = by_room (nat_lt (length s.notes) 256)
    where
      by_room : (b : Bool) → freed_by (cond b (record { after = record s { notes = s.notes ++ note ∷ [] }; answer = answer }) (answered s Full)).answer ≡ []
      by_room true = none
      by_room false = refl

  none-waited : (n : ℕ) (key : FragKey) (ps : List Parcel) → ps ≡ [] → HaveWaited n key ps
  none-waited n key ps none = let P : List Parcel → Type 0 = HaveWaited n key in subst P (sym none) tt

  first-releases : (n : ℕ) (s : FragState) (key : FragKey) (ports : Ports) (o : Option Note) → FoundHolds n key o → Releases n key (first_step s key ports o).answer
  first-releases n s key ports None found = none-waited n key _ (new-none s (new_note s.clock key (Some ports) []) Noted refl)
  first-releases n s key ports (Some note) found =
      let P : FragKey → Type 0 = λ k. HaveWaited n k note.held in
      released-waited n key note.held (subst P found.0 found.1)

  wait-hold : (n : ℕ) (s : FragState) (note : Note) (key : FragKey) (octets : List ℕ) (o : Option Ports) → (note.key ≡ key) × NoteHolds n note → ((later_again s note (record { place = n; bytes = octets }) o).answer ≡ Held → W n key octets) → NotesHold n s.notes → StepHolds n (later_again s note (record { place = n; bytes = octets }) o)
  wait-hold n s note key octets (Some ports) found waits hold = notes-later n s.notes hold
  wait-hold n s note key octets None found waits hold = by_room (nat_lt (length note.held) 16) waits
    where
      by_room : (b : Bool) → ((cond b (changing s (record note { held = note.held ++ record { place = n; bytes = octets } ∷ [] }) Held) (answered s Full)).answer ≡ Held → W n key octets) → StepHolds n (cond b (changing s (record note { held = note.held ++ record { place = n; bytes = octets } ∷ [] }) Held) (answered s Full))
      by_room true now =
          let parcel : Parcel = record { place = n; bytes = octets } in
          let P : FragKey → Type 0 = λ k. W n k octets in
          let here : HasWaited (suc n) note.key parcel = (omega arith, subst P (sym found.0) (now refl)) in
          put-hold (suc n) (record note { held = note.held ++ record { place = n; bytes = octets } ∷ [] }) s.notes (AllByRecursion-push (HasWaited (suc n) note.key) note.held parcel (parcels-later n note.key note.held found.1) here) (notes-later n s.notes hold)
      by_room false now = notes-later n s.notes hold

  later-hold : (n : ℕ) (s : FragState) (key : FragKey) (octets : List ℕ) (o : Option Note) → FoundHolds n key o → ((later_step s key (record { place = n; bytes = octets }) o).answer ≡ Held → W n key octets) → NotesHold n s.notes → StepHolds n (later_step s key (record { place = n; bytes = octets }) o)
  later-hold n s key octets (Some note) found waits hold = wait-hold n s note key octets note.ports found waits hold
  later-hold n s key octets None found waits hold =
      new-hold n s (new_note s.clock key None (record { place = n; bytes = octets } ∷ [])) Held (λ e. ((omega arith, waits e), tt)) hold

  now-hold : (n : ℕ) (s : FragState) (ask : FragAsk) → ((key : FragKey) (octets : List ℕ) → WaitsAs ask (frag_now s n ask).answer key octets → W n key octets) → NotesHold n s.notes → StepHolds n (frag_now s n ask)
  now-hold n s (First key ports) waits hold = first-hold n s key ports (note_of key s.notes) (found-hold n key s.notes hold) hold
  now-hold n s (Later key octets) waits hold = later-hold n s key octets (note_of key s.notes) (found-hold n key s.notes hold) (λ e. waits key octets (refl, e)) hold

  -- a step keeps it so, where this fragment, if it waits, is said to wait here
  pub frag-hold : (n : ℕ) (s : FragState) (now : ℕ) (ask : FragAsk) → ((key : FragKey) (octets : List ℕ) → WaitsAs ask (frag s now n ask).answer key octets → W n key octets) → NotesHold n s.notes → NotesHold (suc n) (frag s now n ask).after.notes
  unfolding frag
  frag-hold n s now ask waits hold = now-hold n (aged s now) ask waits (live-hold (is_live (max s.clock now)) n s.notes hold)

  -- what a first fragment releases waited under its key
  pub frag-releases : (n : ℕ) (s : FragState) (now : ℕ) (key : FragKey) (ports : Ports) → NotesHold n s.notes → HaveWaited n key (freed_by (frag s now n (First key ports)).answer)
  unfolding frag
  frag-releases n s now key ports hold =
      let t = aged s now in
      first-releases n t key ports (note_of key t.notes) (found-hold n key t.notes (live-hold (is_live (max s.clock now)) n s.notes hold))

-- how many of these parcels waited at a place
abbrev pub times : ℕ → List Parcel → ℕ
times k [] = 0
times k (p ∷ ps) = cond (p.place == k) 1 0 + times k ps

-- and how many of those that wait in notes
abbrev pub times_held : ℕ → List Note → ℕ
times_held k [] = 0
times_held k (note ∷ notes) = times k note.held + times_held k notes

times-push : (k : ℕ) (ps : List Parcel) (p : Parcel) → times k (ps ++ p ∷ []) ≡ times k ps + cond (p.place == k) 1 0
times-push k [] p = omega arith
times-push k (q ∷ ps) p = omega (arith, times-push k ps p)

held-push : (k : ℕ) (notes : List Note) (note : Note) → times_held k (notes ++ note ∷ []) ≡ times_held k notes + times k note.held
held-push k [] note = omega arith
held-push k (n ∷ notes) note = omega (arith, held-push k notes note)

held-live : (p : Note → Bool) (k : ℕ) (notes : List Note) → times_held k (filter p notes) ≤ times_held k notes
held-live p k [] = omega arith
held-live p k (n ∷ notes) = by_test (p n) (held-live p k notes)
  where
    by_test : (b : Bool) → times_held k (filter p notes) ≤ times_held k notes → times_held k (cond b (n ∷ filter p notes) (filter p notes)) ≤ times k n.held + times_held k notes
    by_test true rest = omega arith
    by_test false rest = omega arith

-- a found note that is changed
held-put : (k : ℕ) (new old : Note) (notes : List Note) → note_of new.key notes ≡ Some old → times_held k (with_note new notes) + times k old.held ≡ times_held k notes + times k new.held
held-put k new old [] found = absurd (cc)
held-put k new old (n ∷ notes) found = by_test (same_key n.key new.key) found (held-put k new old notes)
  where
    by_test : (b : Bool) → cond b (Some n) (note_of new.key notes) ≡ Some old → (note_of new.key notes ≡ Some old → times_held k (with_note new notes) + times k old.held ≡ times_held k notes + times k new.held) → times_held k (cond b (new ∷ notes) (n ∷ with_note new notes)) + times k old.held ≡ times k n.held + times_held k notes + times k new.held
    by_test true is rest = let same : n ≡ old = cc in omega (arith, ap (λ (m : Note). times k m.held) same)
    by_test false is rest = omega (arith, rest is)

-- what waits at a place after a step, and what is freed by it: no more than before it, but for the fragment of this step
abbrev Counted : ℕ → ℕ → FragState → FragStep → Type 0
Counted k n s step = times_held k step.after.notes + times k (freed_by step.answer) ≤ times_held k s.notes + cond (n == k) 1 0

new-counted : (k n : ℕ) (s : FragState) (note : Note) (answer : FragAnswer) → times k note.held ≤ cond (n == k) 1 0 → freed_by answer ≡ [] → Counted k n s (new_key s note answer)
new-counted k n s note answer few none = by_room (nat_lt (length s.notes) 256)
  where
    by_room : (b : Bool) → Counted k n s (cond b (record { after = record s { notes = s.notes ++ note ∷ [] }; answer = answer }) (answered s Full))
    by_room true = omega (arith, few, held-push k s.notes note, ap (times k) none)
    by_room false = omega arith

times-released : (k : ℕ) (held : List Parcel) → times k (freed_by (released held)) ≡ times k held
times-released k [] = refl
times-released k (p ∷ held) = refl

-- a note that is found is the key's
found-key : (key : FragKey) (notes : List Note) (note : Note) → note_of key notes ≡ Some note → note.key ≡ key
found-key key [] note found = absurd (cc)
found-key key (m ∷ notes) note found = by_test (same_key m.key key) refl found (found-key key notes note)
  where
    by_test : (b : Bool) → same_key m.key key ≡ b → cond b (Some m) (note_of key notes) ≡ Some note → (note_of key notes ≡ Some note → note.key ≡ key) → note.key ≡ key
    by_test true is e rest = let same : m ≡ note = cc in ap (λ (q : Note). q.key) (sym same) ∙ same_key-sound m.key key is
    by_test false is e rest = rest e

-- a changed note that is found under its own key
changed-counted : (k : ℕ) (s : FragState) (key : FragKey) (note new : Note) → note_of key s.notes ≡ Some note → new.key ≡ note.key → times_held k (with_note new s.notes) + times k note.held ≡ times_held k s.notes + times k new.held
changed-counted k s key note new found same =
    let here = ap (λ x. note_of x s.notes) (same ∙ found-key key s.notes note found) ∙ found in
    held-put k new note s.notes here

first-counted : (k n : ℕ) (s : FragState) (key : FragKey) (ports : Ports) (o : Option Note) → note_of key s.notes ≡ o → Counted k n s (first_step s key ports o)
first-counted k n s key ports None found = new-counted k n s (new_note s.clock key (Some ports) []) Noted (omega arith) refl
first-counted k n s key ports (Some note) found =
    omega (arith, changed-counted k s key note (record note { ports = Some ports; held = [] }) found refl, times-released k note.held)

wait-counted : (k n : ℕ) (s : FragState) (key : FragKey) (note : Note) (octets : List ℕ) (o : Option Ports) → note_of key s.notes ≡ Some note → Counted k n s (later_again s note (record { place = n; bytes = octets }) o)
wait-counted k n s key note octets (Some ports) found = omega arith
wait-counted k n s key note octets None found = by_room (nat_lt (length note.held) 16)
  where
    by_room : (b : Bool) → Counted k n s (cond b (changing s (record note { held = note.held ++ record { place = n; bytes = octets } ∷ [] }) Held) (answered s Full))
    by_room true =
        let parcel : Parcel = record { place = n; bytes = octets } in
        omega (arith, changed-counted k s key note (record note { held = note.held ++ record { place = n; bytes = octets } ∷ [] }) found refl, times-push k note.held parcel)
    by_room false = omega arith

later-counted : (k n : ℕ) (s : FragState) (key : FragKey) (octets : List ℕ) (o : Option Note) → note_of key s.notes ≡ o → Counted k n s (later_step s key (record { place = n; bytes = octets }) o)
later-counted k n s key octets (Some note) found = wait-counted k n s key note octets note.ports found
later-counted k n s key octets None found = new-counted k n s (new_note s.clock key None (record { place = n; bytes = octets } ∷ [])) Held (omega arith) refl

now-counted : (k n : ℕ) (s : FragState) (ask : FragAsk) → Counted k n s (frag_now s n ask)
now-counted k n s (First key ports) = first-counted k n s key ports (note_of key s.notes) refl
now-counted k n s (Later key octets) = later-counted k n s key octets (note_of key s.notes) refl

pub frag-counted : (k n : ℕ) (s : FragState) (now : ℕ) (ask : FragAsk) → times_held k (frag s now n ask).after.notes + times k (freed_by (frag s now n ask).answer) ≤ times_held k s.notes + cond (n == k) 1 0
unfolding frag
frag-counted k n s now ask = omega (arith, now-counted k n (aged s now) ask, held-live (is_live (max s.clock now)) k s.notes)
