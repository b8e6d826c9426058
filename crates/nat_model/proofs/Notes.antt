-- The notes on fragments have a time of their own, which is never past the machine's.
use Rattle.std.proofs.Common.{◌≡◌, ℕ, ◌≤◌, max, List, [], ◌∷◌, ◌++◌, Option, Some, None, length, refl, sym, ap, arith, nat_lt}
use Rattle.std.proofs.lemmas.Bool.{cond_both}
use Rattle.l4_headers.specs.declared.ports.Ports.{Ports}
use Rattle.octets.specs.declared.parcel.Parcel.{Parcel}
use Rattle.frag_table.specs.declared.key.FragKey.{FragKey}
use Rattle.frag_table.specs.declared.note.Note.{Note}
use Rattle.frag_table.specs.declared.ask.FragAsk.{FragAsk}
use Rattle.frag_table.specs.declared.ask.FragAsk.TheVariants.{First, Later}
use Rattle.frag_table.specs.declared.answer.FragAnswer.{FragAnswer}
use Rattle.frag_table.specs.declared.answer.FragAnswer.TheVariants.{Noted, Held, Full}
use Rattle.frag_table.specs.State.{FragState}
use Rattle.frag_table.specs.Frag.{frag, FragStep, frag_now, aged, live_at, first_step, later_step, later_again, new_key, new_note, changing, answered, note_of, most_notes, most_held}
use Rattle.rule_book.specs.Holder.{Holder}
use Rattle.nat_model.specs.declared.ask.Ask.{Ask}
use Rattle.nat_model.specs.declared.binding.Binding.{Binding}
use Rattle.nat_model.specs.State.{Generation, state_at}
use Rattle.nat_model.specs.Machine.{gathered, after_frag, told}

-- a step leaves the time that it began with
abbrev At : ℕ → FragStep → Type 0
At clock f = f.after.clock ≡ clock

pub new_key-clock : (s : FragState) (note : Note) (answer : FragAnswer) → (new_key s note answer).after.clock ≡ s.clock
new_key-clock s note answer =
    let added : FragStep = record { after = record s { notes = s.notes ++ note ∷ [] }; answer = answer } in
    cond_both (nat_lt (length s.notes) most_notes) added (answered s Full) (At s.clock) (λ e. refl) (λ e. refl)

pub first_step-clock : (s : FragState) (key : FragKey) (ports : Ports) (o : Option Note) → (first_step s key ports o).after.clock ≡ s.clock
first_step-clock s key ports None = new_key-clock s (new_note s.clock key (Some ports) []) Noted
first_step-clock s key ports (Some note) = refl

pub later_again-clock : (s : FragState) (note : Note) (parcel : Parcel) (o : Option Ports) → (later_again s note parcel o).after.clock ≡ s.clock
later_again-clock s note parcel (Some ports) = refl
later_again-clock s note parcel None =
    cond_both (nat_lt (length note.held) most_held) (changing s (record note { held = note.held ++ parcel ∷ [] }) Held) (answered s Full) (At s.clock) (λ e. refl) (λ e. refl)

pub later_step-clock : (s : FragState) (key : FragKey) (parcel : Parcel) (o : Option Note) → (later_step s key parcel o).after.clock ≡ s.clock
later_step-clock s key parcel (Some note) = later_again-clock s note parcel note.ports
later_step-clock s key parcel None = new_key-clock s (new_note s.clock key None (parcel ∷ [])) Held

pub frag_now-clock : (s : FragState) (place : ℕ) (ask : FragAsk) → (frag_now s place ask).after.clock ≡ s.clock
frag_now-clock s place (First key ports) = first_step-clock s key ports (note_of key s.notes)
frag_now-clock s place (Later key octets) = later_step-clock s key (record { place = place; bytes = octets }) (note_of key s.notes)

-- a step at a time that isn't before the notes' own leaves them at that time
pub frag-clock : (s : FragState) (now place : ℕ) (ask : FragAsk) → s.clock ≤ now → (frag s now place ask).after.clock ≤ now
unfolding frag
frag-clock s now place ask le = let e = frag_now-clock (aged s now) place ask in omega (arith, e)

-- and it is the step of the same notes whose time is that time
pub frag-same : (s : FragState) (now place : ℕ) (ask : FragAsk) → s.clock ≤ now → frag s now place ask ≡ frag (record { clock = now; notes = s.notes }) now place ask
unfolding frag
frag-same s now place ask le =
    let one : max s.clock now ≡ max now now = omega arith in
    ap (λ clock. frag_now (live_at clock s.notes) place ask) one

-- a fragment's step, on notes whose time isn't past the machine's
pub gathered-told : (h : Holder) (book : Generation) (clock : ℕ) (bs : List Binding) (place : ℕ) (ask : Ask) (t : FragState) (f : FragAsk) → t.clock ≤ clock → gathered h (state_at book clock bs t.notes) place ask (Some f) ≡ told h (state_at book clock bs (frag t clock place f).after.notes) ask (frag t clock place f).answer
gathered-told h book clock bs place ask t f le =
    ap (λ (step : FragStep). after_frag h (state_at book clock bs t.notes) ask step) (sym (frag-same t clock place f le))
