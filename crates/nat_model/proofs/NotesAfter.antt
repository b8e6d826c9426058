-- What a step of the machine makes of its notes on fragments: nothing, and then it frees nothing, or what the fragment machine
-- makes of them.
use Rattle.std.proofs.Common.{◌≡◌, ℕ, max, Bool, true, false, cond, List, [], Option, Some, None, Result, Ok, Err, refl, ap, inl, inr, ◌⊎◌, ⊎_elim}
use Rattle.std.specs.Prelude.{nat_lt}
use Rattle.std.specs.List.{find}
use Rattle.std.proofs.lemmas.Bool.{cond_both}
use Rattle.octets.specs.declared.cause.Cause.{Cause}
use Rattle.octets.specs.declared.cause.Cause.TheVariants.{WrongDestination}
use Rattle.octets.specs.declared.parcel.Parcel.{Parcel}
use Rattle.octets.specs.declared.prefix.Prefix6.{Prefix6}
use Rattle.octets.specs.declared.proto.Proto.{Proto}
use Rattle.rule_book.specs.Holder.{Holder, holder_of}
use Rattle.frag_table.specs.declared.note.Note.{Note}
use Rattle.frag_table.specs.declared.ask.FragAsk.{FragAsk}
use Rattle.frag_table.specs.declared.answer.FragAnswer.{FragAnswer}
use Rattle.frag_table.specs.declared.answer.FragAnswer.TheVariants.{Noted, Known, Held, Released, Full}
use Rattle.frag_table.specs.Frag.{frag, FragStep, freed_by}
use Rattle.nat_model.specs.declared.answer.Answer.{Answer}
use Rattle.nat_model.specs.declared.answer.Answer.TheVariants.{Held as HeldBack}
use Rattle.nat_model.specs.declared.ask.End4.{End4}
use Rattle.nat_model.specs.declared.ask.Ask.{Ask}
use Rattle.nat_model.specs.declared.ask.Ask.TheVariants.{Outward, Inward, Keep}
use Rattle.nat_model.specs.declared.binding.Binding.{Binding}
use Rattle.nat_model.specs.Binding.{is_of_host, is_of_port, refreshed, kept_until}
use Rattle.nat_model.specs.Claim.{Wish, Bound, bound}
use Rattle.nat_model.specs.Fragment.{Gathered, ports_of, part_of, frag_ask_of}
use Rattle.nat_model.specs.Remote.{Remote, remote}
use Rattle.nat_model.specs.State.{NatState, NatStep, Moment, holder_at}
use Rattle.nat_model.specs.Machine.{refuses, arrives, sent_by, sent_flow, sent_error, sent_error_by, received, received_by, with_entry, kept_by, keeps, received_from, passed, told, gathered, held_by, at_time, staying, renewed, timed, nat}
use Rattle.nat_model.specs.Waiting.{freed_of, FreesAtMost}
use Rattle.nat_model.proofs.Freed.{passed-frees, told-frees}

abbrev Keeps : NatState → NatStep → Type 0
Keeps s step = step.after.notes ≡ s.notes

sent_by-notes : (h : Holder) (s : NatState) (far : End4) (freed : List Parcel) (o : Option Bound) → Keeps s (sent_by h s far freed o)
sent_by-notes h s far freed None = refl
sent_by-notes h s far freed (Some b) = refl

sent_flow-notes : (h : Holder) (s : NatState) (wish : Wish) (far : End4) (freed : List Parcel) → Keeps s (sent_flow h s wish far freed)
unfolding sent_flow
sent_flow-notes h s wish far freed = sent_by-notes h s far freed (bound h s.clock wish (refreshed s.clock) s.bindings)

sent_error_by-notes : (h : Holder) (s : NatState) (far : End4) (freed : List Parcel) (o : Option Binding) → Keeps s (sent_error_by h s far freed o)
sent_error_by-notes h s far freed None = refl
sent_error_by-notes h s far freed (Some b) = refl

sent_error-notes : (h : Holder) (s : NatState) (wish : Wish) (far : End4) (freed : List Parcel) → Keeps s (sent_error h s wish far freed)
unfolding sent_error
sent_error-notes h s wish far freed = sent_error_by-notes h s far freed (find (is_of_host wish.proto wish.near) s.bindings)

received_by-notes : (s after : NatState) (freed : List Parcel) (r : Remote) (o : Option Binding) → after.notes ≡ s.notes → Keeps s (received_by s after freed r o)
received_by-notes s after freed r None same = refl
received_by-notes s after freed r (Some b) same = same

received-notes : (s : NatState) (fault : Bool) (proto : Proto) (g : Gathered) (r : Remote) → Keeps s (received s fault proto g r)
unfolding received
received-notes s fault proto g r = received_by-notes s (with_entry s fault proto g.ports.dst) g.freed r (find (is_of_port proto g.ports.dst) s.bindings) refl

received_from-notes : (s : NatState) (fault : Bool) (proto : Proto) (g : Gathered) (r : Result Remote Cause) → Keeps s (received_from s fault proto g r)
received_from-notes s fault proto g (Err cause) = refl
received_from-notes s fault proto g (Ok r) = received-notes s fault proto g r

kept_by-notes : (s : NatState) (o : Option Bound) → Keeps s (kept_by s o)
kept_by-notes s None = refl
kept_by-notes s (Some b) = refl

keeps-notes : (h : Holder) (s : NatState) (wish : Wish) (until : ℕ) → Keeps s (keeps h s wish until)
unfolding keeps
keeps-notes h s wish until = kept_by-notes s (bound h s.clock wish (kept_until until) s.bindings)

-- steps 6 and 7 leave them
passed-notes : (h : Holder) (s : NatState) (ask : Ask) (g : Gathered) → Keeps s (passed h s ask g)
passed-notes h s (Outward fault proto near far flags part) g =
    let from : End4 = record { addr = near.addr; port = g.ports.src } in
    let wish : Wish = record { proto = proto; near = from; port = g.ports.src } in
    let to : End4 = record { addr = far.addr; port = g.ports.dst } in
    cond_both fault (sent_error h s wish to g.freed) (sent_flow h s wish to g.freed) (Keeps s) (λ e. sent_error-notes h s wish to g.freed) (λ e. sent_flow-notes h s wish to g.freed)
passed-notes h s (Inward fault proto port far flags part) g = received_from-notes s fault proto g (remote s.book far g.ports.src)
passed-notes h s (Keep proto host host_port port until) g =
    let near : End4 = record { addr = host; port = host_port } in
    let wish : Wish = record { proto = proto; near = near; port = port } in
    keeps-notes h s wish until

told-notes : (h : Holder) (s : NatState) (ask : Ask) (answer : FragAnswer) → Keeps s (told h s ask answer)
told-notes h s ask Noted = passed-notes h s ask (record { ports = ports_of ask; freed = [] })
told-notes h s ask (Known ports) = passed-notes h s ask (record { ports = ports; freed = [] })
told-notes h s ask Held = refl
told-notes h s ask (Released parcels) = passed-notes h s ask (record { ports = ports_of ask; freed = parcels })
told-notes h s ask Full = refl

told-held : (h : Holder) (s : NatState) (ask : Ask) (answer : FragAnswer) → answer ≡ Held → (told h s ask answer).answer ≡ HeldBack
told-held h s ask answer e = ap (λ a. (told h s ask a).answer) e

-- the step takes the fragment machine's
pub record Takes (clock : ℕ) (notes : List Note) (place : ℕ) (f : FragAsk) (step : NatStep) : Type 0 where
  pub notes_after : step.after.notes ≡ (frag (record { clock = clock; notes = notes }) clock place f).after.notes
  pub freed : FreesAtMost (freed_by (frag (record { clock = clock; notes = notes }) clock place f).answer) step.answer
  pub held : (frag (record { clock = clock; notes = notes }) clock place f).answer ≡ Held → step.answer ≡ HeldBack

-- the two ways of a step with the notes
abbrev pub Treats : ℕ → List Note → ℕ → Option FragAsk → NatStep → Type 0
Treats clock notes place o step =
    ((step.after.notes ≡ notes) × (freed_of step.answer ≡ [])) ⊎ ((f : FragAsk) × (o ≡ Some f) × Takes clock notes place f step)

nothing-more : (answer : Answer) → FreesAtMost [] answer → freed_of answer ≡ []
nothing-more answer frees = ⊎_elim (λ (e : freed_of answer ≡ []). e) (λ (e : freed_of answer ≡ []). e) frees

gathered-treats : (h : Holder) (s : NatState) (place : ℕ) (ask : Ask) (o : Option FragAsk) → Treats s.clock s.notes place o (gathered h s place ask o)
gathered-treats h s place ask None =
    let g : Gathered = record { ports = ports_of ask; freed = [] } in
    inl (passed-notes h s ask g, nothing-more (passed h s ask g).answer (passed-frees h s ask g))
gathered-treats h s place ask (Some f) =
    let step : FragStep = frag (record { clock = s.clock; notes = s.notes }) s.clock place f in
    let t : NatState = record s { notes = step.after.notes } in
    inr (f, refl, record { notes_after = told-notes h t ask step.answer; freed = told-frees h t ask step.answer; held = told-held h t ask step.answer })

held_by-treats : (s : NatState) (place : ℕ) (ask : Ask) (o : Option Holder) → Treats s.clock s.notes place (frag_ask_of (part_of ask) (ports_of ask)) (held_by s place ask o)
held_by-treats s place ask None = inl (refl, refl)
held_by-treats s place ask (Some h) =
    let o = frag_ask_of (part_of ask) (ports_of ask) in
    cond_both (arrives h ask) (gathered h s place ask o) (refuses s WrongDestination []) (Treats s.clock s.notes place o)
    (λ e. gathered-treats h s place ask o) (λ e. inl (refl, refl))

timed-treats : (prefix : Prefix6) (s : NatState) (now place : ℕ) (ask : Ask) → Treats (max s.clock now) s.notes place (frag_ask_of (part_of ask) (ports_of ask)) (timed prefix s now place ask)
unfolding timed at_time
timed-treats prefix s now place ask = held_by-treats (at_time now s) place ask (holder_at prefix (at_time now s))

pub nat-treats : (prefix : Prefix6) (s : NatState) (m : Moment) (ask : Ask) → Treats (max s.clock m.now) s.notes m.place (frag_ask_of (part_of ask) (ports_of ask)) (nat prefix s m ask)
unfolding nat renewed
nat-treats prefix s m ask =
    let new : NatState = record s { book = m.seen; bindings = staying (holder_of s.book.rules prefix) (holder_of m.seen.rules prefix) s.bindings } in
    elim (nat_lt s.book.number m.seen.number) as (λ b. Treats (max s.clock m.now) s.notes m.place (frag_ask_of (part_of ask) (ports_of ask)) (timed prefix (cond b new s) m.now m.place ask)) [
      | true ↦ timed-treats prefix new m.now m.place ask
      | false ↦ timed-treats prefix s m.now m.place ask
    ]
