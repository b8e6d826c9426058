-- What a step frees is what its fragment frees, or nothing.
use Rattle.std.proofs.Common.{◌≡◌, ℕ, ◌≤◌, max, arith, Bool, true, false, cond, List, [], Option, Some, None, Result, Ok, Err, refl, sym, ap, ◌∙◌, subst, inl, inr}
use Rattle.std.specs.Prelude.{nat_lt}
use Rattle.std.specs.List.{find}
use Rattle.std.specs.Result.{IfOk}
use Rattle.octets.specs.declared.parcel.Parcel.{Parcel}
use Rattle.octets.specs.declared.prefix.Prefix6.{Prefix6}
use Rattle.octets.specs.declared.proto.Proto.{Proto}
use Rattle.octets.specs.declared.cause.Cause.{Cause}
use Rattle.octets.specs.declared.cause.Cause.TheVariants.{WrongDestination}
use Rattle.rule_book.specs.Holder.{Holder, holder_of}
use Rattle.frag_table.specs.declared.note.Note.{Note}
use Rattle.frag_table.specs.declared.ask.FragAsk.{FragAsk}
use Rattle.frag_table.specs.declared.answer.FragAnswer.{FragAnswer}
use Rattle.frag_table.specs.declared.answer.FragAnswer.TheVariants.{Noted, Known, Held, Released, Full}
use Rattle.frag_table.specs.State.{FragState}
use Rattle.frag_table.specs.Frag.{frag, FragStep, freed_by, frag_now, live_at}
use Rattle.nat_model.specs.declared.answer.Answer.TheVariants.{Out, Turn}
use Rattle.nat_model.specs.declared.ask.End4.{End4}
use Rattle.nat_model.specs.declared.ask.Ask.{Ask}
use Rattle.nat_model.specs.declared.ask.Ask.TheVariants.{Outward, Inward, Keep}
use Rattle.nat_model.specs.declared.binding.Binding.{Binding}
use Rattle.nat_model.specs.Binding.{refreshed, kept_until, is_of_host, is_of_port}
use Rattle.nat_model.specs.Claim.{Wish, Bound, bound}
use Rattle.nat_model.specs.Fragment.{Gathered, ports_of, part_of, frag_ask_of}
use Rattle.nat_model.specs.Remote.{Remote, remote, sent, is_own, reached}
use Rattle.nat_model.specs.State.{Generation, NatState, NatStep, Moment, holder_at}
use Rattle.nat_model.specs.Machine.{refuses, sent_by, sent_flow, sent_error_by, sent_error, received_by, received, kept_by, keeps, received_from, passed, told, gathered, arrives, held_by, at_time, staying, renewed, timed, nat}
use Rattle.nat_model.specs.Waiting.{freed_of, FreesAtMost}

sent-frees : (h : Holder) (book : Generation) (outside : ℕ) (far : End4) (freed : List Parcel) → freed_of (sent h book outside far freed) ≡ freed
unfolding sent
sent-frees h book outside far freed =
    elim (is_own h far.addr.0 far.port) as (λ b. freed_of (cond b (Turn (record { 0 = h.addr }) outside freed) (Out (record { 0 = h.addr }) outside (record { 0 = h.own6 }) (record { 0 = reached book far.addr.0 far.port }) freed)) ≡ freed) [ true ↦ refl | false ↦ refl ]

sent_by-frees : (h : Holder) (s : NatState) (far : End4) (freed : List Parcel) (o : Option Bound) → FreesAtMost freed (sent_by h s far freed o).answer
sent_by-frees h s far freed None = inr refl
sent_by-frees h s far freed (Some b) = inr (sent-frees h s.book b.binding.port _ freed)

sent_flow-frees : (h : Holder) (s : NatState) (wish : Wish) (far : End4) (freed : List Parcel) → FreesAtMost freed (sent_flow h s wish far freed).answer
unfolding sent_flow
sent_flow-frees h s wish far freed = sent_by-frees h s far freed (bound h s.clock wish (refreshed s.clock) s.bindings)

sent_error_by-frees : (h : Holder) (s : NatState) (far : End4) (freed : List Parcel) (o : Option Binding) → FreesAtMost freed (sent_error_by h s far freed o).answer
sent_error_by-frees h s far freed None = inr refl
sent_error_by-frees h s far freed (Some b) = inr (sent-frees h s.book b.port _ freed)

sent_error-frees : (h : Holder) (s : NatState) (wish : Wish) (far : End4) (freed : List Parcel) → FreesAtMost freed (sent_error h s wish far freed).answer
unfolding sent_error
sent_error-frees h s wish far freed = sent_error_by-frees h s far freed (find (is_of_host wish.proto wish.near) s.bindings)

received_by-frees : (s after : NatState) (freed : List Parcel) (r : Remote) (o : Option Binding) → FreesAtMost freed (received_by s after freed r o).answer
received_by-frees s after freed r None = inr refl
received_by-frees s after freed r (Some b) = inr refl

received-frees : (s : NatState) (fault : Bool) (proto : Proto) (g : Gathered) (r : Remote) → FreesAtMost g.freed (received s fault proto g r).answer
unfolding received
received-frees s fault proto g r = received_by-frees s _ g.freed r (find (is_of_port proto g.ports.dst) s.bindings)

received_from-frees : (s : NatState) (fault : Bool) (proto : Proto) (g : Gathered) (r : Result Remote Cause) → FreesAtMost g.freed (received_from s fault proto g r).answer
received_from-frees s fault proto g (Err cause) = inr refl
received_from-frees s fault proto g (Ok r) = received-frees s fault proto g r

kept_by-frees : (s : NatState) (freed : List Parcel) (o : Option Bound) → FreesAtMost freed (kept_by s o).answer
kept_by-frees s freed None = inl refl
kept_by-frees s freed (Some b) = inl refl

keeps-frees : (h : Holder) (s : NatState) (wish : Wish) (until : ℕ) (freed : List Parcel) → FreesAtMost freed (keeps h s wish until).answer
unfolding keeps
keeps-frees h s wish until freed = kept_by-frees s freed (bound h s.clock wish (kept_until until) s.bindings)

pub passed-frees : (h : Holder) (s : NatState) (ask : Ask) (g : Gathered) → FreesAtMost g.freed (passed h s ask g).answer
passed-frees h s (Outward true proto near far flags part) g = sent_error-frees h s _ _ g.freed
passed-frees h s (Outward false proto near far flags part) g = sent_flow-frees h s _ _ g.freed
passed-frees h s (Inward fault proto port far flags part) g = received_from-frees s fault proto g (remote s.book far g.ports.src)
passed-frees h s (Keep proto host host_port port until) g = keeps-frees h s _ until g.freed

pub told-frees : (h : Holder) (s : NatState) (ask : Ask) (answer : FragAnswer) → FreesAtMost (freed_by answer) (told h s ask answer).answer
told-frees h s ask Noted = passed-frees h s ask (record { ports = ports_of ask; freed = [] })
told-frees h s ask (Known ports) = passed-frees h s ask (record { ports = ports; freed = [] })
told-frees h s ask Held = inl refl
told-frees h s ask (Released parcels) = passed-frees h s ask (record { ports = ports_of ask; freed = parcels })
told-frees h s ask Full = inl refl

-- the parcels that the fragment of an ask frees
abbrev pub fragment_frees : ℕ → List Note → ℕ → Option FragAsk → List Parcel
fragment_frees clock notes place None = []
fragment_frees clock notes place (Some f) = freed_by (frag (record { clock = clock; notes = notes }) clock place f).answer

gathered-frees : (h : Holder) (s : NatState) (place : ℕ) (ask : Ask) (o : Option FragAsk) → FreesAtMost (fragment_frees s.clock s.notes place o) (gathered h s place ask o).answer
gathered-frees h s place ask None = passed-frees h s ask (record { ports = ports_of ask; freed = [] })
gathered-frees h s place ask (Some f) = told-frees h (record s { notes = (frag (record { clock = s.clock; notes = s.notes }) s.clock place f).after.notes }) ask (frag (record { clock = s.clock; notes = s.notes }) s.clock place f).answer

frees_if : (b : Bool) (parcels : List Parcel) (step : NatStep) (s : NatState) → FreesAtMost parcels step.answer → FreesAtMost parcels (cond b step (refuses s WrongDestination [])).answer
frees_if true parcels step s frees = frees
frees_if false parcels step s frees = inl refl

held_by-frees : (s : NatState) (place : ℕ) (ask : Ask) (o : Option Holder) → FreesAtMost (fragment_frees s.clock s.notes place (frag_ask_of (part_of ask) (ports_of ask))) (held_by s place ask o).answer
held_by-frees s place ask None = inl refl
held_by-frees s place ask (Some h) = frees_if (arrives h ask) (fragment_frees s.clock s.notes place (frag_ask_of (part_of ask) (ports_of ask))) (gathered h s place ask (frag_ask_of (part_of ask) (ports_of ask))) s (gathered-frees h s place ask (frag_ask_of (part_of ask) (ports_of ask)))

timed-frees : (prefix : Prefix6) (s : NatState) (now place : ℕ) (ask : Ask) → FreesAtMost (fragment_frees (max s.clock now) s.notes place (frag_ask_of (part_of ask) (ports_of ask))) (timed prefix s now place ask).answer
unfolding timed at_time
timed-frees prefix s now place ask = held_by-frees (at_time now s) place ask (holder_at prefix (at_time now s))

-- a step of the machine frees what its fragment frees, or nothing
pub nat-frees : (prefix : Prefix6) (s : NatState) (m : Moment) (ask : Ask) → FreesAtMost (fragment_frees (max s.clock m.now) s.notes m.place (frag_ask_of (part_of ask) (ports_of ask))) (nat prefix s m ask).answer
unfolding nat renewed
nat-frees prefix s m ask =
    elim (nat_lt s.book.number m.seen.number) as (λ b. FreesAtMost (fragment_frees (max s.clock m.now) s.notes m.place (frag_ask_of (part_of ask) (ports_of ask))) (timed prefix (cond b (record s { book = m.seen; bindings = staying (holder_of s.book.rules prefix) (holder_of m.seen.rules prefix) s.bindings }) s) m.now m.place ask).answer) [
      | true ↦ timed-frees prefix (record s { book = m.seen; bindings = staying (holder_of s.book.rules prefix) (holder_of m.seen.rules prefix) s.bindings }) m.now m.place ask
      | false ↦ timed-frees prefix s m.now m.place ask
    ]

-- a table whose own time is earlier steps alike
frag-clock : (notes : List Note) (earlier clock place : ℕ) (f : FragAsk) → earlier ≤ clock → frag (record { clock = earlier; notes = notes }) clock place f ≡ frag (record { clock = clock; notes = notes }) clock place f
unfolding frag
frag-clock notes earlier clock place f le =
    let same : max earlier clock ≡ max clock clock = omega arith in
    ap (λ t. frag_now (live_at t notes) place f) same

-- what the table says that waits is what a step may free
pub waiting-frees : (prefix : Prefix6) (s : NatState) (table : FragState) (m : Moment) (ask : Ask) (parcels : List Parcel) (f : FragAsk) → table.notes ≡ s.notes → table.clock ≤ s.clock → frag_ask_of (part_of ask) (ports_of ask) ≡ Some f → ((step : ℕ) → parcels ≡ freed_by (frag table (max s.clock m.now) step f).answer) → FreesAtMost parcels (nat prefix s m ask).answer
waiting-frees prefix s table m ask parcels f same_notes earlier is waits =
    let clock = max s.clock m.now in
    let le : table.clock ≤ clock = omega arith in
    let of_table = ap (λ (ns : List Note). freed_by (frag (record { clock = table.clock; notes = ns }) clock m.place f).answer) same_notes in
    let freed = waits m.place ∙ of_table ∙ ap (λ (s : FragStep). freed_by s.answer) (frag-clock s.notes table.clock clock m.place f le) ∙ sym (ap (fragment_frees clock s.notes m.place) is) in
    let P : List Parcel → Type 0 = λ ps. FreesAtMost ps (nat prefix s m ask).answer in
    subst P (sym freed) (nat-frees prefix s m ask)

-- without a fragment nothing waits
pub whole-frees : (prefix : Prefix6) (s : NatState) (m : Moment) (ask : Ask) → frag_ask_of (part_of ask) (ports_of ask) ≡ None → FreesAtMost [] (nat prefix s m ask).answer
whole-frees prefix s m ask is =
    let P : List Parcel → Type 0 = λ ps. FreesAtMost ps (nat prefix s m ask).answer in
    subst P (ap (fragment_frees (max s.clock m.now) s.notes m.place) is) (nat-frees prefix s m ask)

-- what follows from a fact on an answer
pub if_ok_map : {X E : Type 0} (r : Result X E) (P Q : X → Type 0) → ((x : X) → P x → Q x) → IfOk r P → IfOk r Q
if_ok_map (Ok x) P Q f holds = f x holds
if_ok_map (Err e) P Q f holds = tt
