-- The generation of the rules that a step leaves.
use Rattle.std.proofs.Common.{◌≡◌, ℕ, max, arith, Bool, true, false, cond, List, [], Option, Some, None, Result, Ok, Err, refl, ap, ◌∙◌}
use Rattle.std.specs.Prelude.{nat_lt}
use Rattle.std.specs.List.{find}
use Rattle.octets.specs.declared.parcel.Parcel.{Parcel}
use Rattle.octets.specs.declared.prefix.Prefix6.{Prefix6}
use Rattle.octets.specs.declared.proto.Proto.{Proto}
use Rattle.octets.specs.declared.cause.Cause.{Cause}
use Rattle.octets.specs.declared.cause.Cause.TheVariants.{WrongDestination}
use Rattle.rule_book.specs.Holder.{Holder, holder_of}
use Rattle.frag_table.specs.declared.ask.FragAsk.{FragAsk}
use Rattle.frag_table.specs.declared.answer.FragAnswer.{FragAnswer}
use Rattle.frag_table.specs.declared.answer.FragAnswer.TheVariants.{Noted, Known, Held, Released, Full}
use Rattle.frag_table.specs.Frag.{frag}
use Rattle.nat_model.specs.declared.ask.End4.{End4}
use Rattle.nat_model.specs.declared.ask.Ask.{Ask}
use Rattle.nat_model.specs.declared.ask.Ask.TheVariants.{Outward, Inward, Keep}
use Rattle.nat_model.specs.declared.binding.Binding.{Binding}
use Rattle.nat_model.specs.Binding.{refreshed, kept_until, is_of_host, is_of_port}
use Rattle.nat_model.specs.Claim.{Wish, Bound, bound}
use Rattle.nat_model.specs.Fragment.{Gathered, ports_of, part_of, frag_ask_of}
use Rattle.nat_model.specs.Remote.{Remote, remote}
use Rattle.nat_model.specs.State.{Generation, NatState, NatStep, Moment, holder_at}
use Rattle.nat_model.specs.Machine.{refuses, sent_by, sent_flow, sent_error_by, sent_error, received_by, received, kept_by, keeps, received_from, passed, told, gathered, arrives, held_by, at_time, staying, renewed, timed, with_entry, nat}
use Rattle.std.proofs.lemmas.Bool.{ltb-true, ltb-false}

-- after the first of the seven steps the rules stay
sent_by-book : (h : Holder) (s : NatState) (far : End4) (freed : List Parcel) (o : Option Bound) → (sent_by h s far freed o).after.book ≡ s.book
sent_by-book h s far freed None = refl
sent_by-book h s far freed (Some b) = refl

sent_flow-book : (h : Holder) (s : NatState) (wish : Wish) (far : End4) (freed : List Parcel) → (sent_flow h s wish far freed).after.book ≡ s.book
unfolding sent_flow
sent_flow-book h s wish far freed = sent_by-book h s far freed (bound h s.clock wish (refreshed s.clock) s.bindings)

sent_error_by-book : (h : Holder) (s : NatState) (far : End4) (freed : List Parcel) (o : Option Binding) → (sent_error_by h s far freed o).after.book ≡ s.book
sent_error_by-book h s far freed None = refl
sent_error_by-book h s far freed (Some b) = refl

sent_error-book : (h : Holder) (s : NatState) (wish : Wish) (far : End4) (freed : List Parcel) → (sent_error h s wish far freed).after.book ≡ s.book
unfolding sent_error
sent_error-book h s wish far freed = sent_error_by-book h s far freed (find (is_of_host wish.proto wish.near) s.bindings)

received_by-book : (s after : NatState) (freed : List Parcel) (r : Remote) (o : Option Binding) → after.book ≡ s.book → (received_by s after freed r o).after.book ≡ s.book
received_by-book s after freed r None same = refl
received_by-book s after freed r (Some b) same = same

received-book : (s : NatState) (fault : Bool) (proto : Proto) (g : Gathered) (r : Remote) → (received s fault proto g r).after.book ≡ s.book
unfolding received
received-book s fault proto g r = received_by-book s (with_entry s fault proto g.ports.dst) g.freed r (find (is_of_port proto g.ports.dst) s.bindings) refl

received_from-book : (s : NatState) (fault : Bool) (proto : Proto) (g : Gathered) (r : Result Remote Cause) → (received_from s fault proto g r).after.book ≡ s.book
received_from-book s fault proto g (Err cause) = refl
received_from-book s fault proto g (Ok r) = received-book s fault proto g r

kept_by-book : (s : NatState) (o : Option Bound) → (kept_by s o).after.book ≡ s.book
kept_by-book s None = refl
kept_by-book s (Some b) = refl

keeps-book : (h : Holder) (s : NatState) (wish : Wish) (until : ℕ) → (keeps h s wish until).after.book ≡ s.book
unfolding keeps
keeps-book h s wish until = kept_by-book s (bound h s.clock wish (kept_until until) s.bindings)

passed-book : (h : Holder) (s : NatState) (ask : Ask) (g : Gathered) → (passed h s ask g).after.book ≡ s.book
passed-book h s (Outward true proto near far flags part) g = sent_error-book h s _ _ g.freed
passed-book h s (Outward false proto near far flags part) g = sent_flow-book h s _ _ g.freed
passed-book h s (Inward fault proto port far flags part) g = received_from-book s fault proto g (remote s.book far g.ports.src)
passed-book h s (Keep proto host host_port port until) g = keeps-book h s _ until

told-book : (h : Holder) (s : NatState) (ask : Ask) (answer : FragAnswer) → (told h s ask answer).after.book ≡ s.book
told-book h s ask Noted = passed-book h s ask (record { ports = ports_of ask; freed = [] })
told-book h s ask (Known ports) = passed-book h s ask (record { ports = ports; freed = [] })
told-book h s ask Held = refl
told-book h s ask (Released parcels) = passed-book h s ask (record { ports = ports_of ask; freed = parcels })
told-book h s ask Full = refl

gathered-book : (h : Holder) (s : NatState) (place : ℕ) (ask : Ask) (o : Option FragAsk) → (gathered h s place ask o).after.book ≡ s.book
gathered-book h s place ask None = passed-book h s ask (record { ports = ports_of ask; freed = [] })
gathered-book h s place ask (Some f) = told-book h (record s { notes = (frag (record { clock = s.clock; notes = s.notes }) s.clock place f).after.notes }) ask (frag (record { clock = s.clock; notes = s.notes }) s.clock place f).answer

book_if : (b : Bool) (step : NatStep) (s : NatState) → step.after.book ≡ s.book → (cond b step (refuses s WrongDestination [])).after.book ≡ s.book
book_if true step s same = same
book_if false step s same = refl

held_by-book : (s : NatState) (place : ℕ) (ask : Ask) (o : Option Holder) → (held_by s place ask o).after.book ≡ s.book
held_by-book s place ask None = refl
held_by-book s place ask (Some h) = book_if (arrives h ask) (gathered h s place ask (frag_ask_of (part_of ask) (ports_of ask))) s (gathered-book h s place ask (frag_ask_of (part_of ask) (ports_of ask)))

timed-book : (prefix : Prefix6) (s : NatState) (now place : ℕ) (ask : Ask) → (timed prefix s now place ask).after.book ≡ s.book
unfolding timed at_time
timed-book prefix s now place ask = held_by-book (at_time now s) place ask (holder_at prefix (at_time now s))

renewed-number : (prefix : Prefix6) (seen : Generation) (s : NatState) → (renewed prefix seen s).book.number ≡ max s.book.number seen.number
unfolding renewed
renewed-number prefix seen s = by_test (nat_lt s.book.number seen.number) refl
  where
    by_test : (t : Bool) → nat_lt s.book.number seen.number ≡ t → (cond t (record s { book = seen; bindings = staying (holder_of s.book.rules prefix) (holder_of seen.rules prefix) s.bindings }) s).book.number ≡ max s.book.number seen.number
    by_test true newer = omega (arith, ltb-true s.book.number seen.number newer)
    by_test false older = omega (arith, ltb-false s.book.number seen.number older)

-- a step leaves the greater of the two generations
pub nat-number : (prefix : Prefix6) (s : NatState) (m : Moment) (ask : Ask) → (nat prefix s m ask).after.book.number ≡ max s.book.number m.seen.number
unfolding nat
nat-number prefix s m ask =
    ap (λ (g : Generation). g.number) (timed-book prefix (renewed prefix m.seen s) m.now m.place ask) ∙ renewed-number prefix m.seen s
