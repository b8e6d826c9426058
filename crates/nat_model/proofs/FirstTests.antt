-- The holder and the destination are tested first: no later step refuses for them.
use Rattle.std.proofs.Common.{◌≡◌, ℕ, Bool, true, false, List, [], Option, Some, None, Result, Ok, Err, refl, sym, ap, ◌∙◌, ⊎_elim, ◌↔◌}
use Rattle.std.specs.List.{find}
use Rattle.std.proofs.lemmas.Bool.{cond_both, cases_Bool}
use Rattle.octets.specs.declared.address.Addr4.{Addr4}
use Rattle.octets.specs.declared.cause.Cause.{Cause}
use Rattle.octets.specs.declared.cause.Cause.TheVariants.{NoBasicRule, WrongDestination}
use Rattle.octets.specs.declared.parcel.Parcel.{Parcel}
use Rattle.octets.specs.declared.prefix.Prefix6.{Prefix6}
use Rattle.octets.specs.declared.proto.Proto.{Proto}
use Rattle.rule_book.specs.declared.view.FarOf.{FarOf}
use Rattle.rule_book.specs.declared.view.FarOf.TheVariants.{Addr as FarAddr, Spoofed as FarSpoofed, NotDefault as FarNotDefault}
use Rattle.rule_book.specs.Far.{far_of}
use Rattle.rule_book.specs.Holder.{Holder}
use Rattle.frag_table.specs.declared.ask.FragAsk.{FragAsk}
use Rattle.frag_table.specs.declared.answer.FragAnswer.{FragAnswer}
use Rattle.frag_table.specs.declared.answer.FragAnswer.TheVariants.{Noted, Known, Held, Released, Full}
use Rattle.frag_table.specs.Frag.{frag, FragStep}
use Rattle.nat_model.specs.declared.answer.Answer.{Answer}
use Rattle.nat_model.specs.declared.answer.Answer.TheVariants.{Out, Turn}
use Rattle.nat_model.specs.declared.ask.End4.{End4}
use Rattle.nat_model.specs.declared.ask.Far.{Far}
use Rattle.nat_model.specs.declared.ask.Far.TheVariants.{Six, Turned}
use Rattle.nat_model.specs.declared.ask.Ask.{Ask}
use Rattle.nat_model.specs.declared.ask.Ask.TheVariants.{Outward, Inward, Keep}
use Rattle.nat_model.specs.declared.binding.Binding.{Binding}
use Rattle.nat_model.specs.Binding.{is_of_host, is_of_port, refreshed, kept_until}
use Rattle.nat_model.specs.Claim.{Wish, Bound, bound}
use Rattle.nat_model.specs.Fragment.{Gathered, ports_of, part_of, frag_ask_of}
use Rattle.nat_model.specs.Remote.{Remote, found_behind, behind, both, remote, far_port, reached, is_own, sent}
use Rattle.nat_model.specs.Refusal.{cause_in, settled}
use Rattle.nat_model.specs.State.{Generation, NatState, NatStep, Moment, holder_at}
use Rattle.nat_model.specs.Machine.{refuses, arrives, sent_by, sent_from, sent_flow, sent_error, sent_error_by, received, received_by, with_entry, kept_by, keeps, received_from, passed, told, gathered, held_by, timed, nat}

-- another cause, or none
pub record IsLate (o : Option Cause) : Type 0 where
  pub no_rule : o ≡ Some NoBasicRule → ⊥
  pub destination : o ≡ Some WrongDestination → ⊥

abbrev pub Late : NatStep → Type 0
Late step = IsLate (cause_in step.answer)

none-late : IsLate None
none-late = record { no_rule = λ e. cc; destination = λ e. cc }

-- a cause that remote addresses have
abbrev pub LateResult : {A : Type 0} → Result A Cause → Type 0
LateResult (Ok x) = Unit {0}
LateResult (Err cause) = IsLate (Some cause)

found_behind-late : (f : FarOf) → LateResult (found_behind f)
found_behind-late (FarAddr addr) = tt
found_behind-late FarSpoofed = record { no_rule = λ e. cc; destination = λ e. cc }
found_behind-late FarNotDefault = record { no_rule = λ e. cc; destination = λ e. cc }

behind-late : (book : Generation) (s x : ℕ) → LateResult (behind book s x)
unfolding behind
behind-late book s x = found_behind-late (far_of book.rules book.dmr s x)

both-late : (a b : Result Addr4 Cause) → LateResult a → LateResult b → LateResult (both a b)
both-late (Err cause) b p q = p
both-late (Ok x) (Err cause) p q = q
both-late (Ok x) (Ok y) p q = tt

remote-late : (book : Generation) (far : Far) (x : ℕ) → LateResult (remote book far x)
unfolding remote
remote-late book (Turned dst src peer port) x = tt
remote-late book (Six dst src peer port) x = both-late (behind book src.0 x) (behind book peer.0 x) (behind-late book src.0 x) (behind-late book peer.0 x)

sent-late : (h : Holder) (book : Generation) (outside : ℕ) (far : End4) (freed : List Parcel) → IsLate (cause_in (sent h book outside far freed))
unfolding sent
sent-late h book outside far freed =
    let turn : Answer = Turn (record { 0 = h.addr }) outside freed in
    let out : Answer = Out (record { 0 = h.addr }) outside (record { 0 = h.own6 }) (record { 0 = reached book far.addr.0 far.port }) freed in
    cond_both (is_own h far.addr.0 far.port) turn out (λ a. IsLate (cause_in a)) (λ e. none-late) (λ e. none-late)

sent_from-late : (h : Holder) (s : NatState) (b : Binding) (far : End4) (freed : List Parcel) → IsLate (cause_in (sent_from h s b far freed))
sent_from-late h s b far freed = let to : End4 = record { addr = far.addr; port = far_port b.proto far.port b.port } in sent-late h s.book b.port to freed

sent_by-late : (h : Holder) (s : NatState) (far : End4) (freed : List Parcel) (o : Option Bound) → Late (sent_by h s far freed o)
sent_by-late h s far freed None = record { no_rule = λ e. cc; destination = λ e. cc }
sent_by-late h s far freed (Some b) = sent_from-late h s b.binding far freed

sent_flow-late : (h : Holder) (s : NatState) (wish : Wish) (far : End4) (freed : List Parcel) → Late (sent_flow h s wish far freed)
unfolding sent_flow
sent_flow-late h s wish far freed = sent_by-late h s far freed (bound h s.clock wish (refreshed s.clock) s.bindings)

sent_error_by-late : (h : Holder) (s : NatState) (far : End4) (freed : List Parcel) (o : Option Binding) → Late (sent_error_by h s far freed o)
sent_error_by-late h s far freed None = record { no_rule = λ e. cc; destination = λ e. cc }
sent_error_by-late h s far freed (Some b) = sent_from-late h s b far freed

sent_error-late : (h : Holder) (s : NatState) (wish : Wish) (far : End4) (freed : List Parcel) → Late (sent_error h s wish far freed)
unfolding sent_error
sent_error-late h s wish far freed = sent_error_by-late h s far freed (find (is_of_host wish.proto wish.near) s.bindings)

received_by-late : (s after : NatState) (freed : List Parcel) (r : Remote) (o : Option Binding) → Late (received_by s after freed r o)
received_by-late s after freed r None = record { no_rule = λ e. cc; destination = λ e. cc }
received_by-late s after freed r (Some b) = none-late

received-late : (s : NatState) (fault : Bool) (proto : Proto) (g : Gathered) (r : Remote) → Late (received s fault proto g r)
unfolding received
received-late s fault proto g r = received_by-late s (with_entry s fault proto g.ports.dst) g.freed r (find (is_of_port proto g.ports.dst) s.bindings)

received_from-late : (s : NatState) (fault : Bool) (proto : Proto) (g : Gathered) (r : Result Remote Cause) → LateResult r → Late (received_from s fault proto g r)
received_from-late s fault proto g (Err cause) late = late
received_from-late s fault proto g (Ok r) late = received-late s fault proto g r

kept_by-late : (s : NatState) (o : Option Bound) → Late (kept_by s o)
kept_by-late s None = record { no_rule = λ e. cc; destination = λ e. cc }
kept_by-late s (Some b) = none-late

keeps-late : (h : Holder) (s : NatState) (wish : Wish) (until : ℕ) → Late (keeps h s wish until)
unfolding keeps
keeps-late h s wish until = kept_by-late s (bound h s.clock wish (kept_until until) s.bindings)

passed-late : (h : Holder) (s : NatState) (ask : Ask) (g : Gathered) → Late (passed h s ask g)
passed-late h s (Outward fault proto near far flags part) g =
    let from : End4 = record { addr = near.addr; port = g.ports.src } in
    let wish : Wish = record { proto = proto; near = from; port = g.ports.src } in
    let to : End4 = record { addr = far.addr; port = g.ports.dst } in
    cond_both fault (sent_error h s wish to g.freed) (sent_flow h s wish to g.freed) Late (λ e. sent_error-late h s wish to g.freed) (λ e. sent_flow-late h s wish to g.freed)
passed-late h s (Inward fault proto port far flags part) g = received_from-late s fault proto g (remote s.book far g.ports.src) (remote-late s.book far g.ports.src)
passed-late h s (Keep proto host host_port port until) g =
    let near : End4 = record { addr = host; port = host_port } in
    let wish : Wish = record { proto = proto; near = near; port = port } in
    keeps-late h s wish until

told-late : (h : Holder) (s : NatState) (ask : Ask) (answer : FragAnswer) → Late (told h s ask answer)
told-late h s ask Noted = passed-late h s ask (record { ports = ports_of ask; freed = [] })
told-late h s ask (Known ports) = passed-late h s ask (record { ports = ports; freed = [] })
told-late h s ask Held = none-late
told-late h s ask (Released parcels) = passed-late h s ask (record { ports = ports_of ask; freed = parcels })
told-late h s ask Full = record { no_rule = λ e. cc; destination = λ e. cc }

gathered-late : (h : Holder) (s : NatState) (place : ℕ) (ask : Ask) (o : Option FragAsk) → Late (gathered h s place ask o)
gathered-late h s place ask None = passed-late h s ask (record { ports = ports_of ask; freed = [] })
gathered-late h s place ask (Some f) =
    let step : FragStep = frag (record { clock = s.clock; notes = s.notes }) s.clock place f in
    told-late h (record s { notes = step.after.notes }) ask step.answer

-- where the edge holds something, no rule is missing
held-rule : (s : NatState) (place : ℕ) (ask : Ask) (h : Holder) → cause_in (held_by s place ask (Some h)).answer ≡ Some NoBasicRule → ⊥
held-rule s place ask h e =
    let P : NatStep → Type 0 = λ step. cause_in step.answer ≡ Some NoBasicRule → ⊥ in
    cond_both (arrives h ask) (gathered h s place ask (frag_ask_of (part_of ask) (ports_of ask))) (refuses s WrongDestination []) P
    (λ y. (gathered-late h s place ask (frag_ask_of (part_of ask) (ports_of ask))).no_rule) (λ n f. cc) e

pub rule-exactly : (s : NatState) (place : ℕ) (ask : Ask) (o : Option Holder) → cause_in (held_by s place ask o).answer ≡ Some NoBasicRule → o ≡ None
rule-exactly s place ask None e = refl
rule-exactly s place ask (Some h) e = absurd (held-rule s place ask h e)

pub no_rule : (prefix : Prefix6) (s : NatState) (m : Moment) (ask : Ask) → cause_in (nat prefix s m ask).answer ≡ Some NoBasicRule ↔ holder_at prefix (settled prefix s m) ≡ None
unfolding nat timed
no_rule prefix s m ask =
    let t : NatState = settled prefix s m in
    (rule-exactly t m.place ask (holder_at prefix t), λ e. ap (λ o. cause_in (held_by t m.place ask o).answer) e)

-- the destination
away : (s : NatState) (place : ℕ) (ask : Ask) (h : Holder) → arrives h ask ≡ false → cause_in (held_by s place ask (Some h)).answer ≡ Some WrongDestination
away s place ask h n = rw n refl

here : (s : NatState) (place : ℕ) (ask : Ask) (h : Holder) → cause_in (held_by s place ask (Some h)).answer ≡ Some WrongDestination → arrives h ask ≡ false
here s place ask h e =
    ⊎_elim
    (λ (y : arrives h ask ≡ true).
    let P : NatStep → Type 0 = λ step. cause_in step.answer ≡ Some WrongDestination in
    let go : NatStep = gathered h s place ask (frag_ask_of (part_of ask) (ports_of ask)) in
    let same : held_by s place ask (Some h) ≡ go = rw y refl in
    absurd ((gathered-late h s place ask (frag_ask_of (part_of ask) (ports_of ask))).destination (ap (λ (step : NatStep). cause_in step.answer) (sym same) ∙ e)))
    (λ (n : arrives h ask ≡ false). n)
    (cases_Bool (arrives h ask))

pub destination : (prefix : Prefix6) (s : NatState) (m : Moment) (ask : Ask) (h : Holder) → holder_at prefix (settled prefix s m) ≡ Some h → cause_in (nat prefix s m ask).answer ≡ Some WrongDestination ↔ arrives h ask ≡ false
unfolding nat timed
destination prefix s m ask h e =
    let t : NatState = settled prefix s m in
    let same = ap (λ o. cause_in (held_by t m.place ask o).answer) e in
    (λ f. here t m.place ask h (sym same ∙ f), λ n. same ∙ away t m.place ask h n)
