-- Each ask has an answer of its kind.
use Rattle.std.proofs.Common.{◌≡◌, ℕ, Bool, false, not, List, [], Option, Some, None, Result, Ok, Err, refl, sym, ap, ◌∙◌, subst, arith, ⊎_elim}
use Rattle.std.specs.List.{find}
use Rattle.std.proofs.lemmas.Bool.{cond_both}
use Rattle.octets.specs.declared.address.Addr4.{Addr4}
use Rattle.octets.specs.declared.cause.Cause.{Cause}
use Rattle.octets.specs.declared.cause.Cause.TheVariants.{NoBasicRule, WrongDestination, FragmentsFull, Spoofed, NotDefault, NoBinding, NoPort}
use Rattle.octets.specs.declared.parcel.Parcel.{Parcel}
use Rattle.octets.specs.declared.prefix.Prefix6.{Prefix6}
use Rattle.octets.specs.declared.proto.Proto.{Proto}
use Rattle.l4_headers.specs.declared.ports.Ports.{Ports}
use Rattle.rule_book.specs.declared.view.FarOf.{FarOf}
use Rattle.rule_book.specs.declared.view.FarOf.TheVariants.{Addr as FarAddr, Spoofed as FarSpoofed, NotDefault as FarNotDefault}
use Rattle.rule_book.specs.Far.{far_of}
use Rattle.rule_book.specs.Holder.{Holder}
use Rattle.frag_table.specs.declared.ask.FragAsk.{FragAsk}
use Rattle.frag_table.specs.declared.ask.FragAsk.TheVariants.{First as FirstAsk, Later as LaterAsk}
use Rattle.frag_table.specs.declared.answer.FragAnswer.{FragAnswer}
use Rattle.frag_table.specs.declared.answer.FragAnswer.TheVariants.{Noted, Known, Held, Released, Full}
use Rattle.frag_table.specs.Frag.{frag, FragStep, freed_by}
use Rattle.frag_table.specs.Kind.{IsFragAnswerTo}
use Rattle.frag_table.specs.State.{FragState}
use Rattle.frag_table.proofs.AnswerKinds.{frag-kind}
use Rattle.nat_model.specs.declared.answer.Answer.{Answer}
use Rattle.nat_model.specs.declared.answer.Answer.TheVariants.{Out, Turn, In, Kept, Held as HeldBack, Refused}
use Rattle.nat_model.specs.declared.ask.End4.{End4}
use Rattle.nat_model.specs.declared.ask.Far.{Far}
use Rattle.nat_model.specs.declared.ask.Far.TheVariants.{Six, Turned}
use Rattle.nat_model.specs.declared.ask.Part.{Part}
use Rattle.nat_model.specs.declared.ask.Part.TheVariants.{Whole, First, Later}
use Rattle.nat_model.specs.declared.ask.Ask.{Ask}
use Rattle.nat_model.specs.declared.ask.Ask.TheVariants.{Outward, Inward, Keep}
use Rattle.nat_model.specs.declared.binding.Binding.{Binding}
use Rattle.nat_model.specs.Binding.{is_of_host, is_of_port, refreshed, kept_until}
use Rattle.nat_model.specs.Claim.{Wish, Bound, bound}
use Rattle.nat_model.specs.Fragment.{Gathered, ports_of, part_of, frag_ask_of}
use Rattle.nat_model.specs.Kind.{IsMachineCause, IsAnswerTo, IsFirst, IsLater, IsFragment, IsInward, IsFromAccess, NeedsBinding, MayClaim, MayRefuse}
use Rattle.nat_model.specs.Remote.{Remote, found_behind, behind, both, remote, far_port, reached, is_own, sent}
use Rattle.nat_model.specs.Refusal.{cause_in, settled}
use Rattle.nat_model.specs.State.{Generation, NatState, NatStep, Moment, holder_at}
use Rattle.nat_model.specs.Machine.{refuses, arrives, sent_by, sent_from, sent_flow, sent_error, sent_error_by, received, received_by, with_entry, kept_by, keeps, received_from, passed, told, gathered, held_by, timed, nat}
use Rattle.nat_model.specs.Waiting.{freed_of, FreesAtMost}
use Rattle.nat_model.proofs.Freed.{fragment_frees, nat-frees}

abbrev IsOutward : Ask → Type 0
IsOutward (Outward fault proto near far flags part) = Unit {0}
IsOutward (Inward fault proto port far flags part) = ⊥
IsOutward (Keep proto host host_port port until) = ⊥

abbrev IsKeep : Ask → Type 0
IsKeep (Outward fault proto near far flags part) = ⊥
IsKeep (Inward fault proto port far flags part) = ⊥
IsKeep (Keep proto host host_port port until) = Unit {0}

-- an answer that the ask may have, with its cause
abbrev pub Fits : Ask → Answer → Type 0
Fits ask (Out from port src6 dst6 freed) = IsOutward ask
Fits ask (Turn from port freed) = IsOutward ask
Fits ask (In to port from peer freed) = IsInward ask
Fits ask (Kept port until) = IsKeep ask
Fits ask HeldBack = IsLater (part_of ask)
Fits ask (Refused cause freed) = MayRefuse cause ask

-- remote addresses, or a cause that the ask may have
abbrev FarFits : {A : Type 0} → Ask → Result A Cause → Type 0
FarFits ask (Ok x) = Unit {0}
FarFits ask (Err cause) = MayRefuse cause ask

module _ (ask : Ask) where
  found_behind-fits : IsFromAccess ask → (f : FarOf) → FarFits ask (found_behind f)
  found_behind-fits access (FarAddr addr) = tt
  found_behind-fits access FarSpoofed = access
  found_behind-fits access FarNotDefault = access

  behind-fits : IsFromAccess ask → (book : Generation) (s x : ℕ) → FarFits ask (behind book s x)
  unfolding behind
  behind-fits access book s x = found_behind-fits access (far_of book.rules book.dmr s x)

  both-fits : (a b : Result Addr4 Cause) → FarFits ask a → FarFits ask b → FarFits ask (both a b)
  both-fits (Err cause) b p q = p
  both-fits (Ok x) (Err cause) p q = q
  both-fits (Ok x) (Ok y) p q = tt

  six-fits : IsFromAccess ask → (book : Generation) (s peer x : ℕ) → FarFits ask (both (behind book s x) (behind book peer x))
  six-fits access book s peer x = both-fits (behind book s x) (behind book peer x) (behind-fits access book s x) (behind-fits access book peer x)

  sent-fits : IsOutward ask → (h : Holder) (book : Generation) (outside : ℕ) (far : End4) (freed : List Parcel) → Fits ask (sent h book outside far freed)
  unfolding sent
  sent-fits is h book outside far freed =
      let turn : Answer = Turn (record { 0 = h.addr }) outside freed in
      let out : Answer = Out (record { 0 = h.addr }) outside (record { 0 = h.own6 }) (record { 0 = reached book far.addr.0 far.port }) freed in
      cond_both (is_own h far.addr.0 far.port) turn out (Fits ask) (λ e. is) (λ e. is)

  sent_from-fits : IsOutward ask → (h : Holder) (s : NatState) (b : Binding) (far : End4) (freed : List Parcel) → Fits ask (sent_from h s b far freed)
  sent_from-fits is h s b far freed = let to : End4 = record { addr = far.addr; port = far_port b.proto far.port b.port } in sent-fits is h s.book b.port to freed

  sent_by-fits : IsOutward ask → MayClaim ask → (h : Holder) (s : NatState) (far : End4) (freed : List Parcel) (o : Option Bound) → Fits ask (sent_by h s far freed o).answer
  sent_by-fits is claims h s far freed None = claims
  sent_by-fits is claims h s far freed (Some b) = sent_from-fits is h s b.binding far freed

  sent_flow-fits : IsOutward ask → MayClaim ask → (h : Holder) (s : NatState) (wish : Wish) (far : End4) (freed : List Parcel) → Fits ask (sent_flow h s wish far freed).answer
  unfolding sent_flow
  sent_flow-fits is claims h s wish far freed = sent_by-fits is claims h s far freed (bound h s.clock wish (refreshed s.clock) s.bindings)

  sent_error_by-fits : IsOutward ask → NeedsBinding ask → (h : Holder) (s : NatState) (far : End4) (freed : List Parcel) (o : Option Binding) → Fits ask (sent_error_by h s far freed o).answer
  sent_error_by-fits is needs h s far freed None = needs
  sent_error_by-fits is needs h s far freed (Some b) = sent_from-fits is h s b far freed

  sent_error-fits : IsOutward ask → NeedsBinding ask → (h : Holder) (s : NatState) (wish : Wish) (far : End4) (freed : List Parcel) → Fits ask (sent_error h s wish far freed).answer
  unfolding sent_error
  sent_error-fits is needs h s wish far freed = sent_error_by-fits is needs h s far freed (find (is_of_host wish.proto wish.near) s.bindings)

  received_by-fits : IsInward ask → NeedsBinding ask → (s after : NatState) (freed : List Parcel) (r : Remote) (o : Option Binding) → Fits ask (received_by s after freed r o).answer
  received_by-fits is needs s after freed r None = needs
  received_by-fits is needs s after freed r (Some b) = is

  received-fits : IsInward ask → NeedsBinding ask → (s : NatState) (fault : Bool) (proto : Proto) (g : Gathered) (r : Remote) → Fits ask (received s fault proto g r).answer
  unfolding received
  received-fits is needs s fault proto g r = received_by-fits is needs s (with_entry s fault proto g.ports.dst) g.freed r (find (is_of_port proto g.ports.dst) s.bindings)

  received_from-fits : IsInward ask → NeedsBinding ask → (s : NatState) (fault : Bool) (proto : Proto) (g : Gathered) (r : Result Remote Cause) → FarFits ask r → Fits ask (received_from s fault proto g r).answer
  received_from-fits is needs s fault proto g (Err cause) fits = fits
  received_from-fits is needs s fault proto g (Ok r) fits = received-fits is needs s fault proto g r

  kept_by-fits : IsKeep ask → MayClaim ask → (s : NatState) (o : Option Bound) → Fits ask (kept_by s o).answer
  kept_by-fits is claims s None = claims
  kept_by-fits is claims s (Some b) = is

  keeps-fits : IsKeep ask → MayClaim ask → (h : Holder) (s : NatState) (wish : Wish) (until : ℕ) → Fits ask (keeps h s wish until).answer
  unfolding keeps
  keeps-fits is claims h s wish until = kept_by-fits is claims s (bound h s.clock wish (kept_until until) s.bindings)

-- the remote addresses of an inward packet
remote-fits : (fault : Bool) (proto : Proto) (port flags : ℕ) (far : Far) (part : Part) (book : Generation) (x : ℕ) → FarFits (Inward fault proto port far flags part) (remote book far x)
unfolding remote
remote-fits fault proto port flags (Six dst src peer away) part book x = six-fits (Inward fault proto port (Six dst src peer away) flags part) tt book src.0 peer.0 x
remote-fits fault proto port flags (Turned dst src peer away) part book x = tt

passed-fits : (h : Holder) (s : NatState) (ask : Ask) (g : Gathered) → Fits ask (passed h s ask g).answer
passed-fits h s (Outward fault proto near far flags part) g =
    let ask : Ask = Outward fault proto near far flags part in
    let from : End4 = record { addr = near.addr; port = g.ports.src } in
    let wish : Wish = record { proto = proto; near = from; port = g.ports.src } in
    let to : End4 = record { addr = far.addr; port = g.ports.dst } in
    cond_both fault (sent_error h s wish to g.freed) (sent_flow h s wish to g.freed) (λ (step : NatStep). Fits ask step.answer)
    (λ e. sent_error-fits ask tt e h s wish to g.freed) (λ e. sent_flow-fits ask tt (ap not e) h s wish to g.freed)
passed-fits h s (Inward fault proto port far flags part) g =
    received_from-fits (Inward fault proto port far flags part) tt tt s fault proto g (remote s.book far g.ports.src) (remote-fits fault proto port flags far part s.book g.ports.src)
passed-fits h s (Keep proto host host_port port until) g =
    let near : End4 = record { addr = host; port = host_port } in
    let wish : Wish = record { proto = proto; near = near; port = port } in
    keeps-fits (Keep proto host host_port port until) tt tt h s wish until

-- what a fragment step of the ask may answer
abbrev FragFits : Ask → FragAnswer → Type 0
FragFits ask Noted = Unit {0}
FragFits ask (Known ports) = Unit {0}
FragFits ask Held = IsLater (part_of ask)
FragFits ask (Released parcels) = Unit {0}
FragFits ask Full = IsFragment (part_of ask)

told-fits : (h : Holder) (s : NatState) (ask : Ask) (answer : FragAnswer) → FragFits ask answer → Fits ask (told h s ask answer).answer
told-fits h s ask Noted fits = passed-fits h s ask (record { ports = ports_of ask; freed = [] })
told-fits h s ask (Known ports) fits = passed-fits h s ask (record { ports = ports; freed = [] })
told-fits h s ask Held fits = fits
told-fits h s ask (Released parcels) fits = passed-fits h s ask (record { ports = ports_of ask; freed = parcels })
told-fits h s ask Full fits = fits

gathered-fits : (h : Holder) (s : NatState) (place : ℕ) (ask : Ask) (o : Option FragAsk) → ((f : FragAsk) (t : FragState) (now : ℕ) → o ≡ Some f → FragFits ask (frag t now place f).answer) → Fits ask (gathered h s place ask o).answer
gathered-fits h s place ask None fits = passed-fits h s ask (record { ports = ports_of ask; freed = [] })
gathered-fits h s place ask (Some f) fits =
    let t : FragState = record { clock = s.clock; notes = s.notes } in
    let step : FragStep = frag t s.clock place f in
    told-fits h (record s { notes = step.after.notes }) ask step.answer (fits f t s.clock refl)

first-answers : (ask : Ask) (key : FragAsk) (answer : FragAnswer) → IsFragment (part_of ask) → ((ports : Ports) → IsFragAnswerTo key Held → IsLater (part_of ask)) → IsFragAnswerTo key answer → FragFits ask answer
first-answers ask key Noted fragment later kind = tt
first-answers ask key (Known ports) fragment later kind = tt
first-answers ask key Held fragment later kind = later (record { src = 0; dst = 0 }) kind
first-answers ask key (Released parcels) fragment later kind = tt
first-answers ask key Full fragment later kind = fragment

-- a fragment's step, by the part that is asked about
part-answers : (ask : Ask) (part : Part) (f : FragAsk) (t : FragState) (now place : ℕ) → part_of ask ≡ part → frag_ask_of part (ports_of ask) ≡ Some f → FragFits ask (frag t now place f).answer
part-answers ask Whole f t now place is e = absurd (cc)
part-answers ask (First key) f t now place is e =
    let P : Part → Type 0 = IsFragment in
    let same : FirstAsk key (ports_of ask) ≡ f = cc in
    let Q : FragAsk → Type 0 = λ g. FragFits ask (frag t now place g).answer in
    subst Q same (first-answers ask (FirstAsk key (ports_of ask)) (frag t now place (FirstAsk key (ports_of ask))).answer (subst P (sym is) tt) (λ ports kind. absurd kind) (frag-kind t now place (FirstAsk key (ports_of ask))))
part-answers ask (Later key octets) f t now place is e =
    let P : Part → Type 0 = IsFragment in
    let L : Part → Type 0 = IsLater in
    let same : LaterAsk key octets ≡ f = cc in
    let Q : FragAsk → Type 0 = λ g. FragFits ask (frag t now place g).answer in
    subst Q same (first-answers ask (LaterAsk key octets) (frag t now place (LaterAsk key octets)).answer (subst P (sym is) tt) (λ ports kind. subst L (sym is) tt) (frag-kind t now place (LaterAsk key octets)))

inward-only : (h : Holder) (ask : Ask) → arrives h ask ≡ false → IsInward ask
inward-only h (Outward fault proto near far flags part) e = absurd (cc)
inward-only h (Inward fault proto port far flags part) e = tt
inward-only h (Keep proto host host_port port until) e = absurd (cc)

held_by-fits : (s : NatState) (place : ℕ) (ask : Ask) (o : Option Holder) → Fits ask (held_by s place ask o).answer
held_by-fits s place ask None = tt
held_by-fits s place ask (Some h) =
    let here : NatStep = gathered h s place ask (frag_ask_of (part_of ask) (ports_of ask)) in
    cond_both (arrives h ask) here (refuses s WrongDestination []) (λ (step : NatStep). Fits ask step.answer)
    (λ e. gathered-fits h s place ask (frag_ask_of (part_of ask) (ports_of ask)) (λ f t now is. part-answers ask (part_of ask) f t now place refl is)) (inward-only h ask)

pub nat-fits : (prefix : Prefix6) (s : NatState) (m : Moment) (ask : Ask) → Fits ask (nat prefix s m ask).answer
unfolding nat timed
nat-fits prefix s m ask = let t : NatState = settled prefix s m in held_by-fits t m.place ask (holder_at prefix t)

machine_cause : (cause : Cause) (ask : Ask) → MayRefuse cause ask → IsMachineCause cause
machine_cause NoBasicRule ask may = (omega arith, omega arith)
machine_cause WrongDestination ask may = (omega arith, omega arith)
machine_cause FragmentsFull ask may = (omega arith, omega arith)
machine_cause Spoofed ask may = (omega arith, omega arith)
machine_cause NotDefault ask may = (omega arith, omega arith)
machine_cause NoBinding ask may = (omega arith, omega arith)
machine_cause NoPort ask may = (omega arith, omega arith)
machine_cause _ ask may = absurd may

of_kind : (ask : Ask) (answer : Answer) → Fits ask answer → IsAnswerTo ask answer
of_kind (Outward fault proto near far flags part) (Out from port src6 dst6 freed) fits = tt
of_kind (Outward fault proto near far flags part) (Turn from port freed) fits = tt
of_kind (Outward fault proto near far flags part) (In to port from peer freed) fits = fits
of_kind (Outward fault proto near far flags part) (Kept port until) fits = fits
of_kind (Outward fault proto near far flags part) HeldBack fits = tt
of_kind (Outward fault proto near far flags part) (Refused cause freed) fits = machine_cause cause (Outward fault proto near far flags part) fits
of_kind (Inward fault proto at far flags part) (Out from port src6 dst6 freed) fits = fits
of_kind (Inward fault proto at far flags part) (Turn from port freed) fits = fits
of_kind (Inward fault proto at far flags part) (In to port from peer freed) fits = tt
of_kind (Inward fault proto at far flags part) (Kept port until) fits = fits
of_kind (Inward fault proto at far flags part) HeldBack fits = tt
of_kind (Inward fault proto at far flags part) (Refused cause freed) fits = machine_cause cause (Inward fault proto at far flags part) fits
of_kind (Keep proto host host_port at end) (Out from port src6 dst6 freed) fits = fits
of_kind (Keep proto host host_port at end) (Turn from port freed) fits = fits
of_kind (Keep proto host host_port at end) (In to port from peer freed) fits = fits
of_kind (Keep proto host host_port at end) (Kept port until) fits = tt
of_kind (Keep proto host host_port at end) HeldBack fits = fits
of_kind (Keep proto host host_port at end) (Refused cause freed) fits = machine_cause cause (Keep proto host host_port at end) fits

pub nat-kind : (prefix : Prefix6) (s : NatState) (m : Moment) (ask : Ask) → IsAnswerTo ask (nat prefix s m ask).answer
nat-kind prefix s m ask = of_kind ask (nat prefix s m ask).answer (nat-fits prefix s m ask)

refused : (ask : Ask) (answer : Answer) (cause : Cause) → Fits ask answer → cause_in answer ≡ Some cause → MayRefuse cause ask
refused ask (Out from port src6 dst6 freed) cause fits e = absurd (cc)
refused ask (Turn from port freed) cause fits e = absurd (cc)
refused ask (In to port from peer freed) cause fits e = absurd (cc)
refused ask (Kept port until) cause fits e = absurd (cc)
refused ask HeldBack cause fits e = absurd (cc)
refused ask (Refused other freed) cause fits e =
    let same : other ≡ cause = cc in
    let P : Cause → Type 0 = λ c. MayRefuse c ask in
    subst P same fits

pub nat-cause : (prefix : Prefix6) (s : NatState) (m : Moment) (ask : Ask) (cause : Cause) → cause_in (nat prefix s m ask).answer ≡ Some cause → MayRefuse cause ask
nat-cause prefix s m ask cause e = refused ask (nat prefix s m ask).answer cause (nat-fits prefix s m ask) e

pub nat-held : (prefix : Prefix6) (s : NatState) (m : Moment) (ask : Ask) → (nat prefix s m ask).answer ≡ HeldBack → IsLater (part_of ask)
nat-held prefix s m ask e = let P : Answer → Type 0 = Fits ask in subst P e (nat-fits prefix s m ask)

-- only a first fragment frees
pub freed-first : (answer : FragAnswer) (key : FragAsk) → IsFragAnswerTo key answer → ((parcels : List Parcel) → ¬ IsFragAnswerTo key (Released parcels)) → freed_by answer ≡ []
freed-first Noted key kind never = refl
freed-first (Known ports) key kind never = refl
freed-first Held key kind never = refl
freed-first (Released parcels) key kind never = absurd (never parcels kind)
freed-first Full key kind never = refl

pub freeing : (part : Part) (ports : Ports) (answer : Answer) (t : FragState) (now place : ℕ) → FreesAtMost (fragment_frees now t.notes place (frag_ask_of part ports)) answer → ¬ (freed_of answer ≡ []) → IsFirst part
freeing Whole ports answer t now place frees some = ⊎_elim (λ (none : freed_of answer ≡ []). some none) (λ (none : freed_of answer ≡ []). some none) frees
freeing (First key) ports answer t now place frees some = tt
freeing (Later key octets) ports answer t now place frees some =
    let here : FragState = record { clock = now; notes = t.notes } in
    let f : FragAsk = LaterAsk key octets in
    let none = freed-first (frag here now place f).answer f (frag-kind here now place f) (λ parcels kind. kind) in
    ⊎_elim (λ (n : freed_of answer ≡ []). some n) (λ (n : freed_of answer ≡ freed_by (frag here now place f).answer). some (n ∙ none)) frees

pub nat-first : (prefix : Prefix6) (s : NatState) (m : Moment) (ask : Ask) → ¬ (freed_of (nat prefix s m ask).answer ≡ []) → IsFirst (part_of ask)
nat-first prefix s m ask some =
    let t : FragState = record { clock = s.clock; notes = s.notes } in
    freeing (part_of ask) (ports_of ask) (nat prefix s m ask).answer t _ m.place (nat-frees prefix s m ask) some
