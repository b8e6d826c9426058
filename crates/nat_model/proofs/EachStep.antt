-- Each state of the machine has sound bindings.
use Rattle.std.proofs.Common.{◌≡◌, ℕ, ◌<◌, Bool, true, max, nat_lt, IsTrue, List, [], Option, Some, None, Result, Ok, Err, refl, sym, ap, ◌∙◌, subst, arith, ◌==◌}
use Rattle.std.specs.List.{filter, find}
use Rattle.std.proofs.lemmas.Bool.{cond_both, and_parts, eqb-true, lt-ltb}
use Rattle.std.proofs.lemmas.List.Elements.{All-filter, filter_passes, All-weaker}
use Rattle.std.proofs.lemmas.List.Kept.{AllPairs-filter}
use Rattle.octets.specs.declared.cause.Cause.{Cause}
use Rattle.octets.specs.declared.cause.Cause.TheVariants.{WrongDestination}
use Rattle.octets.specs.declared.parcel.Parcel.{Parcel}
use Rattle.octets.specs.declared.prefix.Prefix6.{Prefix6}
use Rattle.octets.specs.declared.proto.Proto.{Proto}
use Rattle.port_set.specs.PortSet.{is_claimable}
use Rattle.rule_book.specs.Holder.{Holder, holder_of}
use Rattle.frag_table.specs.declared.ask.FragAsk.{FragAsk}
use Rattle.frag_table.specs.declared.answer.FragAnswer.{FragAnswer}
use Rattle.frag_table.specs.declared.answer.FragAnswer.TheVariants.{Noted, Known, Held, Released, Full}
use Rattle.frag_table.specs.Frag.{frag, FragStep}
use Rattle.nat_model.specs.declared.ask.End4.{End4}
use Rattle.nat_model.specs.declared.ask.Ask.{Ask}
use Rattle.nat_model.specs.declared.ask.Ask.TheVariants.{Outward, Inward, Keep}
use Rattle.nat_model.specs.declared.binding.Binding.{Binding}
use Rattle.nat_model.specs.Binding.{is_of_host, is_of_port, is_unexpired, is_claimable_by, outlives, refreshed, entered, kept_until}
use Rattle.nat_model.specs.Claim.{Wish, Bound, bound}
use Rattle.nat_model.specs.Fragment.{Gathered, ports_of, part_of, frag_ask_of}
use Rattle.nat_model.specs.Remote.{Remote, remote}
use Rattle.std.specs.Prelude.{OnOk, OnErr}
use Rattle.map_rules.specs.declared.rule.Rule.{Rule}
use Rattle.map_rules.specs.declared.dmr.Dmr.{Dmr}
use Rattle.rule_book.specs.declared.book.Book.{Book}
use Rattle.rule_book.specs.Book.{rules_of, dmr_of, generation_of}
use Rattle.nat_model.specs.State.{Generation, NatState, NatStep, NatMachine, Moment, holder_at, state_at, generation_in}
use Rattle.nat_model.specs.Machine.{refuses, same_holding, staying, renewed, at_time, arrives, sent_by, sent_flow, sent_error, sent_error_by, received, received_by, with_entry, kept_by, keeps, received_from, passed, told, gathered, held_by, timed, nat}
use Rattle.nat_model.specs.Sound.{AreApart, AreClaimable, AreSound, IsSound}
use Rattle.nat_model.proofs.Soundness.{SoundBound, bound-sound, changed-sound, refreshed-keeps, kept-keeps, entered-keeps}

-- a filter keeps bindings sound
pub filtered-claimable : (o : Option Holder) (test : Binding → Bool) (bs : List Binding) → AreClaimable o bs → AreClaimable o (filter test bs)
filtered-claimable None test bs e = ap (filter test) e
filtered-claimable (Some h) test bs all = All-filter test (λ b. IsTrue (is_claimable_by h b.port)) bs all

pub filtered-sound : (o : Option Holder) (test : Binding → Bool) (bs : List Binding) → AreSound o bs → AreSound o (filter test bs)
filtered-sound o test bs sound =
    record { apart = AllPairs-filter AreApart test bs sound.apart; claimable = filtered-claimable o test bs sound.claimable }

-- those that outlive a change may be claimed
pub outliving-sound : (old : Option Holder) (h : Holder) (bs : List Binding) → AreSound old bs → AreSound (Some h) (filter (outlives h) bs)
outliving-sound old h bs sound =
    record {
      apart = AllPairs-filter AreApart (outlives h) bs sound.apart;
      claimable = All-weaker (λ b. outlives h b ≡ true) (λ b. IsTrue (is_claimable_by h b.port)) (λ b e. (and_parts b.kept _ e).1) (filter (outlives h) bs) (filter_passes (outlives h) bs);
    }

-- two holders that hold the same may claim the same
pub same-claimable : (g h : Holder) (x : ℕ) → same_holding g h ≡ true → IsTrue (is_claimable_by g x) → IsTrue (is_claimable_by h x)
same-claimable g h x e claims =
    let one = and_parts (g.addr == h.addr) _ e in
    let two = and_parts (g.offset == h.offset) _ one.1 in
    let three = and_parts (g.psid_length == h.psid_length) _ two.1 in
    let a : g.offset ≡ h.offset = eqb-true _ _ two.0 in
    let k : g.psid_length ≡ h.psid_length = eqb-true _ _ three.0 in
    let v : g.psid ≡ h.psid = eqb-true _ _ three.1 in
    let A : ℕ → Type 0 = λ n. IsTrue (is_claimable n g.psid_length g.psid x) in
    let K : ℕ → Type 0 = λ n. IsTrue (is_claimable h.offset n g.psid x) in
    let V : ℕ → Type 0 = λ n. IsTrue (is_claimable h.offset h.psid_length n x) in
    subst V v (subst K k (subst A a claims))

pub staying-sound : (old new : Option Holder) (bs : List Binding) → AreSound old bs → AreSound new (staying old new bs)
unfolding staying
staying-sound old None bs sound = record { apart = λ i j d lt within. absurd (omega arith); claimable = refl }
staying-sound None (Some h) bs sound = outliving-sound None h bs sound
staying-sound (Some g) (Some h) bs sound =
    let same = λ (e : same_holding g h ≡ true). let P : Binding → Type 0 = λ b. IsTrue (is_claimable_by g b.port) in let Q : Binding → Type 0 = λ b. IsTrue (is_claimable_by h b.port) in let r : AreSound (Some h) bs = record { apart = sound.apart; claimable = All-weaker P Q (λ b. same-claimable g h b.port e) bs sound.claimable } in r in
    cond_both (same_holding g h) bs (filter (outlives h) bs) (AreSound (Some h)) same (λ e. outliving-sound (Some g) h bs sound)

pub renewed-sound : (prefix : Prefix6) (seen : Generation) (s : NatState) → IsSound prefix s → IsSound prefix (renewed prefix seen s)
unfolding renewed
renewed-sound prefix seen s sound =
    let new : NatState = record s { book = seen; bindings = staying (holder_of s.book.rules prefix) (holder_of seen.rules prefix) s.bindings } in
    cond_both (nat_lt s.book.number seen.number) new s (IsSound prefix) (λ e. staying-sound (holder_of s.book.rules prefix) (holder_of seen.rules prefix) s.bindings sound) (λ e. sound)

pub at_time-sound : (prefix : Prefix6) (now : ℕ) (s : NatState) → IsSound prefix s → IsSound prefix (at_time now s)
unfolding at_time
at_time-sound prefix now s sound = filtered-sound (holder_at prefix s) (is_unexpired (max s.clock now)) s.bindings sound

-- a step leaves the rules, and the bindings sound
pub record StaysSound (o : Option Holder) (s t : NatState) : Type 0 where
  pub book : t.book ≡ s.book
  pub sound : AreSound o t.bindings

pub sent_by-sound : (h : Holder) (s : NatState) (far : End4) (freed : List Parcel) (o : Option Bound) → AreSound (Some h) s.bindings → SoundBound h o → StaysSound (Some h) s (sent_by h s far freed o).after
sent_by-sound h s far freed None sound new = record { book = refl; sound = sound }
sent_by-sound h s far freed (Some b) sound new = record { book = refl; sound = new }

pub sent_flow-sound : (h : Holder) (s : NatState) (wish : Wish) (far : End4) (freed : List Parcel) → AreSound (Some h) s.bindings → StaysSound (Some h) s (sent_flow h s wish far freed).after
unfolding sent_flow
sent_flow-sound h s wish far freed sound =
    sent_by-sound h s far freed (bound h s.clock wish (refreshed s.clock) s.bindings) sound (bound-sound h s.clock wish (refreshed s.clock) s.bindings (refreshed-keeps s.clock) sound)

pub sent_error_by-sound : (h : Holder) (s : NatState) (far : End4) (freed : List Parcel) (o : Option Binding) → AreSound (Some h) s.bindings → StaysSound (Some h) s (sent_error_by h s far freed o).after
sent_error_by-sound h s far freed None sound = record { book = refl; sound = sound }
sent_error_by-sound h s far freed (Some b) sound = record { book = refl; sound = sound }

pub sent_error-sound : (h : Holder) (s : NatState) (wish : Wish) (far : End4) (freed : List Parcel) → AreSound (Some h) s.bindings → StaysSound (Some h) s (sent_error h s wish far freed).after
unfolding sent_error
sent_error-sound h s wish far freed sound = sent_error_by-sound h s far freed (find (is_of_host wish.proto wish.near) s.bindings) sound

pub received_by-sound : (h : Holder) (s after : NatState) (freed : List Parcel) (r : Remote) (o : Option Binding) → AreSound (Some h) s.bindings → StaysSound (Some h) s after → StaysSound (Some h) s (received_by s after freed r o).after
received_by-sound h s after freed r None sound new = record { book = refl; sound = sound }
received_by-sound h s after freed r (Some b) sound new = new

pub received-sound : (h : Holder) (s : NatState) (fault : Bool) (proto : Proto) (g : Gathered) (r : Remote) → AreSound (Some h) s.bindings → StaysSound (Some h) s (received s fault proto g r).after
unfolding received
received-sound h s fault proto g r sound =
    let entry : StaysSound (Some h) s (with_entry s fault proto g.ports.dst) = record { book = refl; sound = changed-sound h (is_of_port proto g.ports.dst) (entered fault s.clock) s.bindings (entered-keeps fault s.clock) sound } in
    received_by-sound h s (with_entry s fault proto g.ports.dst) g.freed r (find (is_of_port proto g.ports.dst) s.bindings) sound entry

pub kept_by-sound : (h : Holder) (s : NatState) (o : Option Bound) → AreSound (Some h) s.bindings → SoundBound h o → StaysSound (Some h) s (kept_by s o).after
kept_by-sound h s None sound new = record { book = refl; sound = sound }
kept_by-sound h s (Some b) sound new = record { book = refl; sound = new }

pub keeps-sound : (h : Holder) (s : NatState) (wish : Wish) (until : ℕ) → AreSound (Some h) s.bindings → StaysSound (Some h) s (keeps h s wish until).after
unfolding keeps
keeps-sound h s wish until sound =
    kept_by-sound h s (bound h s.clock wish (kept_until until) s.bindings) sound (bound-sound h s.clock wish (kept_until until) s.bindings (kept-keeps until) sound)

pub received_from-sound : (h : Holder) (s : NatState) (fault : Bool) (proto : Proto) (g : Gathered) (r : Result Remote Cause) → AreSound (Some h) s.bindings → StaysSound (Some h) s (received_from s fault proto g r).after
received_from-sound h s fault proto g (Err cause) sound = record { book = refl; sound = sound }
received_from-sound h s fault proto g (Ok r) sound = received-sound h s fault proto g r sound

pub passed-sound : (h : Holder) (s : NatState) (ask : Ask) (g : Gathered) → AreSound (Some h) s.bindings → StaysSound (Some h) s (passed h s ask g).after
passed-sound h s (Outward fault proto near far flags part) g sound =
    let from : End4 = record { addr = near.addr; port = g.ports.src } in
    let wish : Wish = record { proto = proto; near = from; port = g.ports.src } in
    let to : End4 = record { addr = far.addr; port = g.ports.dst } in
    cond_both fault (sent_error h s wish to g.freed) (sent_flow h s wish to g.freed) (λ (t : NatStep). StaysSound (Some h) s t.after)
    (λ e. sent_error-sound h s wish to g.freed sound) (λ e. sent_flow-sound h s wish to g.freed sound)
passed-sound h s (Inward fault proto port far flags part) g sound = received_from-sound h s fault proto g (remote s.book far g.ports.src) sound
passed-sound h s (Keep proto host host_port port until) g sound =
    let near : End4 = record { addr = host; port = host_port } in
    let wish : Wish = record { proto = proto; near = near; port = port } in
    keeps-sound h s wish until sound

pub told-sound : (h : Holder) (s : NatState) (ask : Ask) (answer : FragAnswer) → AreSound (Some h) s.bindings → StaysSound (Some h) s (told h s ask answer).after
told-sound h s ask Noted sound = passed-sound h s ask (record { ports = ports_of ask; freed = [] }) sound
told-sound h s ask (Known ports) sound = passed-sound h s ask (record { ports = ports; freed = [] }) sound
told-sound h s ask Held sound = record { book = refl; sound = sound }
told-sound h s ask (Released parcels) sound = passed-sound h s ask (record { ports = ports_of ask; freed = parcels }) sound
told-sound h s ask Full sound = record { book = refl; sound = sound }

pub gathered-sound : (h : Holder) (s : NatState) (place : ℕ) (ask : Ask) (o : Option FragAsk) → AreSound (Some h) s.bindings → StaysSound (Some h) s (gathered h s place ask o).after
gathered-sound h s place ask None sound = passed-sound h s ask (record { ports = ports_of ask; freed = [] }) sound
gathered-sound h s place ask (Some f) sound =
    let step : FragStep = frag (record { clock = s.clock; notes = s.notes }) s.clock place f in
    let t : NatState = record s { notes = step.after.notes } in
    let r = told-sound h t ask step.answer sound in
    record { book = r.book; sound = r.sound }

pub held_by-sound : (s : NatState) (place : ℕ) (ask : Ask) (o : Option Holder) → AreSound o s.bindings → StaysSound o s (held_by s place ask o).after
held_by-sound s place ask None sound = record { book = refl; sound = sound }
held_by-sound s place ask (Some h) sound =
    let here : NatStep = gathered h s place ask (frag_ask_of (part_of ask) (ports_of ask)) in
    let away : NatStep = refuses s WrongDestination [] in
    cond_both (arrives h ask) here away (λ (t : NatStep). StaysSound (Some h) s t.after) (λ e. gathered-sound h s place ask (frag_ask_of (part_of ask) (ports_of ask)) sound) (λ e. record { book = refl; sound = sound })

pub timed-sound : (prefix : Prefix6) (s : NatState) (now place : ℕ) (ask : Ask) → IsSound prefix s → IsSound prefix (timed prefix s now place ask).after
unfolding timed
timed-sound prefix s now place ask sound =
    let t : NatState = at_time now s in
    let r = held_by-sound t place ask (holder_at prefix t) (at_time-sound prefix now s sound) in
    let P : Generation → Type 0 = λ book. AreSound (holder_of book.rules prefix) (held_by t place ask (holder_at prefix t)).after.bindings in
    subst P (sym r.book) r.sound

pub nat-sound : (prefix : Prefix6) (s : NatState) (m : Moment) (ask : Ask) → IsSound prefix s → IsSound prefix (nat prefix s m ask).after
unfolding nat
nat-sound prefix s m ask sound = timed-sound prefix (renewed prefix m.seen s) m.now m.place ask (renewed-sound prefix m.seen s sound)

-- the state once newer rules are used
pub renewed-newer : (prefix : Prefix6) (seen : Generation) (s : NatState) → s.book.number < seen.number → renewed prefix seen s ≡ record s { book = seen; bindings = staying (holder_of s.book.rules prefix) (holder_of seen.rules prefix) s.bindings }
unfolding renewed
renewed-newer prefix seen s lt = let e : nat_lt s.book.number seen.number ≡ true = lt-ltb _ _ lt in rw e refl

-- a step, at the greater of the two times
pub timed-at : (prefix : Prefix6) (s : NatState) (now clock place : ℕ) (ask : Ask) → clock ≡ max s.clock now → timed prefix s now place ask ≡ held_by (record s { clock = clock; bindings = filter (is_unexpired clock) s.bindings }) place ask (holder_at prefix s)
unfolding timed at_time
timed-at prefix s now clock place ask e =
    ap (λ n. held_by (record s { clock = n; bindings = filter (is_unexpired n) s.bindings }) place ask (holder_at prefix s)) (sym e)

-- the same, where the bindings and the outcome are known
pub moves : (prefix : Prefix6) (s : NatState) (now clock place : ℕ) (ask : Ask) (xs : List Binding) (r : NatStep) → clock ≡ max s.clock now → xs ≡ s.bindings → held_by (state_at s.book clock (filter (is_unexpired clock) xs) s.notes) place ask (holder_at prefix s) ≡ r → timed prefix s now place ask ≡ r
moves prefix s now clock place ask xs r e f h =
    timed-at prefix s now clock place ask e ∙ ap (λ ys. held_by (state_at s.book clock (filter (is_unexpired clock) ys) s.notes) place ask (holder_at prefix s)) (sym f) ∙ h

-- a step under newer rules
pub moves-newer : (prefix : Prefix6) (seen : Generation) (s : NatState) (now clock place : ℕ) (ask : Ask) (xs : List Binding) (r : NatStep) → s.book.number < seen.number → clock ≡ max s.clock now → xs ≡ staying (holder_of s.book.rules prefix) (holder_of seen.rules prefix) s.bindings → held_by (state_at seen clock (filter (is_unexpired clock) xs) s.notes) place ask (holder_of seen.rules prefix) ≡ r → timed prefix (renewed prefix seen s) now place ask ≡ r
moves-newer prefix seen s now clock place ask xs r lt e f h =
    let t : NatState = record s { book = seen; bindings = staying (holder_of s.book.rules prefix) (holder_of seen.rules prefix) s.bindings } in
    ap (λ u. timed prefix u now place ask) (renewed-newer prefix seen s lt) ∙ moves prefix t now clock place ask xs r e f h

-- a book's rules, by their parts
pub generation-is : (book : Book) (g : Generation) → rules_of book ≡ g.rules → dmr_of book ≡ g.dmr → generation_of book ≡ g.number → generation_in book ≡ g
generation-is book g e f n =
    let R : List Rule → Generation = λ x. record { rules = x; dmr = dmr_of book; number = generation_of book } in
    let D : Dmr → Generation = λ x. record { rules = g.rules; dmr = x; number = generation_of book } in
    let N : ℕ → Generation = λ x. record { rules = g.rules; dmr = g.dmr; number = x } in
    ap R e ∙ ap D f ∙ ap N n

pub staying-same : (o p n m : Option Holder) (xs ys : List Binding) → o ≡ p → n ≡ m → xs ≡ ys → staying o n xs ≡ staying p m ys
staying-same o p n m xs ys e f h = ap (λ x. staying x n xs) e ∙ ap (λ x. staying p x xs) f ∙ ap (λ x. staying p m x) h

-- a machine is sound after a step, or as before where memory ran out
pub sound-after : {A E : Type 0} (r : Result A E) (old new : NatMachine) (after : NatState) → IsSound old.prefix old.state → IsSound old.prefix after → OnOk r (new.state ≡ after) → OnOk r (new.prefix ≡ old.prefix) → OnErr r (new ≡ old) → IsSound new.prefix new.state
sound-after (Ok a) old new after before sound e p f =
    let P : Prefix6 → Type 0 = λ x. IsSound x new.state in
    let Q : NatState → Type 0 = λ x. IsSound old.prefix x in
    subst P (sym p) (subst Q (sym e) sound)
sound-after (Err x) old new after before sound e p f =
    let P : NatMachine → Type 0 = λ m. IsSound m.prefix m.state in
    subst P (sym f) before
