-- A step leaves the bindings of other protocols alone.
use Rattle.std.proofs.Common.{◌≡◌, ℕ, Bool, true, not, cond, List, [], ◌∷◌, ◌++◌, Option, Some, None, Result, Ok, Err, option_map, refl, sym, ap, ◌∙◌, append-nil}
use Rattle.std.specs.List.{find}
use Rattle.std.proofs.lemmas.Bool.{cond_both, and_parts}
use Rattle.std.proofs.lemmas.List.Elements.{filter-append}
use Rattle.octets.specs.declared.cause.Cause.{Cause}
use Rattle.octets.specs.declared.cause.Cause.TheVariants.{WrongDestination}
use Rattle.octets.specs.declared.parcel.Parcel.{Parcel}
use Rattle.octets.specs.declared.prefix.Prefix6.{Prefix6}
use Rattle.octets.specs.declared.proto.Proto.{Proto}
use Rattle.rule_book.specs.Holder.{Holder}
use Rattle.frag_table.specs.declared.ask.FragAsk.{FragAsk}
use Rattle.frag_table.specs.declared.answer.FragAnswer.{FragAnswer}
use Rattle.frag_table.specs.declared.answer.FragAnswer.TheVariants.{Noted, Known, Held, Released, Full}
use Rattle.frag_table.specs.Frag.{frag, FragStep}
use Rattle.nat_model.specs.declared.ask.End4.{End4}
use Rattle.nat_model.specs.declared.ask.Ask.{Ask}
use Rattle.nat_model.specs.declared.ask.Ask.TheVariants.{Outward, Inward, Keep}
use Rattle.nat_model.specs.declared.binding.Binding.{Binding}
use Rattle.nat_model.specs.Binding.{same_proto, is_of_host, is_of_port, refreshed, entered, kept_until, first_changed}
use Rattle.nat_model.specs.Claim.{Wish, Bound, bound, bound_as, added, claim, claimed_port}
use Rattle.nat_model.specs.Fragment.{Gathered, ports_of, part_of, frag_ask_of}
use Rattle.nat_model.specs.Remote.{Remote, remote}
use Rattle.nat_model.specs.Refusal.{proto_of, settled, of_others}
use Rattle.nat_model.specs.State.{NatState, NatStep, Moment, holder_at}
use Rattle.nat_model.specs.Machine.{refuses, arrives, sent_by, sent_flow, sent_error, sent_error_by, received, received_by, with_entry, kept_by, keeps, received_from, passed, told, gathered, held_by, timed, nat}
use Rattle.nat_model.proofs.Soundness.{KeepsEnds, refreshed-keeps, kept-keeps, entered-keeps, same_proto-refl}

-- a binding of the protocol isn't among the others
pub not-other : (proto : Proto) (b : Binding) (bs : List Binding) → same_proto b.proto proto ≡ true → of_others proto (b ∷ bs) ≡ of_others proto bs
not-other proto b bs e = rw e refl

pub others-changed : (proto : Proto) (test : Binding → Bool) (change : Binding → Binding) → KeepsEnds change → ((b : Binding) → test b ≡ true → same_proto b.proto proto ≡ true) → (bs : List Binding) → of_others proto (first_changed test change bs) ≡ of_others proto bs
others-changed proto test change keeps own [] = refl
others-changed proto test change keeps own (b ∷ bs) =
    cond_both (test b) (change b ∷ bs) (b ∷ first_changed test change bs) (λ ys. of_others proto ys ≡ of_others proto (b ∷ bs))
    (λ y.
    let before : same_proto b.proto proto ≡ true = own b y in
    let after : same_proto (change b).proto proto ≡ true = ap (λ p. same_proto p proto) (keeps b).proto ∙ before in
    not-other proto (change b) bs after ∙ sym (not-other proto b bs before))
    (λ n. ap (λ (ys : List Binding). cond (not (same_proto b.proto proto)) (b ∷ ys) ys) (others-changed proto test change keeps own bs))

pub others-added : (proto : Proto) (b : Binding) (bs : List Binding) → same_proto b.proto proto ≡ true → of_others proto (bs ++ b ∷ []) ≡ of_others proto bs
others-added proto b bs e =
    filter-append (λ c. not (same_proto c.proto proto)) bs (b ∷ []) ∙ ap (λ ys. of_others proto bs ++ ys) (not-other proto b [] e) ∙ append-nil (of_others proto bs)

-- the other bindings are those before
abbrev pub OthersStay : Proto → List Binding → List Binding → Type 0
OthersStay proto before after = of_others proto after ≡ of_others proto before

abbrev pub OthersBound : Proto → List Binding → Option Bound → Type 0
OthersBound proto bs None = Unit {0}
OthersBound proto bs (Some b) = OthersStay proto bs b.bindings

own-host : (proto : Proto) (near : End4) (b : Binding) → is_of_host proto near b ≡ true → same_proto b.proto proto ≡ true
own-host proto near b e = (and_parts (same_proto b.proto proto) _ e).0

own-port : (proto : Proto) (port : ℕ) (b : Binding) → is_of_port proto port b ≡ true → same_proto b.proto proto ≡ true
own-port proto port b e = (and_parts (same_proto b.proto proto) _ e).0

claimed-others : (clock : ℕ) (wish : Wish) (change : Binding → Binding) (bs : List Binding) → KeepsEnds change → (o : Option ℕ) → OthersBound wish.proto bs (option_map (λ x. added change bs (claim clock wish x)) o)
claimed-others clock wish change bs keeps None = tt
claimed-others clock wish change bs keeps (Some x) =
    others-added wish.proto (change (claim clock wish x)) bs (ap (λ p. same_proto p wish.proto) (keeps (claim clock wish x)).proto ∙ same_proto-refl wish.proto)

bound_as-others : (h : Holder) (clock : ℕ) (wish : Wish) (change : Binding → Binding) (bs : List Binding) → KeepsEnds change → (o : Option Binding) → OthersBound wish.proto bs (bound_as h clock wish change bs o)
bound_as-others h clock wish change bs keeps (Some b) = others-changed wish.proto (is_of_host wish.proto wish.near) change keeps (own-host wish.proto wish.near) bs
bound_as-others h clock wish change bs keeps None = claimed-others clock wish change bs keeps (claimed_port h wish bs)

bound-others : (h : Holder) (clock : ℕ) (wish : Wish) (change : Binding → Binding) (bs : List Binding) → KeepsEnds change → OthersBound wish.proto bs (bound h clock wish change bs)
unfolding bound
bound-others h clock wish change bs keeps = bound_as-others h clock wish change bs keeps (find (is_of_host wish.proto wish.near) bs)

-- a step leaves them
abbrev pub Leaves : Proto → NatState → NatStep → Type 0
Leaves proto s step = OthersStay proto s.bindings step.after.bindings

sent_by-others : (proto : Proto) (h : Holder) (s : NatState) (far : End4) (freed : List Parcel) (o : Option Bound) → OthersBound proto s.bindings o → Leaves proto s (sent_by h s far freed o)
sent_by-others proto h s far freed None e = refl
sent_by-others proto h s far freed (Some b) e = e

sent_flow-others : (h : Holder) (s : NatState) (wish : Wish) (far : End4) (freed : List Parcel) → Leaves wish.proto s (sent_flow h s wish far freed)
unfolding sent_flow
sent_flow-others h s wish far freed =
    sent_by-others wish.proto h s far freed (bound h s.clock wish (refreshed s.clock) s.bindings) (bound-others h s.clock wish (refreshed s.clock) s.bindings (refreshed-keeps s.clock))

sent_error_by-others : (proto : Proto) (h : Holder) (s : NatState) (far : End4) (freed : List Parcel) (o : Option Binding) → Leaves proto s (sent_error_by h s far freed o)
sent_error_by-others proto h s far freed None = refl
sent_error_by-others proto h s far freed (Some b) = refl

sent_error-others : (h : Holder) (s : NatState) (wish : Wish) (far : End4) (freed : List Parcel) → Leaves wish.proto s (sent_error h s wish far freed)
unfolding sent_error
sent_error-others h s wish far freed = sent_error_by-others wish.proto h s far freed (find (is_of_host wish.proto wish.near) s.bindings)

received_by-others : (proto : Proto) (s after : NatState) (freed : List Parcel) (r : Remote) (o : Option Binding) → OthersStay proto s.bindings after.bindings → Leaves proto s (received_by s after freed r o)
received_by-others proto s after freed r None e = refl
received_by-others proto s after freed r (Some b) e = e

received-others : (s : NatState) (fault : Bool) (proto : Proto) (g : Gathered) (r : Remote) → Leaves proto s (received s fault proto g r)
unfolding received
received-others s fault proto g r =
    received_by-others proto s (with_entry s fault proto g.ports.dst) g.freed r (find (is_of_port proto g.ports.dst) s.bindings)
    (others-changed proto (is_of_port proto g.ports.dst) (entered fault s.clock) (entered-keeps fault s.clock) (own-port proto g.ports.dst) s.bindings)

received_from-others : (s : NatState) (fault : Bool) (proto : Proto) (g : Gathered) (r : Result Remote Cause) → Leaves proto s (received_from s fault proto g r)
received_from-others s fault proto g (Err cause) = refl
received_from-others s fault proto g (Ok r) = received-others s fault proto g r

kept_by-others : (proto : Proto) (s : NatState) (o : Option Bound) → OthersBound proto s.bindings o → Leaves proto s (kept_by s o)
kept_by-others proto s None e = refl
kept_by-others proto s (Some b) e = e

keeps-others : (h : Holder) (s : NatState) (wish : Wish) (until : ℕ) → Leaves wish.proto s (keeps h s wish until)
unfolding keeps
keeps-others h s wish until =
    kept_by-others wish.proto s (bound h s.clock wish (kept_until until) s.bindings) (bound-others h s.clock wish (kept_until until) s.bindings (kept-keeps until))

passed-others : (h : Holder) (s : NatState) (ask : Ask) (g : Gathered) → Leaves (proto_of ask) s (passed h s ask g)
passed-others h s (Outward fault proto near far flags part) g =
    let from : End4 = record { addr = near.addr; port = g.ports.src } in
    let wish : Wish = record { proto = proto; near = from; port = g.ports.src } in
    let to : End4 = record { addr = far.addr; port = g.ports.dst } in
    cond_both fault (sent_error h s wish to g.freed) (sent_flow h s wish to g.freed) (Leaves proto s) (λ e. sent_error-others h s wish to g.freed) (λ e. sent_flow-others h s wish to g.freed)
passed-others h s (Inward fault proto port far flags part) g = received_from-others s fault proto g (remote s.book far g.ports.src)
passed-others h s (Keep proto host host_port port until) g =
    let near : End4 = record { addr = host; port = host_port } in
    let wish : Wish = record { proto = proto; near = near; port = port } in
    keeps-others h s wish until

told-others : (h : Holder) (s : NatState) (ask : Ask) (answer : FragAnswer) → Leaves (proto_of ask) s (told h s ask answer)
told-others h s ask Noted = passed-others h s ask (record { ports = ports_of ask; freed = [] })
told-others h s ask (Known ports) = passed-others h s ask (record { ports = ports; freed = [] })
told-others h s ask Held = refl
told-others h s ask (Released parcels) = passed-others h s ask (record { ports = ports_of ask; freed = parcels })
told-others h s ask Full = refl

gathered-others : (h : Holder) (s : NatState) (place : ℕ) (ask : Ask) (o : Option FragAsk) → Leaves (proto_of ask) s (gathered h s place ask o)
gathered-others h s place ask None = passed-others h s ask (record { ports = ports_of ask; freed = [] })
gathered-others h s place ask (Some f) =
    let step : FragStep = frag (record { clock = s.clock; notes = s.notes }) s.clock place f in
    told-others h (record s { notes = step.after.notes }) ask step.answer

held_by-others : (s : NatState) (place : ℕ) (ask : Ask) (o : Option Holder) → Leaves (proto_of ask) s (held_by s place ask o)
held_by-others s place ask None = refl
held_by-others s place ask (Some h) =
    cond_both (arrives h ask) (gathered h s place ask (frag_ask_of (part_of ask) (ports_of ask))) (refuses s WrongDestination []) (Leaves (proto_of ask) s)
    (λ e. gathered-others h s place ask (frag_ask_of (part_of ask) (ports_of ask))) (λ e. refl)

pub nat-others : (prefix : Prefix6) (s : NatState) (m : Moment) (ask : Ask) → Leaves (proto_of ask) (settled prefix s m) (nat prefix s m ask)
unfolding nat timed
nat-others prefix s m ask = let t : NatState = settled prefix s m in held_by-others t m.place ask (holder_at prefix t)
