-- Each step of an edge's machine keeps numbers in their fields, and its answer has such.
use Rattle.std.proofs.Common.{◌≡◌, ℕ, ◌^◌, ◌<◌, Bool, true, false, cond, List, [], ◌∷◌, ◌++◌, length, max, Option, Some, None, option_map, refl, sym, ◌∙◌, subst, arith, ⊎_elim}
use Rattle.std.specs.Prelude.{Result, Ok, Err, nat_lt, unwrap_or, ◌==◌}
use Rattle.std.specs.List.{All, filter, find}
use Rattle.std.proofs.lemmas.Bool.{cond_both, cases_Bool}
use Rattle.std.proofs.lemmas.List.Elements.{All-nil, All-cons, All-head, All-tail, All-push, All-filter}
use Rattle.octets.specs.declared.address.Addr4.{Addr4}
use Rattle.octets.specs.declared.cause.Cause.{Cause}
use Rattle.octets.specs.declared.cause.Cause.TheVariants.{WrongDestination}
use Rattle.octets.specs.declared.parcel.Parcel.{Parcel}
use Rattle.octets.specs.declared.prefix.Prefix6.{Prefix6}
use Rattle.octets.specs.declared.proto.Proto.{Proto}
use Rattle.map_rules.specs.declared.rule.Rule.{Rule}
use Rattle.map_rules.specs.Embedding.{embedded}
use Rattle.map_rules.specs.Rule.{edge_address, edge_psid}
use Rattle.map_rules.proofs.Rules.{edge-has, edge-psid-small, address-small}
use Rattle.rule_book.specs.Holder.{Holder, has_edge, holder_under, holder_of}
use Rattle.rule_book.specs.Owner.{forward_of}
use Rattle.l4_headers.specs.declared.ports.Ports.{Ports}
use Rattle.xlat46.specs.Whole.{ArePorts}
use Rattle.frag_table.specs.declared.key.FragKey.{FragKey}
use Rattle.frag_table.specs.declared.note.Note.{Note}
use Rattle.frag_table.specs.declared.ask.FragAsk.{FragAsk}
use Rattle.frag_table.specs.declared.ask.FragAsk.TheVariants.{First as FirstAsk, Later as LaterAsk}
use Rattle.frag_table.specs.declared.answer.FragAnswer.{FragAnswer}
use Rattle.frag_table.specs.declared.answer.FragAnswer.TheVariants.{Noted, Known, Held, Released, Full}
use Rattle.frag_table.specs.State.{FragState}
use Rattle.frag_table.specs.Frag.{FragStep, frag, frag_now, aged, is_live, same_key, note_of, with_note, new_note, new_key, changing, answered, most_notes, most_held, released, later_again, first_step, later_step}
use Rattle.nat_model.specs.declared.answer.Answer.TheVariants.{Out, Turn}
use Rattle.nat_model.specs.declared.ask.Ask.{Ask}
use Rattle.nat_model.specs.declared.ask.Ask.TheVariants.{Outward, Inward, Keep}
use Rattle.nat_model.specs.declared.ask.End4.{End4}
use Rattle.nat_model.specs.declared.ask.Far.{Far}
use Rattle.nat_model.specs.declared.ask.Far.TheVariants.{Six, Turned}
use Rattle.nat_model.specs.declared.ask.Part.{Part}
use Rattle.nat_model.specs.declared.ask.Part.TheVariants.{Whole, First, Later}
use Rattle.nat_model.specs.declared.binding.Binding.{Binding}
use Rattle.nat_model.specs.declared.entry.Entry.{Entry}
use Rattle.nat_model.specs.Binding.{is_of_host, is_of_port, is_unexpired, outlives, refreshed, entered, kept_until, first_changed}
use Rattle.nat_model.specs.Claim.{is_free, least_below, claimed_port, claim, Bound, bound, bound_as, added}
use Rattle.nat_model.specs.Fragment.{ports_of, part_of, frag_ask_of}
use Rattle.nat_model.specs.History.{EdgeStart, Reached, outset, first_state, book_of, entry_step, further, replay_from, AreGoodFrom, IsGood}
use Rattle.nat_model.specs.Machine.{nat, timed, renewed, staying, same_holding, at_time, held_by, gathered, told, passed, sent_flow, sent_by, sent_error, sent_error_by, received, received_by, received_from, with_entry, kept_by, keeps, arrives, refuses}
use Rattle.nat_model.specs.Remote.{remote, behind, both, reached, sent, is_own, far_port}
use Rattle.nat_model.specs.State.{Generation, NatState, NatStep, Moment, holder_at}
use Rattle.nat_model.proofs.Soundness.{KeepsEnds, refreshed-keeps, kept-keeps, entered-keeps, ends-at, length-first_changed, least-passes}
use Rattle.rule_book.specs.Valid.{FitsRule, FitBook}
use Rattle.trace_text.specs.Numbers.{FitsBinding, FitsNoted, FitsState, FitsAsk, FitsAnswer, FitsStart}
use Rattle.trace_text.proofs.Addresses.{embedded_small, owned_small}

-- ---- the edge's own address, and where a destination is reached

held_small : (rules : List Rule) (prefix : Prefix6) (h : Holder) → All FitsRule rules → holder_of rules prefix ≡ Some h → h.own6 < 2 ^ 128
held_small [] prefix h fit e = cc
held_small (r ∷ rules) prefix h fit e = by (has_edge prefix r) (held_small rules prefix h (All-tail FitsRule r rules fit)) e
  where
    same : (x y : Holder) → ◌≡◌ {A = Option Holder} (Some x) (Some y) → x ≡ y
    same x y is = cc

    by : (b : Bool) → (holder_of rules prefix ≡ Some h → h.own6 < 2 ^ 128) → cond b (Some (holder_under r prefix)) (holder_of rules prefix) ≡ Some h → h.own6 < 2 ^ 128
    by true later is =
        let first = All-head FitsRule r rules fit in
        subst (λ (g : Holder). g.own6 < 2 ^ 128) (same (holder_under r prefix) h is)
        (address-small r (edge_address r prefix.bits) (edge_psid r prefix.bits) first.prefix6 (edge-has r prefix.bits first.prefix4).0 (edge-psid-small r prefix.bits))
    by false later is = later is

reached_small : (book : Generation) (addr port : ℕ) → FitBook book.rules book.dmr → addr < 2 ^ 32 → reached book addr port < 2 ^ 128
reached_small book addr port fit small = by (forward_of book.rules addr port) refl
  where
    by : (o : Option ℕ) → forward_of book.rules addr port ≡ o → unwrap_or o (embedded book.dmr.prefix.bits book.dmr.prefix.len addr) < 2 ^ 128
    by None is = embedded_small book.dmr addr fit.default small
    by (Some s) is = owned_small (filter (λ (r : Rule). r.forward) book.rules) addr port s small (All-filter (λ (r : Rule). r.forward) FitsRule book.rules fit.each) is

-- ---- bindings

-- the same ends fit
ends_fit : (b c : Binding) → c.port ≡ b.port → c.host_port ≡ b.host_port → FitsBinding b → FitsBinding c
ends_fit b c port host_port fit = record {
  port = subst (λ (n : ℕ). n < 65536) (sym port) fit.port;
  host_port = subst (λ (n : ℕ). n < 65536) (sym host_port) fit.host_port;
}

changed_fit : (test : Binding → Bool) (change : Binding → Binding) (bs : List Binding) → KeepsEnds change → All FitsBinding bs → All FitsBinding (first_changed test change bs)
changed_fit test change bs keeps fit =
    let long : length (first_changed test change bs) ≡ length bs = length-first_changed test change bs in
    λ k d within. ends_fit _ _ (ends-at test change keeps bs k d).port (ends-at test change keeps bs k d).host_port (fit k d (omega arith))

found_fit : (test : Binding → Bool) (bs : List Binding) (b : Binding) → All FitsBinding bs → find test bs ≡ Some b → FitsBinding b
found_fit test [] b fit e = cc
found_fit test (c ∷ bs) b fit e = by (test c) (found_fit test bs b (All-tail FitsBinding c bs fit)) e
  where
    same : (x y : Binding) → ◌≡◌ {A = Option Binding} (Some x) (Some y) → x ≡ y
    same x y is = cc

    by : (passes : Bool) → (find test bs ≡ Some b → FitsBinding b) → cond passes (Some c) (find test bs) ≡ Some b → FitsBinding b
    by true later is = subst FitsBinding (same c b is) (All-head FitsBinding c bs fit)
    by false later is = later is

claimed_fits : (h : Holder) (proto : Proto) (near : End4) (port : ℕ) (bs : List Binding) (x : ℕ) → port < 65536 → claimed_port h (record { proto = proto; near = near; port = port }) bs ≡ Some x → x < 65536
unfolding claimed_port
claimed_fits h proto near port bs x fits e =
    ⊎_elim
    (λ (yes : is_free h proto bs port ≡ true). let f : claimed_port h (record { proto = proto; near = near; port = port }) bs ≡ Some port = rw yes refl in let same : port ≡ x = cc in subst (λ (n : ℕ). n < 65536) same fits)
    (λ (no : is_free h proto bs port ≡ false). let f : claimed_port h (record { proto = proto; near = near; port = port }) bs ≡ least_below (is_free h proto bs) 65536 = rw no refl in (least-passes (is_free h proto bs) 65536 x (sym f ∙ e)).0)
    (cases_Bool (is_free h proto bs port))

-- a binding that a step has, and all with it
abbrev FitsBound : Option Bound → Type 0
FitsBound None = Unit {0}
FitsBound (Some b) = FitsBinding b.binding × All FitsBinding b.bindings

claim_fits : (clock : ℕ) (proto : Proto) (near : End4) (port : ℕ) (change : Binding → Binding) (bs : List Binding) (o : Option ℕ) → KeepsEnds change → near.port < 65536 → All FitsBinding bs → ((x : ℕ) → o ≡ Some x → x < 65536)
    → FitsBound (option_map (λ x. added change bs (claim clock (record { proto = proto; near = near; port = port }) x)) o)
claim_fits clock proto near port change bs None keeps fits all claimed = tt
claim_fits clock proto near port change bs (Some x) keeps fits all claimed =
    let new = claim clock (record { proto = proto; near = near; port = port }) x in
    let fit : FitsBinding new = record { port = claimed x refl; host_port = fits } in
    let one : FitsBinding (change new) = ends_fit new (change new) (keeps new).port (keeps new).host_port fit in
    (one, All-push FitsBinding bs (change new) all one)

bound_as_fits : (h : Holder) (clock : ℕ) (proto : Proto) (near : End4) (port : ℕ) (change : Binding → Binding) (bs : List Binding) (o : Option Binding) → KeepsEnds change → near.port < 65536 → port < 65536 → All FitsBinding bs
    → find (is_of_host proto near) bs ≡ o
    → FitsBound (bound_as h clock (record { proto = proto; near = near; port = port }) change bs o)
bound_as_fits h clock proto near port change bs (Some b) keeps fits small all e =
    (ends_fit b (change b) (keeps b).port (keeps b).host_port (found_fit (is_of_host proto near) bs b all e), changed_fit (is_of_host proto near) change bs keeps all)
bound_as_fits h clock proto near port change bs None keeps fits small all e = claim_fits clock proto near port change bs (claimed_port h (record { proto = proto; near = near; port = port }) bs) keeps fits all (λ x is. claimed_fits h proto near port bs x small is)

bound_fits : (h : Holder) (clock : ℕ) (proto : Proto) (near : End4) (port : ℕ) (change : Binding → Binding) (bs : List Binding) → KeepsEnds change → near.port < 65536 → port < 65536 → All FitsBinding bs → FitsBound (bound h clock (record { proto = proto; near = near; port = port }) change bs)
unfolding bound
bound_fits h clock proto near port change bs keeps fits small all = bound_as_fits h clock proto near port change bs (find (is_of_host proto near) bs) keeps fits small all refl

-- ---- notes

abbrev FitsNote : Note → Type 0
FitsNote n = FitsNoted n.ports

with_note_fit : (note : Note) (notes : List Note) → FitsNote note → All FitsNote notes → All FitsNote (with_note note notes)
with_note_fit note [] one all = all
with_note_fit note (n ∷ notes) one all =
    let head = All-head FitsNote n notes all in
    let rest = All-tail FitsNote n notes all in
    cond_both (same_key n.key note.key) (note ∷ notes) (n ∷ with_note note notes) (All FitsNote)
    (λ e. All-cons FitsNote note notes one rest) (λ e. All-cons FitsNote n (with_note note notes) head (with_note_fit note notes one rest))

note_of_fits : (key : FragKey) (notes : List Note) (note : Note) → All FitsNote notes → note_of key notes ≡ Some note → FitsNote note
note_of_fits key [] note all e = cc
note_of_fits key (n ∷ notes) note all e = by (same_key n.key key) (note_of_fits key notes note (All-tail FitsNote n notes all)) e
  where
    same : (x y : Note) → ◌≡◌ {A = Option Note} (Some x) (Some y) → x ≡ y
    same x y is = cc

    by : (b : Bool) → (note_of key notes ≡ Some note → FitsNote note) → cond b (Some n) (note_of key notes) ≡ Some note → FitsNote note
    by true later is = subst FitsNote (same n note is) (All-head FitsNote n notes all)
    by false later is = later is

abbrev FitsTold : FragAnswer → Type 0
FitsTold (Known ports) = ArePorts ports
FitsTold _ = Unit {0}

record FitsFrag (step : FragStep) : Type 0 where
  notes : All FitsNote step.after.notes
  told : FitsTold step.answer

new_key_fits : (s : FragState) (note : Note) (answer : FragAnswer) → All FitsNote s.notes → FitsNote note → FitsTold answer → FitsFrag (new_key s note answer)
new_key_fits s note answer all one fits =
    cond_both (nat_lt (length s.notes) most_notes) (record { after = record s { notes = s.notes ++ note ∷ [] }; answer = answer }) (answered s Full) FitsFrag
    (λ e. record { notes = All-push FitsNote s.notes note all one; told = fits }) (λ e. record { notes = all; told = tt })

released_told : (held : List Parcel) → FitsTold (released held)
released_told [] = tt
released_told (p ∷ held) = tt

first_step_fits : (s : FragState) (key : FragKey) (ports : Ports) (o : Option Note) → All FitsNote s.notes → ArePorts ports → FitsFrag (first_step s key ports o)
first_step_fits s key ports None all are = new_key_fits s (new_note s.clock key (Some ports) []) Noted all are tt
first_step_fits s key ports (Some note) all are = record { notes = with_note_fit (record note { ports = Some ports; held = [] }) s.notes are all; told = released_told note.held }

later_again_fits : (s : FragState) (note : Note) (parcel : Parcel) (o : Option Ports) → note.ports ≡ o → All FitsNote s.notes → FitsNote note → FitsFrag (later_again s note parcel o)
later_again_fits s note parcel (Some ports) e all one = record { notes = all; told = subst FitsNoted e one }
later_again_fits s note parcel None e all one =
    cond_both (nat_lt (length note.held) most_held) (changing s (record note { held = note.held ++ parcel ∷ [] }) Held) (answered s Full) FitsFrag
    (λ is. record { notes = with_note_fit (record note { held = note.held ++ parcel ∷ [] }) s.notes one all; told = tt }) (λ is. record { notes = all; told = tt })

later_step_fits : (s : FragState) (key : FragKey) (parcel : Parcel) (o : Option Note) → note_of key s.notes ≡ o → All FitsNote s.notes → FitsFrag (later_step s key parcel o)
later_step_fits s key parcel (Some note) e all = later_again_fits s note parcel note.ports refl all (note_of_fits key s.notes note all e)
later_step_fits s key parcel None e all = new_key_fits s (new_note s.clock key None (parcel ∷ [])) Held all tt tt

abbrev FitsFragAsk : FragAsk → Type 0
FitsFragAsk (FirstAsk key ports) = ArePorts ports
FitsFragAsk (LaterAsk key octets) = Unit {0}

frag_now_fits : (s : FragState) (place : ℕ) (ask : FragAsk) → FitsFragAsk ask → All FitsNote s.notes → FitsFrag (frag_now s place ask)
frag_now_fits s place (FirstAsk key ports) fits all = first_step_fits s key ports (note_of key s.notes) all fits
frag_now_fits s place (LaterAsk key octets) fits all = later_step_fits s key (record { place = place; bytes = octets }) (note_of key s.notes) refl all

frag_fits : (s : FragState) (now place : ℕ) (ask : FragAsk) → FitsFragAsk ask → All FitsNote s.notes → FitsFrag (frag s now place ask)
unfolding frag
frag_fits s now place ask fits all = frag_now_fits (aged s now) place ask fits (All-filter (is_live (max s.clock now)) FitsNote s.notes all)

-- ---- steps

record FitsStep (r : NatStep) : Type 0 where
  after : FitsState r.after
  answer : FitsAnswer r.answer

with_bindings_fit : (s : NatState) (bs : List Binding) → FitsState s → All FitsBinding bs → FitsState (record s { bindings = bs })
with_bindings_fit s bs fits all = record { book = fits.book; bindings = all; notes = fits.notes }

-- the holder's own address fits
abbrev FitsHolder : Holder → Type 0
FitsHolder h = h.own6 < 2 ^ 128

sent_fits : (h : Holder) (book : Generation) (outside : ℕ) (far : End4) (freed : List Parcel) → FitsHolder h → FitBook book.rules book.dmr → outside < 65536 → far.addr.0 < 2 ^ 32 → FitsAnswer (sent h book outside far freed)
unfolding sent
sent_fits h book outside far freed own fit port small =
    cond_both (is_own h far.addr.0 far.port) (Turn (record { 0 = h.addr }) outside freed) (Out (record { 0 = h.addr }) outside (record { 0 = h.own6 }) (record { 0 = reached book far.addr.0 far.port }) freed) FitsAnswer
    (λ e. tt) (λ e. (port, own, reached_small book far.addr.0 far.port fit small))

sent_by_fits : (h : Holder) (s : NatState) (far : End4) (freed : List Parcel) (o : Option Bound) → FitsHolder h → FitsState s → far.addr.0 < 2 ^ 32 → FitsBound o → FitsStep (sent_by h s far freed o)
sent_by_fits h s far freed None own fits small one = record { after = fits; answer = tt }
sent_by_fits h s far freed (Some b) own fits small one = record {
  after = with_bindings_fit s b.bindings fits one.1;
  answer = sent_fits h s.book b.binding.port (record far { port = far_port b.binding.proto far.port b.binding.port }) freed own fits.book one.0.port small;
}

sent_flow_fits : (h : Holder) (s : NatState) (proto : Proto) (near : End4) (port : ℕ) (far : End4) (freed : List Parcel) → FitsHolder h → FitsState s → near.port < 65536 → port < 65536 → far.addr.0 < 2 ^ 32
    → FitsStep (sent_flow h s (record { proto = proto; near = near; port = port }) far freed)
unfolding sent_flow
sent_flow_fits h s proto near port far freed own fits here there small =
    sent_by_fits h s far freed (bound h s.clock (record { proto = proto; near = near; port = port }) (refreshed s.clock) s.bindings) own fits small (bound_fits h s.clock proto near port (refreshed s.clock) s.bindings (refreshed-keeps s.clock) here there fits.bindings)

sent_error_by_fits : (h : Holder) (s : NatState) (far : End4) (freed : List Parcel) (o : Option Binding) → FitsHolder h → FitsState s → far.addr.0 < 2 ^ 32 → ((b : Binding) → o ≡ Some b → FitsBinding b) → FitsStep (sent_error_by h s far freed o)
sent_error_by_fits h s far freed None own fits small one = record { after = fits; answer = tt }
sent_error_by_fits h s far freed (Some b) own fits small one =
    record { after = fits; answer = sent_fits h s.book b.port (record far { port = far_port b.proto far.port b.port }) freed own fits.book (one b refl).port small }

sent_error_fits : (h : Holder) (s : NatState) (proto : Proto) (near : End4) (port : ℕ) (far : End4) (freed : List Parcel) → FitsHolder h → FitsState s → far.addr.0 < 2 ^ 32 → FitsStep (sent_error h s (record { proto = proto; near = near; port = port }) far freed)
unfolding sent_error
sent_error_fits h s proto near port far freed own fits small =
    sent_error_by_fits h s far freed (find (is_of_host proto near) s.bindings) own fits small (λ b e. found_fit (is_of_host proto near) s.bindings b fits.bindings e)

received_by_fits : (s after : NatState) (freed : List Parcel) (from peer : Addr4) (o : Option Binding) → FitsState s → FitsState after → ((b : Binding) → o ≡ Some b → FitsBinding b)
    → FitsStep (received_by s after freed (record { from = from; peer = peer }) o)
received_by_fits s after freed from peer None fits then one = record { after = fits; answer = tt }
received_by_fits s after freed from peer (Some b) fits then one = record { after = then; answer = (one b refl).host_port }

received_fits : (s : NatState) (fault : Bool) (proto : Proto) (ports : Ports) (freed : List Parcel) (from peer : Addr4) → FitsState s
    → FitsStep (received s fault proto (record { ports = ports; freed = freed }) (record { from = from; peer = peer }))
unfolding received
received_fits s fault proto ports freed from peer fits =
    let changed = changed_fit (is_of_port proto ports.dst) (entered fault s.clock) s.bindings (entered-keeps fault s.clock) fits.bindings in
    received_by_fits s (with_entry s fault proto ports.dst) freed from peer (find (is_of_port proto ports.dst) s.bindings) fits
    (with_bindings_fit s (first_changed (is_of_port proto ports.dst) (entered fault s.clock) s.bindings) fits changed) (λ b e. found_fit (is_of_port proto ports.dst) s.bindings b fits.bindings e)

both_fit : (s : NatState) (fault : Bool) (proto : Proto) (ports : Ports) (freed : List Parcel) (one other : Result Addr4 Cause) → FitsState s → FitsStep (received_from s fault proto (record { ports = ports; freed = freed }) (both one other))
both_fit s fault proto ports freed (Err cause) other fits = record { after = fits; answer = tt }
both_fit s fault proto ports freed (Ok a) (Err cause) fits = record { after = fits; answer = tt }
both_fit s fault proto ports freed (Ok a) (Ok b) fits = received_fits s fault proto ports freed a b fits

from_fits : (s : NatState) (fault : Bool) (proto : Proto) (far : Far) (ports : Ports) (freed : List Parcel) → FitsState s → FitsStep (received_from s fault proto (record { ports = ports; freed = freed }) (remote s.book far ports.src))
unfolding remote
from_fits s fault proto (Six dst src peer port) ports freed fits = both_fit s fault proto ports freed (behind s.book src.0 ports.src) (behind s.book peer.0 ports.src) fits
from_fits s fault proto (Turned dst src peer port) ports freed fits = received_fits s fault proto ports freed src peer fits

kept_by_fits : (s : NatState) (o : Option Bound) → FitsState s → FitsBound o → FitsStep (kept_by s o)
kept_by_fits s None fits one = record { after = fits; answer = tt }
kept_by_fits s (Some b) fits one = record { after = with_bindings_fit s b.bindings fits one.1; answer = tt }

keeps_fits : (h : Holder) (s : NatState) (proto : Proto) (near : End4) (port until : ℕ) → FitsState s → near.port < 65536 → port < 65536 → FitsStep (keeps h s (record { proto = proto; near = near; port = port }) until)
unfolding keeps
keeps_fits h s proto near port until fits here there =
    kept_by_fits s (bound h s.clock (record { proto = proto; near = near; port = port }) (kept_until until) s.bindings) fits (bound_fits h s.clock proto near port (kept_until until) s.bindings (kept-keeps until) here there fits.bindings)

passed_fits : (h : Holder) (s : NatState) (ask : Ask) (ports : Ports) (freed : List Parcel) → FitsHolder h → FitsState s → FitsAsk ask → ArePorts ports → FitsStep (passed h s ask (record { ports = ports; freed = freed }))
passed_fits h s (Outward true proto near far flags part) ports freed own fits asks are =
    sent_error_fits h s proto (record { addr = near.addr; port = ports.src }) ports.src (record { addr = far.addr; port = ports.dst }) freed own fits asks.far
passed_fits h s (Outward false proto near far flags part) ports freed own fits asks are =
    sent_flow_fits h s proto (record { addr = near.addr; port = ports.src }) ports.src (record { addr = far.addr; port = ports.dst }) freed own fits are.0 are.0 asks.far
passed_fits h s (Inward fault proto port far flags part) ports freed own fits asks are = from_fits s fault proto far ports freed fits
passed_fits h s (Keep proto host host_port port until) ports freed own fits asks are = keeps_fits h s proto (record { addr = host; port = host_port }) port until fits asks.ports.0 asks.ports.1

told_fits : (h : Holder) (s : NatState) (ask : Ask) (answer : FragAnswer) → FitsHolder h → FitsState s → FitsAsk ask → FitsTold answer → FitsStep (told h s ask answer)
told_fits h s ask Noted own fits asks known = passed_fits h s ask (ports_of ask) [] own fits asks asks.ports
told_fits h s ask (Known ports) own fits asks known = passed_fits h s ask ports [] own fits asks known
told_fits h s ask Held own fits asks known = record { after = fits; answer = tt }
told_fits h s ask (Released parcels) own fits asks known = passed_fits h s ask (ports_of ask) parcels own fits asks asks.ports
told_fits h s ask Full own fits asks known = record { after = fits; answer = tt }

abbrev FitsMaybe : Option FragAsk → Type 0
FitsMaybe None = Unit {0}
FitsMaybe (Some f) = FitsFragAsk f

asked_fits : (part : Part) (ports : Ports) → ArePorts ports → FitsMaybe (frag_ask_of part ports)
asked_fits Whole ports are = tt
asked_fits (First key) ports are = are
asked_fits (Later key octets) ports are = tt

gathered_fits : (h : Holder) (s : NatState) (place : ℕ) (ask : Ask) (o : Option FragAsk) → FitsHolder h → FitsState s → FitsAsk ask → FitsMaybe o → FitsStep (gathered h s place ask o)
gathered_fits h s place ask None own fits asks may = passed_fits h s ask (ports_of ask) [] own fits asks asks.ports
gathered_fits h s place ask (Some f) own fits asks may =
    let step = frag_fits (record { clock = s.clock; notes = s.notes }) s.clock place f may fits.notes in
    let noted : NatState = record s { notes = (frag (record { clock = s.clock; notes = s.notes }) s.clock place f).after.notes } in
    told_fits h noted ask (frag (record { clock = s.clock; notes = s.notes }) s.clock place f).answer own (record { book = fits.book; bindings = fits.bindings; notes = step.notes }) asks step.told

held_by_fits : (s : NatState) (place : ℕ) (ask : Ask) (o : Option Holder) → FitsState s → FitsAsk ask → ((h : Holder) → o ≡ Some h → FitsHolder h) → FitsStep (held_by s place ask o)
held_by_fits s place ask None fits asks own = record { after = fits; answer = tt }
held_by_fits s place ask (Some h) fits asks own =
    cond_both (arrives h ask) (gathered h s place ask (frag_ask_of (part_of ask) (ports_of ask))) (refuses s WrongDestination []) FitsStep
    (λ e. gathered_fits h s place ask (frag_ask_of (part_of ask) (ports_of ask)) (own h refl) fits asks (asked_fits (part_of ask) (ports_of ask) asks.ports)) (λ e. record { after = fits; answer = tt })

at_time_fits : (now : ℕ) (s : NatState) → FitsState s → FitsState (at_time now s)
unfolding at_time
at_time_fits now s fits = record { book = fits.book; bindings = All-filter (is_unexpired (max s.clock now)) FitsBinding s.bindings fits.bindings; notes = fits.notes }

timed_fits : (prefix : Prefix6) (s : NatState) (now place : ℕ) (ask : Ask) → FitsState s → FitsAsk ask → FitsStep (timed prefix s now place ask)
unfolding timed
timed_fits prefix s now place ask fits asks =
    let t = at_time now s in
    let then = at_time_fits now s fits in
    held_by_fits t place ask (holder_at prefix t) then asks (λ h e. held_small t.book.rules prefix h then.book.each e)

staying_fit : (old new : Option Holder) (bs : List Binding) → All FitsBinding bs → All FitsBinding (staying old new bs)
unfolding staying
staying_fit old None bs all = All-nil FitsBinding
staying_fit None (Some h) bs all = All-filter (outlives h) FitsBinding bs all
staying_fit (Some g) (Some h) bs all = cond_both (same_holding g h) bs (filter (outlives h) bs) (All FitsBinding) (λ e. all) (λ e. All-filter (outlives h) FitsBinding bs all)

renewed_fits : (prefix : Prefix6) (seen : Generation) (s : NatState) → FitBook seen.rules seen.dmr → FitsState s → FitsState (renewed prefix seen s)
unfolding renewed
renewed_fits prefix seen s book fits =
    let new : NatState = record s { book = seen; bindings = staying (holder_of s.book.rules prefix) (holder_of seen.rules prefix) s.bindings } in
    cond_both (nat_lt s.book.number seen.number) new s FitsState
    (λ e. record { book = book; bindings = staying_fit (holder_of s.book.rules prefix) (holder_of seen.rules prefix) s.bindings fits.bindings; notes = fits.notes }) (λ e. fits)

nat_fits : (prefix : Prefix6) (s : NatState) (m : Moment) (ask : Ask) → FitBook m.seen.rules m.seen.dmr → FitsState s → FitsAsk ask → FitsStep (nat prefix s m ask)
unfolding nat
nat_fits prefix s m ask book fits asks = timed_fits prefix (renewed prefix m.seen s) m.now m.place ask (renewed_fits prefix m.seen s book fits) asks

pub answer_fits : (prefix : Prefix6) (s : NatState) (m : Moment) (ask : Ask) → FitBook m.seen.rules m.seen.dmr → FitsState s → FitsAsk ask → FitsAnswer (nat prefix s m ask).answer
answer_fits prefix s m ask book fits asks = (nat_fits prefix s m ask book fits asks).answer

pub state_fits : (prefix : Prefix6) (s : NatState) (m : Moment) (ask : Ask) → FitBook m.seen.rules m.seen.dmr → FitsState s → FitsAsk ask → FitsState (nat prefix s m ask).after
state_fits prefix s m ask book fits asks = (nat_fits prefix s m ask book fits asks).after

-- ---- a history

abbrev FitsGeneration : Generation → Type 0
FitsGeneration g = FitBook g.rules g.dmr

book_fits : (number : ℕ) (books : List Generation) (other : Generation) → FitsGeneration other → All FitsGeneration books → FitsGeneration (unwrap_or (book_of number books) other)
book_fits number [] other fits all = fits
book_fits number (g ∷ books) other fits all =
    by (g.number == number) (book_fits number books other fits (All-tail FitsGeneration g books all))
  where
    by : (b : Bool) → FitsGeneration (unwrap_or (book_of number books) other) → FitsGeneration (unwrap_or (cond b (Some g) (book_of number books)) other)
    by true later = All-head FitsGeneration g books all
    by false later = later

further_fits : (prefix : Prefix6) (books : List Generation) (r : Reached) (e : Entry) → All FitsGeneration books → FitsState r.state → FitsAsk e.ask → FitsStep (entry_step nat prefix books r e)
further_fits prefix books r e all fits asks =
    nat_fits prefix r.state (record { seen = unwrap_or (book_of e.mark.used books) r.state.book; now = e.now; place = r.place }) e.ask (book_fits e.mark.used books r.state.book fits.book all) fits asks

good_fits : (prefix : Prefix6) (books : List Generation) (r : Reached) (entries : List Entry) → All FitsGeneration books → FitsState r.state → All (λ (e : Entry). FitsAsk e.ask) entries → AreGoodFrom nat prefix books r entries
    → All (λ (e : Entry). FitsAnswer e.answer) entries
good_fits prefix books r [] all fits asks good = All-nil (λ (e : Entry). FitsAnswer e.answer)
good_fits prefix books r (e ∷ entries) all fits asks good =
    let step = further_fits prefix books r e all fits (All-head (λ (x : Entry). FitsAsk x.ask) e entries asks) in
    All-cons (λ (x : Entry). FitsAnswer x.answer) e entries (subst FitsAnswer (sym good.0.answer) step.answer)
    (good_fits prefix books (further nat prefix books r e) entries all step.after (All-tail (λ (x : Entry). FitsAsk x.ask) e entries asks) good.1)

replayed_fits : (prefix : Prefix6) (books : List Generation) (r : Reached) (entries : List Entry) → All FitsGeneration books → FitsState r.state → All (λ (e : Entry). FitsAsk e.ask) entries
    → FitsState (replay_from nat prefix books r entries).state
replayed_fits prefix books r [] all fits asks = fits
replayed_fits prefix books r (e ∷ entries) all fits asks =
    let step = further_fits prefix books r e all fits (All-head (λ (x : Entry). FitsAsk x.ask) e entries asks) in
    replayed_fits prefix books (further nat prefix books r e) entries all step.after (All-tail (λ (x : Entry). FitsAsk x.ask) e entries asks)

start_fits : (start : EdgeStart) (books : List Generation) → FitsStart start books → FitsState (first_state start)
start_fits start books fits = record { book = fits.book; bindings = fits.kept; notes = All-nil FitsNote }

pub answers_fit : (start : EdgeStart) (books : List Generation) (entries : List Entry) → FitsStart start books → All (λ (e : Entry). FitsAsk e.ask) entries → IsGood nat start books entries → All (λ (e : Entry). FitsAnswer e.answer) entries
answers_fit start books entries fits asks good = good_fits start.prefix books (outset start) entries fits.later (start_fits start books fits) asks good

pub history_fits : (start : EdgeStart) (books : List Generation) (entries : List Entry) → FitsStart start books → All (λ (e : Entry). FitsAsk e.ask) entries → FitsState (replay_from nat start.prefix books (outset start) entries).state
history_fits start books entries fits asks = replayed_fits start.prefix books (outset start) entries fits.later (start_fits start books fits) asks
