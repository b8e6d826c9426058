-- What the last step of the machine does, by what is found.
use Rattle.std.proofs.Common.{◌≡◌, ℕ, Bool, List, [], ◌∷◌, ◌++◌, length, get_or, set, Option, Some, None, refl, sym, ap, ◌∙◌}
use Rattle.std.specs.List.{position}
use Rattle.std.proofs.Math.Seq.{set-append_seam}
use Rattle.octets.specs.declared.parcel.Parcel.{Parcel}
use Rattle.octets.specs.declared.proto.Proto.{Proto}
use Rattle.octets.specs.declared.cause.Cause.TheVariants.{NoBinding, NoPort}
use Rattle.rule_book.specs.Holder.{Holder}
use Rattle.nat_model.specs.declared.answer.Answer.TheVariants.{In}
use Rattle.nat_model.specs.declared.ask.End4.{End4}
use Rattle.nat_model.specs.declared.binding.Binding.{Binding}
use Rattle.nat_model.specs.Binding.{is_of_host, is_of_port, refreshed, entered, kept_until}
use Rattle.nat_model.specs.Claim.{Wish, Bound, bound, bound_as, claimed_port, claim}
use Rattle.nat_model.specs.Fragment.{Gathered}
use Rattle.nat_model.specs.Remote.{Remote}
use Rattle.nat_model.proofs.Claims.{place-tells, no-place}
use Rattle.nat_model.specs.State.{NatState}
use Rattle.nat_model.specs.Machine.{ends, refuses, with_bindings, with_entry, received, received_by, sent_error, sent_error_by, sent_flow, sent_by, sent_from, keeps, kept_by}

pub received-none : (s : NatState) (fault : Bool) (proto : Proto) (g : Gathered) (r : Remote) → position (is_of_port proto g.ports.dst) s.bindings ≡ None → received s fault proto g r ≡ refuses s NoBinding g.freed
unfolding received
received-none s fault proto g r e =
    ap (λ o. received_by s (with_entry s fault proto g.ports.dst) g.freed r o) (no-place (is_of_port proto g.ports.dst) s.bindings e)

pub received-at : (s : NatState) (fault : Bool) (proto : Proto) (g : Gathered) (r : Remote) (at : ℕ) (b : Binding) → position (is_of_port proto g.ports.dst) s.bindings ≡ Some at → b ≡ get_or s.bindings at b → received s fault proto g r ≡ ends (with_bindings s (set s.bindings at (entered fault s.clock b))) (In b.host b.host_port r.from r.peer g.freed)
unfolding received
received-at s fault proto g r at b e is =
    let tells = place-tells (is_of_port proto g.ports.dst) s.bindings at b e in
    ap (λ o. received_by s (with_entry s fault proto g.ports.dst) g.freed r o) (tells.1 ∙ ap (λ x. Some x) (sym is)) ∙ ap (λ ys. ends (with_bindings s ys) (In b.host b.host_port r.from r.peer g.freed)) (tells.2 (entered fault s.clock) ∙ ap (λ x. set s.bindings at (entered fault s.clock x)) (sym is))

pub sent_error-none : (h : Holder) (s : NatState) (wish : Wish) (far : End4) (freed : List Parcel) → position (is_of_host wish.proto wish.near) s.bindings ≡ None → sent_error h s wish far freed ≡ refuses s NoBinding freed
unfolding sent_error
sent_error-none h s wish far freed e = ap (λ o. sent_error_by h s far freed o) (no-place (is_of_host wish.proto wish.near) s.bindings e)

pub sent_error-at : (h : Holder) (s : NatState) (wish : Wish) (far : End4) (freed : List Parcel) (at : ℕ) (d : Binding) → position (is_of_host wish.proto wish.near) s.bindings ≡ Some at → sent_error h s wish far freed ≡ ends s (sent_from h s (get_or s.bindings at d) far freed)
unfolding sent_error
sent_error-at h s wish far freed at d e =
    let tells = place-tells (is_of_host wish.proto wish.near) s.bindings at d e in
    ap (λ o. sent_error_by h s far freed o) tells.1

pub sent_flow-none : (h : Holder) (s : NatState) (wish : Wish) (far : End4) (freed : List Parcel) → bound h s.clock wish (refreshed s.clock) s.bindings ≡ None → sent_flow h s wish far freed ≡ refuses s NoPort freed
unfolding sent_flow
sent_flow-none h s wish far freed e = ap (λ o. sent_by h s far freed o) e

pub sent_flow-some : (h : Holder) (s : NatState) (wish : Wish) (far : End4) (freed : List Parcel) (b : Bound) → bound h s.clock wish (refreshed s.clock) s.bindings ≡ Some b → sent_flow h s wish far freed ≡ ends (with_bindings s b.bindings) (sent_from h s b.binding far freed)
unfolding sent_flow
sent_flow-some h s wish far freed b e = ap (λ o. sent_by h s far freed o) e

pub keeps-none : (h : Holder) (s : NatState) (wish : Wish) (until : ℕ) → bound h s.clock wish (kept_until until) s.bindings ≡ None → keeps h s wish until ≡ kept_by s None
unfolding keeps
keeps-none h s wish until e = ap (λ o. kept_by s o) e

pub keeps-some : (h : Holder) (s : NatState) (wish : Wish) (until : ℕ) (b : Bound) → bound h s.clock wish (kept_until until) s.bindings ≡ Some b → keeps h s wish until ≡ kept_by s (Some b)
unfolding keeps
keeps-some h s wish until b e = ap (λ o. kept_by s o) e

pub bound-at : (h : Holder) (clock : ℕ) (wish : Wish) (change : Binding → Binding) (bs : List Binding) (at : ℕ) (b : Binding) → position (is_of_host wish.proto wish.near) bs ≡ Some at → b ≡ get_or bs at b → bound h clock wish change bs ≡ Some (record { binding = change b; bindings = set bs at (change b) })
unfolding bound
bound-at h clock wish change bs at b e is =
    let tells = place-tells (is_of_host wish.proto wish.near) bs at b e in
    let made : List Binding → Option Bound = λ ys. Some (record { binding = change b; bindings = ys }) in
    ap (λ o. bound_as h clock wish change bs o) (tells.1 ∙ ap (λ x. Some x) (sym is)) ∙ ap made (tells.2 change ∙ ap (λ x. set bs at (change x)) (sym is))

pub bound-claimed : (h : Holder) (clock : ℕ) (wish : Wish) (change : Binding → Binding) (bs after : List Binding) (x n : ℕ) → position (is_of_host wish.proto wish.near) bs ≡ None → claimed_port h wish bs ≡ Some x → after ≡ bs ++ claim clock wish x ∷ [] → n ≡ length bs → bound h clock wish change bs ≡ Some (record { binding = change (claim clock wish x); bindings = set after n (change (claim clock wish x)) })
unfolding bound
bound-claimed h clock wish change bs after x n e p pushed long =
    let none = no-place (is_of_host wish.proto wish.near) bs e in
    let b : Binding = claim clock wish x in
    let made : List Binding → Option Bound = λ ys. Some (record { binding = change b; bindings = ys }) in
    let seam : set after n (change b) ≡ bs ++ change b ∷ [] = rw (pushed, long) (set-append_seam bs b [] (change b)) in
    let first : bound h clock wish change bs ≡ made (bs ++ change b ∷ []) = rw (none, p) refl in
    first ∙ ap made (sym seam)

pub bound-none : (h : Holder) (clock : ℕ) (wish : Wish) (change : Binding → Binding) (bs : List Binding) → position (is_of_host wish.proto wish.near) bs ≡ None → claimed_port h wish bs ≡ None → bound h clock wish change bs ≡ None
unfolding bound
bound-none h clock wish change bs e p = let none = no-place (is_of_host wish.proto wish.near) bs e in rw (none, p) refl
