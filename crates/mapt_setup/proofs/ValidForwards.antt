-- The forwards that are set up are valid.
use Rattle.std.proofs.Common.{◌≡◌, ℕ, zero, suc, ◌<◌, ◌≤◌, Bool, true, false, List, [], ◌∷◌, length, get_or, take, refl, sym, ap, subst, arith, None}
use Rattle.std.specs.Prelude.{not, nat_eq, ◌||◌, IsTrue}
use Rattle.std.specs.List.{All, AllPairs, AllZip, list_any, position}
use Rattle.std.proofs.lemmas.Bool.{eq-eqb}
use Rattle.std.proofs.lemmas.List.{get_or-take, length-take-le}
use Rattle.octets.proofs.Places.{position-exactly, position-none}
use Rattle.octets.specs.declared.proto.Proto.{Proto}
use Rattle.octets.specs.declared.proto.Proto.TheVariants.{Tcp, Udp, Icmp}
use Rattle.map_rules.specs.declared.rule.Rule.{Rule}
use Rattle.rule_book.proofs.Sound.{map-None}
use Rattle.nat_model.specs.Binding.{same_proto}
use Rattle.nat_model.specs.Sound.{AreApart}
use Rattle.setup_tables.specs.declared.edge.EdgeLine.{EdgeLine}
use Rattle.setup_tables.specs.declared.forward.ForwardText.{ForwardText}
use Rattle.mapt_setup.specs.declared.forward.ForwardLine.{ForwardLine}
use Rattle.mapt_setup.specs.Beside.{first_after}
use Rattle.setup_tables.specs.Forward.{never}
use Rattle.mapt_setup.specs.Claims.{IsAtEdge, holder_of_edge, may_claim, is_unclaimable, collides, is_taken, forward_fault}
use Rattle.mapt_setup.specs.Valid.{AreValidForwards}
use Rattle.setup_tables.specs.declared.fault.SetupCause.TheVariants.{ForwardPort, ForwardTwice}
use Rattle.setup_tables.specs.declared.fault.SetupFault.TheVariants.{Refused}
use Rattle.mapt_setup.proofs.FirstBeside.{none-is}
use Rattle.mapt_setup.proofs.FirstEdges.{both_none}
use Rattle.setup_tables.proofs.ListReads.{all_given}
use Rattle.setup_tables.proofs.TablesInRange.{IsKept}

-- ---- each forward

not_false : (b : Bool) → not b ≡ false → b ≡ true
not_false true e = refl
not_false false e = cc

kept_placed : (edges : List EdgeLine) (text : ForwardText) (forward : ForwardLine) → IsKept text.binding → IsAtEdge edges text forward → IsKept forward.binding × (forward.edge < length edges)
kept_placed edges text forward kept is =
    (subst IsKept (sym is.binding) kept, ((position-exactly _ edges forward.edge).0 is.edge).within)

claimable : (rules : List Rule) (edges : List EdgeLine) (forwards : List ForwardLine) → position (is_unclaimable rules edges) forwards ≡ None → All (λ f. IsTrue (may_claim (holder_of_edge rules edges f.edge) f.binding.port)) forwards
claimable rules edges forwards none k d within = not_false _ (position-none (is_unclaimable rules edges) forwards none k d within)

-- ---- two forwards

same_protos : (p q : Proto) → p ≡ q → same_proto p q ≡ true
same_protos Tcp q e = subst (λ (z : Proto). same_proto Tcp z ≡ true) e refl
same_protos Udp q e = subst (λ (z : Proto). same_proto Udp z ≡ true) e refl
same_protos Icmp q e = subst (λ (z : Proto). same_proto Icmp z ≡ true) e refl

pub all_fail : {A : Type 0} (test : A → Bool) (xs : List A) → ¬ (list_any test xs ≡ true) → (j : ℕ) (d : A) → j < length xs → ¬ (test (get_or xs j d) ≡ true)
all_fail test [] never j d within pass = omega arith
all_fail test (x ∷ xs) never zero d within pass = never (ap (λ b. b || list_any test xs) pass)
all_fail test (x ∷ xs) never (suc j) d within pass = all_fail test xs (λ rest. never (or_right (test x) rest)) j d (omega arith) pass
  where
    or_right : (b : Bool) → list_any test xs ≡ true → (b || list_any test xs) ≡ true
    or_right true e = refl
    or_right false e = e

-- what makes two collide
port_collides : (f g : ForwardLine) → f.edge ≡ g.edge → f.binding.proto ≡ g.binding.proto → f.binding.port ≡ g.binding.port → collides g f ≡ true
port_collides f g edge proto port =
    rw (eq-eqb f.edge g.edge edge, same_protos f.binding.proto g.binding.proto proto, eq-eqb f.binding.port g.binding.port port) refl

host_collides : (f g : ForwardLine) → f.edge ≡ g.edge → f.binding.proto ≡ g.binding.proto → f.binding.host ≡ g.binding.host → f.binding.host_port ≡ g.binding.host_port → collides g f ≡ true
host_collides f g edge proto host port =
    rw (eq-eqb f.edge g.edge edge, same_protos f.binding.proto g.binding.proto proto, eq-eqb f.binding.host.0 g.binding.host.0 (ap (λ h. h.0) host), eq-eqb f.binding.host_port g.binding.host_port port) (or_true (nat_eq f.binding.port g.binding.port))
  where
    or_true : (b : Bool) → (b || true) ≡ true
    or_true true = refl
    or_true false = refl

apart_unless : (f g : ForwardLine) → ¬ (collides g f ≡ true) → f.edge ≡ g.edge → AreApart f.binding g.binding
apart_unless f g never edge = record {
  ports = λ proto port. never (port_collides f g edge proto port);
  hosts = λ proto host port. never (host_collides f g edge proto host port);
}

apart : (forwards : List ForwardLine) → first_after is_taken forwards ≡ None → AllPairs (λ f g. f.edge ≡ g.edge → AreApart f.binding g.binding) forwards
apart forwards none i j d before within =
    let never = none-is is_taken forwards none j d within in
    let short : i < length (take j forwards) = omega (arith, length-take-le j forwards (omega arith)) in
    let fails = all_fail (collides (get_or forwards j d)) (take j forwards) never i d short in
    let same : get_or (take j forwards) i d ≡ get_or forwards i d = get_or-take j forwards i d before in
    apart_unless (get_or forwards i d) (get_or forwards j d) (subst (λ (f : ForwardLine). ¬ (collides (get_or forwards j d) f ≡ true)) same fails)

-- ---- the whole

pub valid_forwards : (rules : List Rule) (edges : List EdgeLine) (texts : List ForwardText) (forwards : List ForwardLine)
    → length forwards ≤ 256 → All (λ t. IsKept t.binding) texts → AllZip (IsAtEdge edges) texts forwards → forward_fault rules edges forwards ≡ None
    → AreValidForwards rules edges forwards
valid_forwards rules edges texts forwards few kept placed none =
    let both = both_none _ _ none in
    let ports = claimable rules edges forwards (map-None (Refused ForwardPort) _ both.0) in
    let parts = all_given (λ t. IsKept t.binding) (IsAtEdge edges) (λ f. IsKept f.binding × (f.edge < length edges)) (kept_placed edges) texts forwards kept placed in
    record {
      few = few;
      each = λ k d within. record {
        edge = (parts k d within).1;
        port = ports k d within;
        kept = (parts k d within).0.kept;
        live = (parts k d within).0.live;
        deadline = (parts k d within).0.deadline;
      };
      apart = apart forwards (map-None (Refused ForwardTwice) _ both.1);
    }
