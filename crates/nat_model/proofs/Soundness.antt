-- Each step keeps the bindings sound: of one protocol they have different ports and different host ends, and the holder
-- may claim the port of each.
use Rattle.std.proofs.Common.{◌≡◌, ℕ, ◌<◌, Bool, true, false, not, ◌&&◌, IsTrue, List, [], ◌∷◌, ◌++◌, Option, Some, None, option_map, length, get_or, zero, suc, refl, sym, ap, ◌∙◌, subst, arith, ⊎_elim}
use Rattle.std.specs.List.{find, list_any}
use Rattle.std.proofs.lemmas.Bool.{cond_both, cases_Bool, and_parts, and_from, not-true, eq-eqb, both_ways}
use Rattle.std.proofs.lemmas.List.Elements.{All-push}
use Rattle.std.proofs.lemmas.List.Quantifiers.{all_pairs_push}
use Rattle.std.proofs.lemmas.List.Folds.{list_any_at}
use Rattle.octets.specs.declared.proto.Proto.{Proto}
use Rattle.octets.specs.declared.proto.Proto.TheVariants.{Tcp, Udp, Icmp}
use Rattle.rule_book.specs.Holder.{Holder}
use Rattle.nat_model.specs.declared.binding.Binding.{Binding}
use Rattle.nat_model.specs.Binding.{same_proto, is_of_host, is_of_port, is_claimable_by, refreshed, entered, kept_until, first_changed}
use Rattle.nat_model.specs.Claim.{Wish, is_free, least_below, least_or_this, claimed_port, claim, Bound, bound, bound_as, added}
use Rattle.nat_model.specs.Sound.{AreApart, AreSound}

-- a binding has the same protocol, host end and outside port
pub record SameEnds (b c : Binding) : Type 0 where
  pub proto : c.proto ≡ b.proto
  pub host : c.host ≡ b.host
  pub host_port : c.host_port ≡ b.host_port
  pub port : c.port ≡ b.port

pub same-ends : (b : Binding) → SameEnds b b
same-ends b = record { proto = refl; host = refl; host_port = refl; port = refl }

-- a change leaves them
abbrev pub KeepsEnds : (Binding → Binding) → Type 0
KeepsEnds change = (b : Binding) → SameEnds b (change b)

pub refreshed-keeps : (clock : ℕ) → KeepsEnds (refreshed clock)
refreshed-keeps clock b = record { proto = refl; host = refl; host_port = refl; port = refl }

pub kept-keeps : (until : ℕ) → KeepsEnds (kept_until until)
kept-keeps until b = record { proto = refl; host = refl; host_port = refl; port = refl }

pub entered-keeps : (fault : Bool) (clock : ℕ) → KeepsEnds (entered fault clock)
entered-keeps fault clock b =
    cond_both (same_proto b.proto Tcp && not fault) (refreshed clock (record b { live = true })) b (SameEnds b)
    (λ e. record { proto = refl; host = refl; host_port = refl; port = refl }) (λ e. same-ends b)

-- what is apart stays so
pub apart-same : (b c x y : Binding) → SameEnds b x → SameEnds c y → AreApart b c → AreApart x y
apart-same b c x y p q apart = record {
  ports = λ e f. apart.ports (sym p.proto ∙ e ∙ q.proto) (sym p.port ∙ f ∙ q.port);
  hosts = λ e f g. apart.hosts (sym p.proto ∙ e ∙ q.proto) (sym p.host ∙ f ∙ q.host) (sym p.host_port ∙ g ∙ q.host_port);
}

-- at each place the ends are the same after a change of the first that passes
pub ends-at : (test : Binding → Bool) (change : Binding → Binding) → KeepsEnds change → (bs : List Binding) (i : ℕ) (d : Binding) → SameEnds (get_or bs i d) (get_or (first_changed test change bs) i d)
ends-at test change keeps [] i d = same-ends d
ends-at test change keeps (b ∷ bs) zero d =
    cond_both (test b) (change b ∷ bs) (b ∷ first_changed test change bs) (λ ys. SameEnds b (get_or ys 0 d)) (λ e. keeps b) (λ e. same-ends b)
ends-at test change keeps (b ∷ bs) (suc i) d =
    cond_both (test b) (change b ∷ bs) (b ∷ first_changed test change bs) (λ ys. SameEnds (get_or bs i d) (get_or ys (suc i) d)) (λ e. same-ends (get_or bs i d)) (λ e. ends-at test change keeps bs i d)

pub length-first_changed : (test : Binding → Bool) (change : Binding → Binding) (bs : List Binding) → length (first_changed test change bs) ≡ length bs
length-first_changed test change [] = refl
length-first_changed test change (b ∷ bs) =
    cond_both (test b) (change b ∷ bs) (b ∷ first_changed test change bs) (λ ys. length ys ≡ suc (length bs)) (λ e. refl) (λ e. ap suc (length-first_changed test change bs))

pub changed-sound : (h : Holder) (test : Binding → Bool) (change : Binding → Binding) (bs : List Binding) → KeepsEnds change → AreSound (Some h) bs → AreSound (Some h) (first_changed test change bs)
changed-sound h test change bs keeps sound =
    let long : length (first_changed test change bs) ≡ length bs = length-first_changed test change bs in
    record {
      apart = λ i j d lt within. apart-same (get_or bs i d) (get_or bs j d) _ _ (ends-at test change keeps bs i d) (ends-at test change keeps bs j d) (sound.apart i j d lt (omega arith));
      claimable = λ k d within. let P : ℕ → Type 0 = λ x. IsTrue (is_claimable_by h x) in subst P (sym (ends-at test change keeps bs k d).port) (sound.claimable k d (omega arith));
    }

-- a protocol is itself
pub same_proto-refl : (proto : Proto) → same_proto proto proto ≡ true
same_proto-refl Tcp = refl
same_proto-refl Udp = refl
same_proto-refl Icmp = refl

pub same_proto-at : (p q : Proto) → p ≡ q → same_proto p q ≡ true
same_proto-at p q e = ap (λ x. same_proto x q) e ∙ same_proto-refl q

-- what isn't found isn't there
pub none-found : (test : Binding → Bool) (bs : List Binding) → find test bs ≡ None → (k : ℕ) (d : Binding) → k < length bs → test (get_or bs k d) ≡ false
none-found test [] e k d lt = absurd (omega arith)
none-found test (b ∷ bs) e zero d lt =
    ⊎_elim (λ (yes : test b ≡ true). let f : find test (b ∷ bs) ≡ Some b = rw yes refl in absurd (cc)) (λ (no : test b ≡ false). no) (cases_Bool (test b))
none-found test (b ∷ bs) e (suc k) d lt =
    ⊎_elim
    (λ (yes : test b ≡ true). let f : find test (b ∷ bs) ≡ Some b = rw yes refl in absurd (cc))
    (λ (no : test b ≡ false). let f : find test (b ∷ bs) ≡ find test bs = rw no refl in none-found test bs (sym f ∙ e) k d (omega arith))
    (cases_Bool (test b))

pub none-any : (test : Binding → Bool) (bs : List Binding) → list_any test bs ≡ false → (k : ℕ) (d : Binding) → k < length bs → test (get_or bs k d) ≡ false
none-any test bs e k d lt =
    ⊎_elim
    (λ (yes : test (get_or bs k d) ≡ true). absurd (both_ways (list_any test bs) e (list_any_at test bs k d lt yes)))
    (λ (no : test (get_or bs k d) ≡ false). no)
    (cases_Bool (test (get_or bs k d)))

pub least_or-passes : (test : ℕ → Bool) (n x : ℕ) (o : Option ℕ) → ((y : ℕ) → o ≡ Some y → (y < n) × (test y ≡ true)) → least_or_this test n o ≡ Some x → (x < suc n) × (test x ≡ true)
least_or-passes test n x (Some y) before e = let same : y ≡ x = cc in let p = before y refl in (omega (arith, p.0), ap test (sym same) ∙ p.1)
least_or-passes test n x None before e =
    ⊎_elim
    (λ (yes : test n ≡ true). let same : n ≡ x = (let f : least_or_this test n None ≡ Some n = rw yes refl in cc) in (omega arith, ap test (sym same) ∙ yes))
    (λ (no : test n ≡ false). let f : least_or_this test n None ≡ None = rw no refl in absurd (cc))
    (cases_Bool (test n))

-- the least number that passes does pass
pub least-passes : (test : ℕ → Bool) (n x : ℕ) → least_below test n ≡ Some x → (x < n) × (test x ≡ true)
unfolding least_below
least-passes test zero x e = absurd (cc)
least-passes test (suc n) x e = least_or-passes test n x (least_below test n) (λ y f. least-passes test n y f) e

-- the port of a claim is free
pub claimed-free : (h : Holder) (wish : Wish) (bs : List Binding) (x : ℕ) → claimed_port h wish bs ≡ Some x → is_free h wish.proto bs x ≡ true
unfolding claimed_port
claimed-free h wish bs x e =
    ⊎_elim
    (λ (yes : is_free h wish.proto bs wish.port ≡ true). let f : claimed_port h wish bs ≡ Some wish.port = rw yes refl in let same : wish.port ≡ x = cc in ap (is_free h wish.proto bs) (sym same) ∙ yes)
    (λ (no : is_free h wish.proto bs wish.port ≡ false). let f : claimed_port h wish bs ≡ least_below (is_free h wish.proto bs) 65536 = rw no refl in (least-passes (is_free h wish.proto bs) 65536 x (sym f ∙ e)).1)
    (cases_Bool (is_free h wish.proto bs wish.port))

-- a claim is apart from all others
pub claim-apart : (clock : ℕ) (wish : Wish) (x : ℕ) (b : Binding) → is_of_host wish.proto wish.near b ≡ false → is_of_port wish.proto x b ≡ false → AreApart b (claim clock wish x)
claim-apart clock wish x b host port = record {
  ports = λ e f. both_ways (is_of_port wish.proto x b) port (and_from (same_proto b.proto wish.proto) _ (same_proto-at b.proto wish.proto e) (eq-eqb b.port x f));
  hosts = λ e f g. both_ways (is_of_host wish.proto wish.near b) host (and_from (same_proto b.proto wish.proto) _ (same_proto-at b.proto wish.proto e) (and_from _ _ (eq-eqb b.host.0 wish.near.addr.0 (ap (λ a. a.0) f)) (eq-eqb b.host_port wish.near.port g)));
}

pub added-sound : (h : Holder) (clock : ℕ) (wish : Wish) (change : Binding → Binding) (bs : List Binding) (x : ℕ) → KeepsEnds change → AreSound (Some h) bs → find (is_of_host wish.proto wish.near) bs ≡ None → is_free h wish.proto bs x ≡ true → AreSound (Some h) (bs ++ change (claim clock wish x) ∷ [])
added-sound h clock wish change bs x keeps sound none free =
    let parts = and_parts (is_claimable_by h x) _ free in
    let new = claim clock wish x in
    let ends = keeps new in
    let apart = λ (k : ℕ) (d : Binding) (lt : k < length bs). apart-same (get_or bs k d) new (get_or bs k d) (change new) (same-ends (get_or bs k d)) ends (claim-apart clock wish x (get_or bs k d) (none-found (is_of_host wish.proto wish.near) bs none k d lt) (none-any (is_of_port wish.proto x) bs (not-true _ parts.1) k d lt)) in
    let P : ℕ → Type 0 = λ y. IsTrue (is_claimable_by h y) in
    record {
      apart = all_pairs_push AreApart bs (change new) sound.apart apart;
      claimable = All-push (λ b. IsTrue (is_claimable_by h b.port)) bs (change new) sound.claimable (subst P (sym ends.port) parts.0);
    }

-- the bindings of a step that has one
abbrev pub SoundBound : Holder → Option Bound → Type 0
SoundBound h None = Unit {0}
SoundBound h (Some b) = AreSound (Some h) b.bindings

pub claimed-sound : (h : Holder) (clock : ℕ) (wish : Wish) (change : Binding → Binding) (bs : List Binding) (o : Option ℕ) → KeepsEnds change → AreSound (Some h) bs → find (is_of_host wish.proto wish.near) bs ≡ None → claimed_port h wish bs ≡ o → SoundBound h (option_map (λ x. added change bs (claim clock wish x)) o)
claimed-sound h clock wish change bs None keeps sound none e = tt
claimed-sound h clock wish change bs (Some x) keeps sound none e = added-sound h clock wish change bs x keeps sound none (claimed-free h wish bs x e)

pub bound_as-sound : (h : Holder) (clock : ℕ) (wish : Wish) (change : Binding → Binding) (bs : List Binding) (o : Option Binding) → KeepsEnds change → AreSound (Some h) bs → find (is_of_host wish.proto wish.near) bs ≡ o → SoundBound h (bound_as h clock wish change bs o)
bound_as-sound h clock wish change bs (Some b) keeps sound e = changed-sound h (is_of_host wish.proto wish.near) change bs keeps sound
bound_as-sound h clock wish change bs None keeps sound e = claimed-sound h clock wish change bs (claimed_port h wish bs) keeps sound e refl

pub bound-sound : (h : Holder) (clock : ℕ) (wish : Wish) (change : Binding → Binding) (bs : List Binding) → KeepsEnds change → AreSound (Some h) bs → SoundBound h (bound h clock wish change bs)
unfolding bound
bound-sound h clock wish change bs keeps sound = bound_as-sound h clock wish change bs (find (is_of_host wish.proto wish.near) bs) keeps sound refl
