-- The laws of the machine, over its definitions.
use Rattle.std.proofs.Common.{◌≡◌, ℕ, ◌<◌, ◌≤◌, Bool, true, false, not, List, [], ◌∷◌, Option, Some, None, zero, suc, refl, sym, ap, ◌∙◌, arith, ⊎_elim}
use Rattle.std.specs.List.{list_any}
use Rattle.std.proofs.lemmas.Bool.{cases_Bool, and_left, and_right, and_cases, not-false, both_ways, cases_lt}
use Rattle.std.proofs.lemmas.List.Folds.{Any-from_list_any, list_any-from_Any}
use Rattle.octets.specs.declared.prefix.Prefix6.{Prefix6}
use Rattle.rule_book.specs.Holder.{Holder}
use Rattle.nat_model.specs.declared.binding.Binding.{Binding}
use Rattle.nat_model.specs.Binding.{is_of_port, is_claimable_by}
use Rattle.nat_model.specs.Claim.{Wish, is_free, least_below, least_or_this, claimed_port}
use Rattle.nat_model.specs.State.{NatState}
use Rattle.nat_model.specs.Refusal.{IsFull}
use Rattle.nat_model.specs.Run.{Asked, state_after, step_of}
use Rattle.nat_model.specs.Sound.{IsSound}
use Rattle.nat_model.proofs.Claims.{least-none}
use Rattle.nat_model.proofs.EachStep.{nat-sound}

pub run-sound : (prefix : Prefix6) (place : ℕ) (s : NatState) (asks : List Asked) → IsSound prefix s → IsSound prefix (state_after prefix place s asks)
run-sound prefix place s [] sound = sound
run-sound prefix place s (a ∷ asks) sound =
    run-sound prefix (suc place) (step_of prefix place s a).after asks (nat-sound prefix s (record { seen = a.seen; now = a.now; place = place }) a.ask sound)

least_or-fails : (test : ℕ → Bool) (n : ℕ) (o : Option ℕ) → (o ≡ None → (y : ℕ) → y < n → test y ≡ false) → least_or_this test n o ≡ None → (y : ℕ) → y < suc n → test y ≡ false
least_or-fails test n (Some x) before e y lt = absurd (cc)
least_or-fails test n None before e y lt =
    let here : test n ≡ false =
    ⊎_elim
    (λ (t : test n ≡ true). let f : least_or_this test n None ≡ Some n = rw t refl in absurd (cc))
    (λ (t : test n ≡ false). t)
    (cases_Bool (test n))
    in
    ⊎_elim (λ (less : y < n). before refl y less) (λ (more : n ≤ y). let same : y ≡ n = omega arith in ap test same ∙ here) (cases_lt y n)

-- where no number below n is the least, none passes
pub least-fails : (test : ℕ → Bool) (n : ℕ) → least_below test n ≡ None → (y : ℕ) → y < n → test y ≡ false
unfolding least_below
least-fails test zero e y lt = absurd (omega arith)
least-fails test (suc n) e y lt = least_or-fails test n (least_below test n) (λ f z less. least-fails test n f z less) e y lt

-- a claim without a port
pub full : (h : Holder) (wish : Wish) (bs : List Binding) → ((x : ℕ) → x < 65536 → is_free h wish.proto bs x ≡ false) → IsFull h wish.proto bs
full h wish bs fails x lt claims =
    ⊎_elim
    (λ (n : is_claimable_by h x ≡ false). absurd (both_ways (is_claimable_by h x) n claims))
    (λ (n : not (list_any (is_of_port wish.proto x) bs) ≡ false). Any-from_list_any (is_of_port wish.proto x) bs (not-false _ n))
    (and_cases (is_claimable_by h x) (not (list_any (is_of_port wish.proto x) bs)) (fails x lt))

pub none-free : (h : Holder) (wish : Wish) (bs : List Binding) → IsFull h wish.proto bs → (x : ℕ) → x < 65536 → is_free h wish.proto bs x ≡ false
none-free h wish bs all x lt =
    ⊎_elim
    (λ (claims : is_claimable_by h x ≡ true). and_right (is_claimable_by h x) _ (ap not (list_any-from_Any (is_of_port wish.proto x) bs (all x lt claims))))
    (λ (n : is_claimable_by h x ≡ false). and_left (is_claimable_by h x) _ n)
    (cases_Bool (is_claimable_by h x))

pub no_port-full : (h : Holder) (wish : Wish) (bs : List Binding) → claimed_port h wish bs ≡ None → IsFull h wish.proto bs
unfolding claimed_port
no_port-full h wish bs e =
    ⊎_elim
    (λ (y : is_free h wish.proto bs wish.port ≡ true). let f : claimed_port h wish bs ≡ Some wish.port = rw y refl in absurd (cc))
    (λ (n : is_free h wish.proto bs wish.port ≡ false). let f : claimed_port h wish bs ≡ least_below (is_free h wish.proto bs) 65536 = rw n refl in full h wish bs (least-fails (is_free h wish.proto bs) 65536 (sym f ∙ e)))
    (cases_Bool (is_free h wish.proto bs wish.port))

pub full-no_port : (h : Holder) (wish : Wish) (bs : List Binding) → wish.port < 65536 → IsFull h wish.proto bs → claimed_port h wish bs ≡ None
unfolding claimed_port
full-no_port h wish bs lt all =
    let n : is_free h wish.proto bs wish.port ≡ false = none-free h wish bs all wish.port lt in
    let f : claimed_port h wish bs ≡ least_below (is_free h wish.proto bs) 65536 = rw n refl in
    f ∙ least-none (is_free h wish.proto bs) 65536 (none-free h wish bs all)
