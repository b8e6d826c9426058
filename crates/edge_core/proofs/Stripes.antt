-- One more entry of a stripe's history.
use Rattle.std.proofs.Common.{◌≡◌, ℕ, suc, ◌+◌, List, [], ◌∷◌, ◌++◌, length, sym, ap, ◌∙◌, add-zero, arith}
use Rattle.frag_table.specs.State.{FragState}
use Rattle.frag_table.specs.Frag.{FragStep, frag}
use Rattle.nat_model.specs.declared.stripe.StripeEntry.{StripeEntry}
use Rattle.nat_model.specs.Stripe.{no_notes, stripe_step, stripe_replay_from, AreStripeStepsFrom, stripe_replay, IsGoodStripe}

pub replay-push : (place : ℕ) (s : FragState) (entries : List StripeEntry) (e : StripeEntry) → stripe_replay_from place s (entries ++ e ∷ []) ≡ (stripe_step (place + length entries) (stripe_replay_from place s entries) e).after
replay-push place s [] e = ap (λ p. (stripe_step p s e).after) (sym (add-zero place))
replay-push place s (d ∷ entries) e =
    let shift : suc place + length entries ≡ place + length (d ∷ entries) = omega arith in
    replay-push (suc place) (stripe_step place s d).after entries e ∙ ap (λ p. (stripe_step p (stripe_replay_from (suc place) (stripe_step place s d).after entries) e).after) shift

pub steps-push : (place : ℕ) (s : FragState) (entries : List StripeEntry) (e : StripeEntry) → AreStripeStepsFrom place s entries → e.answer ≡ (stripe_step (place + length entries) (stripe_replay_from place s entries) e).answer → AreStripeStepsFrom place s (entries ++ e ∷ [])
steps-push place s [] e good answered = (answered ∙ ap (λ p. (stripe_step p s e).answer) (add-zero place), tt)
steps-push place s (d ∷ entries) e good answered =
    let shift : place + length (d ∷ entries) ≡ suc place + length entries = omega arith in
    (good.0, steps-push (suc place) (stripe_step place s d).after entries e good.1 (answered ∙ ap (λ p. (stripe_step p (stripe_replay_from (suc place) (stripe_step place s d).after entries) e).answer) shift))

-- a step that is the machine's, on the notes that the history gives, keeps the history good
pub stripe-more : (entries : List StripeEntry) (e : StripeEntry) (table after : FragState) (place : ℕ) → IsGoodStripe entries → table ≡ stripe_replay entries → place ≡ length entries → e.answer ≡ (frag table e.now place e.ask).answer → after ≡ (frag table e.now place e.ask).after → IsGoodStripe (entries ++ e ∷ []) × (after ≡ stripe_replay (entries ++ e ∷ []))
stripe-more entries e table after place good replays at answered left =
    let at_zero : place ≡ 0 + length entries = omega arith in
    let step = ap (λ s. frag s e.now place e.ask) replays ∙ ap (λ p. frag (stripe_replay entries) e.now p e.ask) at_zero in
    let answer_of = λ (s : FragStep). s.answer in
    let after_of = λ (s : FragStep). s.after in
    (steps-push 0 no_notes entries e good (answered ∙ ap answer_of step), left ∙ ap after_of step ∙ sym (replay-push 0 no_notes entries e))
