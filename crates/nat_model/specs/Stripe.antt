-- The history of a relay's stripe: its steps in their order, each with what was asked and what was answered.
use Rattle.std.specs.Prelude.{◌≡◌, ℕ, suc, List, [], ◌∷◌}
use Rattle.std.specs.Coded.{Coded-set, ×_prop, Unit-prop}
use Rattle.frag_table.specs.contracts.answer.FragAnswer as answer_row
use Rattle.frag_table.specs.declared.answer.FragAnswer.{FragAnswer}
use Rattle.frag_table.specs.State.{FragState}
use Rattle.frag_table.specs.Frag.{FragStep, frag}
use Rattle.nat_model.specs.declared.stripe.StripeEntry.{StripeEntry}

-- a table that has made no step
abbrev pub no_notes : FragState
no_notes = record { clock = 0; notes = [] }

-- the step of the fragment machine at an entry, which is made at the entry's place
abbrev pub stripe_step : ℕ → FragState → StripeEntry → FragStep
stripe_step place s e = frag s e.now place e.ask

-- the state after these entries, the first of which stands at this place
abbrev pub stripe_replay_from : ℕ → FragState → List StripeEntry → FragState
stripe_replay_from place s [] = s
stripe_replay_from place s (e ∷ entries) = stripe_replay_from (suc place) (stripe_step place s e).after entries

-- each of these entries has the answer that the machine gives after those before it
abbrev pub AreStripeStepsFrom : ℕ → FragState → List StripeEntry → Type 0
AreStripeStepsFrom place s [] = Unit {0}
AreStripeStepsFrom place s (e ∷ entries) =
    (e.answer ≡ (stripe_step place s e).answer) × AreStripeStepsFrom (suc place) (stripe_step place s e).after entries

-- the state after a whole history
abbrev pub stripe_replay : List StripeEntry → FragState
stripe_replay entries = stripe_replay_from 0 no_notes entries

-- a good history
abbrev pub IsGoodStripe : List StripeEntry → Type 0
IsGoodStripe entries = AreStripeStepsFrom 0 no_notes entries

answer-set : IsSet FragAnswer
answer-set = Coded-set answer_row.the_row.coded

-- a history is good in at most one way
pub AreStripeStepsFrom-prop : (place : ℕ) (s : FragState) (entries : List StripeEntry) → IsProp (AreStripeStepsFrom place s entries)
AreStripeStepsFrom-prop place s [] = Unit-prop
AreStripeStepsFrom-prop place s (e ∷ entries) =
    ×_prop (answer-set e.answer (stripe_step place s e).answer) (AreStripeStepsFrom-prop (suc place) (stripe_step place s e).after entries)

pub IsGoodStripe-prop : (entries : List StripeEntry) → IsProp (IsGoodStripe entries)
IsGoodStripe-prop entries = AreStripeStepsFrom-prop 0 no_notes entries
