-- What a stripe released is some, at each entry of a good history.
use Rattle.std.proofs.Common.{◌≡◌, ℕ, suc, zero, List, [], ◌∷◌}
use Rattle.std.specs.Prelude.{slice_get, Some}
use Rattle.octets.specs.declared.parcel.Parcel.{Parcel}
use Rattle.frag_table.specs.declared.ask.FragAsk.{FragAsk}
use Rattle.frag_table.specs.declared.answer.FragAnswer.TheVariants.{Released}
use Rattle.frag_table.specs.State.{FragState}
use Rattle.frag_table.specs.Frag.{frag}
use Rattle.nat_model.specs.declared.stripe.StripeEntry.{StripeEntry}
use Rattle.nat_model.specs.Stripe.{AreStripeStepsFrom, stripe_step}

-- the law of the fragment machine: it releases one parcel at least
abbrev pub ReleasesSome : Type 0
ReleasesSome =
    (s : FragState) (now place : ℕ) (ask : FragAsk) (parcels : List Parcel) → (frag s now place ask).answer ≡ Released parcels → ¬ (parcels ≡ [])

-- so it is with the answer at each place of a good history
pub released-at : ReleasesSome → (place : ℕ) (s : FragState) (entries : List StripeEntry) (i : ℕ) (e : StripeEntry)
    → AreStripeStepsFrom place s entries → slice_get entries i ≡ Some e
    → (parcels : List Parcel) → e.answer ≡ Released parcels → ¬ (parcels ≡ [])
released-at law place s [] i e good there parcels released = absurd (cc)
released-at law place s (x ∷ entries) zero e good there parcels released =
    let same : x ≡ e = cc in
    let answer : (stripe_step place s x).answer ≡ Released parcels = cc (good.0) in
    law s x.now place x.ask parcels answer
released-at law place s (x ∷ entries) (suc i) e good there parcels released =
    released-at law (suc place) (stripe_step place s x).after entries i e good.1 there parcels released
