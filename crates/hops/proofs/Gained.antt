-- What a hop gains.
use Rattle.std.proofs.Common.{◌≡◌, ◌∙◌, refl, sym, ap, subst, ℕ, List, [], ◌∷◌, ◌++◌, append_assoc}
use Rattle.std.specs.Prelude.{Result, Ok, Err, OnOk}
use Rattle.std.proofs.lemmas.List.{append-nil}
use Rattle.octets.specs.declared.cause.Cause.{Cause}
use Rattle.octets.specs.declared.cause.Cause.TheVariants.{TtlSpent, TooBig as IsTooBig}
use Rattle.octets.specs.declared.parcel.Parcel.{Parcel}
use Rattle.hops.specs.declared.hop.Hop.{Hop}
use Rattle.hops.specs.declared.hop.Out.{Out}
use Rattle.hops.specs.Hop.{nothing, then, IsCarried, IsFreed, AreFreed}
use Rattle.transit.specs.declared.passage.Passage.{Passage}
use Rattle.transit.specs.declared.passage.Passage.TheVariants.{Sent, Cut, Spent, TooBig}
use Rattle.hops.specs.declared.exit.Exit.{Exit}
use Rattle.hops.specs.Gains.{Gains}

-- what is added is gained
pub gained : {A E : Type 0} (r : Result A E) (Becomes : Hop → Type 0) (before after more : Hop) → Becomes more
    → OnOk r (after ≡ then before more) → OnOk r (Gains Becomes before after)
gained (Ok x) Becomes before after more is e = (more, is, e)
gained (Err e) Becomes before after more is f = tt

-- what follows from what is gained is gained
pub widened : {A E : Type 0} (r : Result A E) (One Other : Hop → Type 0) (before after : Hop) → ((hop : Hop) → One hop → Other hop)
    → OnOk r (Gains One before after) → OnOk r (Gains Other before after)
widened (Ok x) One Other before after step (more, is, e) = (more, step more is, e)
widened (Err e) One Other before after step gain = tt

-- two hops are one where both their parts are
pub one_hop : {outs outs' : List Out} {drops drops' : List Cause} → outs ≡ outs' → drops ≡ drops'
    → ◌≡◌ {A = Hop} (record { outs = outs; drops = drops }) (record { outs = outs'; drops = drops' })
one_hop a b = λ i. record { outs = a i; drops = b i }

-- after nothing
pub then_nothing : (hop : Hop) → hop ≡ then hop nothing
then_nothing hop = sym (one_hop (append-nil hop.outs) (append-nil hop.drops))

-- one after another, after a third
pub then_then : (a b c : Hop) → then (then a b) c ≡ then a (then b c)
then_then a b c = one_hop (append_assoc a.outs b.outs c.outs) (append_assoc a.drops b.drops c.drops)

-- nothing is gained
pub unmoved : (Becomes : Hop → Type 0) (hop : Hop) → Becomes nothing → Gains Becomes hop hop
unmoved Becomes hop is = (nothing, is, then_nothing hop)

-- from nothing, all of it is gained
pub from_nothing : (Becomes : Hop → Type 0) (hop : Hop) → Gains Becomes nothing hop → Becomes hop
from_nothing Becomes hop (more, is, e) = subst Becomes (sym e) is

-- first and then
pub both_gained : {A E : Type 0} (r : Result A E) (First Second : Hop → Type 0) (before between after : Hop) → Gains First before between
    → OnOk r (Gains Second between after)
    → OnOk r (Gains (λ hop. (own : Hop) × (more : Hop) × First own × Second more × (hop ≡ then own more)) before after)
both_gained (Ok x) First Second before between after (a, is, e) (b, so, f) =
    (then a b, (a, b, is, so, refl), f ∙ ap (λ h. then h b) e ∙ then_then before a b)
both_gained (Err e) First Second before between after one other = tt

-- one freed fragment more, at the end
pub one_more : (IsLater : List ℕ → Type 0) (Becomes : List ℕ → Hop → Type 0) (parcels : List Parcel) (parcel : Parcel) (hop more : Hop)
    → AreFreed IsLater Becomes parcels hop → IsFreed IsLater Becomes parcel.bytes more
    → AreFreed IsLater Becomes (parcels ++ parcel ∷ []) (then hop more)
one_more IsLater Becomes [] parcel hop more none one =
    (more, nothing, one, refl, ap (λ h. then h more) none ∙ then_nothing more)
one_more IsLater Becomes (p ∷ parcels) parcel hop more (first, others, is, rest, e) one =
    (first, then others more, is, one_more IsLater Becomes parcels parcel others more rest one, ap (λ h. then h more) e ∙ then_then first others more)

-- the same of what a hop gains
pub freed_more : (IsLater : List ℕ → Type 0) (Becomes : List ℕ → Hop → Type 0) (parcels : List Parcel) (parcel : Parcel) (before between after : Hop)
    → Gains (AreFreed IsLater Becomes parcels) before between → Gains (IsFreed IsLater Becomes parcel.bytes) between after
    → Gains (AreFreed IsLater Becomes (parcels ++ parcel ∷ [])) before after
freed_more IsLater Becomes parcels parcel before between after (a, is, e) (b, so, f) =
    (then a b, one_more IsLater Becomes parcels parcel a b is so, f ∙ ap (λ h. then h b) e ∙ then_then before a b)

-- a packet that is carried, where what follows from one drop is another
pub carried_as : (One Other : Cause → Hop → Type 0) (exit : Exit) (passage : Passage) (hop : Hop) → ((cause : Cause) (hop : Hop) → One cause hop → Other cause hop)
    → IsCarried One exit passage hop → IsCarried Other exit passage hop
carried_as One Other exit (Sent octets) hop step is = is
carried_as One Other exit (Cut pieces) hop step is = is
carried_as One Other exit Spent hop step is = step TtlSpent hop is
carried_as One Other exit TooBig hop step is = step IsTooBig hop is
