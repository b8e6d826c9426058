-- A call that takes or drops as a definition says does so exactly.
use Rattle.std.proofs.Common.{◌≡◌, ◌⊎◌, ap, refl, inl, inr}
use Rattle.std.specs.Prelude.{Result, Ok, Err, IfOk}
use Rattle.octets.specs.declared.cause.Cause.{Cause}
use Rattle.octets.specs.declared.cause.Fault.{Fault}
use Rattle.octets.specs.declared.cause.Fault.TheVariants.{Drop, NoMemory}
use Rattle.packets.specs.OneOf.{IsTakenOrDropped}

-- what is to be taken is taken
pub taken_alone : {A : Type 0} (Takes : A → Type 0) (Drops : Cause → Type 0) (r : Result A Fault) → IsTakenOrDropped Takes Drops
    → IfOk r Takes → ((cause : Cause) → r ≡ Err (Drop cause) → Drops cause) → (a : A) → Takes a → (r ≡ Ok a) ⊎ (r ≡ Err NoMemory)
taken_alone Takes Drops (Ok x) way found refused a is = inl (ap Ok (way.taken_once x a found is))
taken_alone Takes Drops (Err (Drop cause)) way found refused a is = absurd (way.never_both a cause is (refused cause refl))
taken_alone Takes Drops (Err NoMemory) way found refused a is = inr refl

-- and what is to be dropped is dropped
pub dropped_alone : {A : Type 0} (Takes : A → Type 0) (Drops : Cause → Type 0) (r : Result A Fault) → IsTakenOrDropped Takes Drops
    → IfOk r Takes → ((cause : Cause) → r ≡ Err (Drop cause) → Drops cause) → (cause : Cause) → Drops cause → (r ≡ Err (Drop cause)) ⊎ (r ≡ Err NoMemory)
dropped_alone Takes Drops (Ok x) way found refused cause is = absurd (way.never_both x cause found is)
dropped_alone Takes Drops (Err (Drop other)) way found refused cause is = inl (ap (λ (x : Cause). Err (Drop x)) (way.dropped_once other cause (refused other refl) is))
dropped_alone Takes Drops (Err NoMemory) way found refused cause is = inr refl
