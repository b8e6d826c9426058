-- Faults that are handed on, and the least cause.
use Rattle.std.proofs.Common.{◌≡◌, ◌⊎◌, ◌<◌, sym, ◌∙◌, refl, ap, Some, inl, inr, arith}
use Rattle.std.specs.Prelude.{Result, Ok, Err, IsErrAnd}
use Rattle.octets.specs.Cause.{IsLeast, number_of, cause_of}
use Rattle.octets.specs.declared.cause.Cause.{Cause}
use Rattle.octets.specs.declared.cause.Cause.TheVariants.{NotIp, Truncated, BadHeader, BadHeaderSum, BadDestination, SourceRoute, UnsupportedProtocol, IcmpFragment, BadTransport, IcmpSum, IcmpKind, BadInner, NoUdpSum, NoBasicRule, WrongDestination, FragmentsFull, Spoofed, NotDefault, NoOwner, NoBinding, NoPort, TtlSpent, TooBig}
use Rattle.octets.specs.declared.cause.Fault.{Fault}
use Rattle.octets.specs.declared.cause.Fault.TheVariants.{Drop, NoMemory}

-- a cause is the one of its number
numbered : (cause : Cause) → cause_of (number_of cause) ≡ Some cause
numbered cause = elim cause as (λ c. cause_of (number_of c) ≡ Some c) [ NotIp ↦ refl | Truncated ↦ refl | BadHeader ↦ refl | BadHeaderSum ↦ refl | BadDestination ↦ refl | SourceRoute ↦ refl | UnsupportedProtocol ↦ refl | IcmpFragment ↦ refl | BadTransport ↦ refl | IcmpSum ↦ refl | IcmpKind ↦ refl | BadInner ↦ refl | NoUdpSum ↦ refl | NoBasicRule ↦ refl | WrongDestination ↦ refl | FragmentsFull ↦ refl | Spoofed ↦ refl | NotDefault ↦ refl | NoOwner ↦ refl | NoBinding ↦ refl | NoPort ↦ refl | TtlSpent ↦ refl | TooBig ↦ refl ]

-- two causes of one number are one
pub numbers_alike : (one other : Cause) → number_of one ≡ number_of other → one ≡ other
numbers_alike one other same =
    let e : Some one ≡ Some other = sym (numbered one) ∙ ap cause_of same ∙ numbered other in cc

-- an error that is handed on is the same, and of want of memory
pub same_fault : {A : Type 0} (r : Result A Fault) (fault : Fault) (cause : Cause) → IsErrAnd r (λ f. f ≡ fault) → r ≡ Err (Drop cause) → fault ≡ Drop cause
same_fault (Ok x) fault cause is e = absurd is
same_fault (Err f) fault cause is e = cc

pub is_fault : {A : Type 0} (r : Result A Fault) (fault : Fault) → IsErrAnd r (λ f. f ≡ fault) → r ≡ Err fault
is_fault (Ok x) fault is = absurd is
is_fault (Err f) fault is = ap Err is

-- the least of what holds is one
pub one_least : (Holds : Cause → Type 0) (one other : Cause) → IsLeast Holds one → IsLeast Holds other → one ≡ other
one_least Holds one other a b =
    numbers_alike one other
    (omega (arith, λ (less : number_of one < number_of other). b.1 one less a.0, λ (less : number_of other < number_of one). a.1 other less b.0))

-- the least cause is the one that is refused, where it isn't want of memory
pub exactly : (Holds : Cause → Type 0) (fault : Fault) (cause : Cause) → IsLeast Holds cause → ((other : Cause) → fault ≡ Drop other → IsLeast Holds other)
    → (fault ≡ Drop cause) ⊎ (fault ≡ NoMemory)
exactly Holds (Drop other) cause least told = inl (ap Drop (one_least Holds other cause (told other refl) least))
exactly Holds NoMemory cause least told = inr refl

pub same_cause : (fault : Fault) (one other : Cause) → fault ≡ Drop one → fault ≡ Drop other → other ≡ one
same_cause fault one other a b = cc

pub no_cause : {A : Type 0} (fault : Fault) (cause : Cause) → fault ≡ Drop cause → fault ≡ NoMemory → A
no_cause fault cause a b = absurd (let e : Drop cause ≡ NoMemory = sym a ∙ b in cc)

pub same_error : {A : Type 0} (one other : Cause) → ◌≡◌ {A = Result A Cause} (Err one) (Err other) → one ≡ other
same_error one other e = cc
