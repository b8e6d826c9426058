-- What is decided: of a statement, that it holds or that it doesn't; of what holds by cause, the least or none.
use Rattle.std.proofs.Common.{◌≡◌, ◌⊎◌, ◌<◌, ◌≤◌, ◌+◌, ℕ, zero, suc, true, false, refl, Some, None, inl, inr, arith, subst}
use Rattle.std.specs.Prelude.{IsTrue, IsSome, Option, Bool}
use Rattle.std.proofs.lemmas.Bool.{cases_lt, cases_eq}
use Rattle.octets.specs.Cause.{IsLeast, HoldsNone, number_of}
use Rattle.octets.specs.declared.cause.Cause.{Cause}
use Rattle.octets.specs.declared.cause.Cause.TheVariants.{NotIp, Truncated, BadHeader, BadHeaderSum, BadDestination, SourceRoute, UnsupportedProtocol, IcmpFragment, BadTransport, IcmpSum, IcmpKind, BadInner, NoUdpSum, NoBasicRule, WrongDestination, FragmentsFull, Spoofed, NotDefault, NoOwner, NoBinding, NoPort, TtlSpent, TooBig}
use Rattle.octets.proofs.CauseNumbers.{below}
use Rattle.packets.proofs.Faults.{numbers_alike}

-- it holds, or it doesn't
abbrev pub Either : Type 0 → Type 0
Either P = P ⊎ (P → ⊥)

pub either : {P Q : Type 0} → Either P → Either Q → Either (P ⊎ Q)
either (inl p) q = inl (inl p)
either (inr p) (inl q) = inl (inr q)
either (inr p) (inr q) = inr (λ h. elim h [ inl x ↦ p x | inr y ↦ q y ])

pub both : {P Q : Type 0} → Either P → Either Q → Either (P × Q)
both (inl p) (inl q) = inl (p, q)
both (inl p) (inr q) = inr (λ h. q h.1)
both (inr p) q = inr (λ h. p h.0)

pub three : {P Q R : Type 0} → Either P → Either Q → Either R → Either (P × Q × R)
three p q r = elim (both p (both q r)) [ inl h ↦ inl (h.0, h.1.0, h.1.1) | inr none ↦ inr (λ (a, b, c). none (a, (b, c))) ]

pub four : {P Q R S : Type 0} → Either P → Either Q → Either R → Either S → Either (P × Q × R × S)
four p q r s = elim (both (both p q) (both r s)) [ inl h ↦ inl (h.0.0, h.0.1, h.1.0, h.1.1) | inr none ↦ inr (λ (a, b, c, d). none ((a, b), (c, d))) ]

pub neither : {P : Type 0} → Either P → Either (P → ⊥)
neither (inl p) = inr (λ h. h p)
neither (inr p) = inl p

pub equal : (a b : ℕ) → Either (a ≡ b)
equal a b = cases_eq a b

pub less : (a b : ℕ) → Either (a < b)
less a b = elim (cases_lt a b) [ inl lt ↦ inl lt | inr le ↦ inr (λ lt. omega arith) ]

pub at_most : (a b : ℕ) → Either (a ≤ b)
at_most a b = elim (cases_lt b a) [ inl lt ↦ inr (λ le. omega arith) | inr le ↦ inl le ]

pub is_true : (b : Bool) → Either (IsTrue b)
is_true true = inl refl
is_true false = inr (λ e. let f : false ≡ true = e in cc)

pub is_false : (b : Bool) → (IsTrue b → ⊥) → b ≡ false
is_false true h = absurd (h refl)
is_false false h = refl

pub is_none : {A : Type 0} (o : Option A) → Either (o ≡ None)
is_none None = inl refl
is_none (Some x) = inr (λ e. cc)

pub is_some : {A : Type 0} (o : Option A) → Either (IsSome o)
is_some None = inr (λ e. cc)
is_some (Some x) = inl refl

-- what an option has, that isn't none
pub some_in : {A : Type 0} (o : Option A) → (o ≡ None → ⊥) → (x : A) × (o ≡ Some x)
some_in None h = absurd (h refl)
some_in (Some x) h = (x, refl)

-- what holds of what an option has
of_some : {A : Type 0} (x y : A) (P : A → Type 0) → Some x ≡ Some y → P y → P x
of_some x y P e p = let same : y ≡ x = cc in subst P same p

pub in_some : {A : Type 0} (o : Option A) (P : A → Type 0) → ((x : A) → Either (P x)) → Either ((x : A) × (o ≡ Some x) × P x)
in_some None P tell = inr (λ h. let e = h.1 in cc)
in_some (Some x) P tell = elim (tell x) [ inl p ↦ inl (x, refl, p) | inr none ↦ inr (λ (y, e, p). none (of_some x y P e p)) ]

-- a number of one bit is a flag
pub flag : (n : ℕ) → n < 2 → (b : Bool) × (Rattle.octets.specs.Bits.bit_of b ≡ n)
flag zero small = (false, refl)
flag (suc zero) small = (true, refl)
flag (suc (suc n)) small = absurd (omega arith)

-- the least so far, or none
abbrev Upto : (Cause → Type 0) → ℕ → Type 0
Upto Holds n = ((c : Cause) × IsLeast Holds c) ⊎ ((c : Cause) → number_of c < n → Holds c → ⊥)

positive : (c : Cause) → 0 < number_of c
positive c = elim c as (λ x. 0 < number_of x) [ NotIp ↦ omega arith | Truncated ↦ omega arith | BadHeader ↦ omega arith | BadHeaderSum ↦ omega arith | BadDestination ↦ omega arith | SourceRoute ↦ omega arith | UnsupportedProtocol ↦ omega arith | IcmpFragment ↦ omega arith | BadTransport ↦ omega arith | IcmpSum ↦ omega arith | IcmpKind ↦ omega arith | BadInner ↦ omega arith | NoUdpSum ↦ omega arith | NoBasicRule ↦ omega arith | WrongDestination ↦ omega arith | FragmentsFull ↦ omega arith | Spoofed ↦ omega arith | NotDefault ↦ omega arith | NoOwner ↦ omega arith | NoBinding ↦ omega arith | NoPort ↦ omega arith | TtlSpent ↦ omega arith | TooBig ↦ omega arith ]

next : (Holds : Cause → Type 0) (c : Cause) (n : ℕ) → number_of c ≡ n → Either (Holds c) → Upto Holds n → Upto Holds (n + 1)
next Holds c n is tell (inl found) = inl found
next Holds c n is (inl holds) (inr none) = inl (c, (holds, λ lesser lt. none lesser (omega arith)))
next Holds c n is (inr fails) (inr none) = inr (λ d lt holds. elim (cases_lt (number_of d) n) [
  | inl less ↦ none d less holds
  | inr more ↦ fails (subst Holds (numbers_alike d c (omega arith)) holds)
])

-- the least cause that holds, or none
pub least_or_none : (Holds : Cause → Type 0) → ((c : Cause) → Either (Holds c)) → ((c : Cause) × IsLeast Holds c) ⊎ HoldsNone Holds
least_or_none Holds tell = done all
  where
    start : Upto Holds 1
    start = inr (λ c lt holds. let p = positive c in omega arith)

    five : Upto Holds 6
    five = next Holds BadDestination 5 refl (tell BadDestination) (next Holds BadHeaderSum 4 refl (tell BadHeaderSum) (next Holds BadHeader 3 refl (tell BadHeader) (next Holds Truncated 2 refl (tell Truncated) (next Holds NotIp 1 refl (tell NotIp) start))))

    thirteen : Upto Holds 14
    thirteen = next Holds NoUdpSum 13 refl (tell NoUdpSum) (next Holds BadInner 12 refl (tell BadInner) (next Holds IcmpKind 11 refl (tell IcmpKind) (next Holds IcmpSum 10 refl (tell IcmpSum) (next Holds BadTransport 9 refl (tell BadTransport) (next Holds IcmpFragment 8 refl (tell IcmpFragment) (next Holds UnsupportedProtocol 7 refl (tell UnsupportedProtocol) (next Holds SourceRoute 6 refl (tell SourceRoute) five)))))))

    all : Upto Holds 24
    all = next Holds TooBig 23 refl (tell TooBig) (next Holds TtlSpent 22 refl (tell TtlSpent) (next Holds NoPort 21 refl (tell NoPort) (next Holds NoBinding 20 refl (tell NoBinding) (next Holds NoOwner 19 refl (tell NoOwner) (next Holds NotDefault 18 refl (tell NotDefault) (next Holds Spoofed 17 refl (tell Spoofed) (next Holds FragmentsFull 16 refl (tell FragmentsFull) (next Holds WrongDestination 15 refl (tell WrongDestination) (next Holds NoBasicRule 14 refl (tell NoBasicRule) thirteen)))))))))

    done : Upto Holds 24 → ((c : Cause) × IsLeast Holds c) ⊎ HoldsNone Holds
    done (inl found) = inl found
    done (inr none) = inr (λ c holds. none c (below c) holds)
