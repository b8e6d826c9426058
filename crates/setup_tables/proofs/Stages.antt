-- How the answers of stages make that of the whole.
use Rattle.std.proofs.Common.{◌≡◌, Option, Some, None, Result, Ok, Err, sym, ap, inl, inr}
use Rattle.std.proofs.lemmas.Option.{same_Some}
use Rattle.setup_tables.specs.declared.fault.SetupFault.{SetupFault}
use Rattle.setup_tables.specs.declared.fault.SetupFault.TheVariants.{Refused, NoMemory}
use Rattle.setup_tables.specs.Answer.{◌>>=◌, Gives, barring}

-- a stage that is refused refuses the whole
pub stops : {X A B Y : Type 0} (seen : X → A) (view : Y → B) (first : Result A SetupFault → Type 0) (next : A → Result B SetupFault → Type 0) (e : SetupFault)
    → Gives seen (Err e) first → Gives view (Err e) (first >>= next)
stops seen view first next (Refused cause i) h = inl h
stops seen view first next NoMemory h = tt

-- a stage that gives a value goes on with it
pub goes_on : {A B Y : Type 0} (view : Y → B) (first : Result A SetupFault → Type 0) (next : A → Result B SetupFault → Type 0) (x : A) (r : Result Y SetupFault)
    → first (Ok x) → Gives view r (next x) → Gives view r (first >>= next)
goes_on view first next x (Ok y) h more = record { value = x; stage = h; rest = more }
goes_on view first next x (Err (Refused cause i)) h more = inr record { value = x; stage = h; rest = more }
goes_on view first next x (Err NoMemory) h more = tt

-- where there is no fault, what follows is given
pub passes : {B Y : Type 0} (view : Y → B) (fault : Option SetupFault) (next : Result B SetupFault → Type 0) (r : Result Y SetupFault)
    → fault ≡ None → Gives view r next → Gives view r (barring fault next)
passes view None next r none more = more
passes view (Some f) next r none more = absurd (cc)

told : {B Y : Type 0} (view : Y → B) (f : SetupFault) (next : Result B SetupFault → Type 0) (e : SetupFault) → Some f ≡ Some e → Gives view (Err e) (barring (Some f) next)
told view f next (Refused cause i) some = ap Err (sym (same_Some _ _ some))
told view f next NoMemory some = tt

-- and where there is one, it is told
pub bars : {B Y : Type 0} (view : Y → B) (fault : Option SetupFault) (next : Result B SetupFault → Type 0) (e : SetupFault)
    → fault ≡ Some e → Gives view (Err e) (barring fault next)
bars view None next e some = absurd (cc)
bars view (Some f) next e some = told view f next e some

-- what is given as it is
abbrev pub same_of : (A : Type 0) → A → A
same_of A x = x
