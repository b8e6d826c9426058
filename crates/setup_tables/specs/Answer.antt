-- What a configuration is answered with, stage by stage: a value, or the first fault. An answer is the set
-- of the results that may be given: at most one.
use Rattle.std.specs.Prelude.{◌≡◌, ◌⊎◌, ℕ, List, take, slice_get, Option, Some, None, Result, Ok, Err}
use Rattle.std.specs.List.{AllZip}
use Rattle.toml.specs.Data.{Data, table, Members}
use Rattle.setup_tables.specs.declared.fault.SetupCause.{SetupCause}
use Rattle.setup_tables.specs.declared.fault.SetupFault.{SetupFault}
use Rattle.setup_tables.specs.declared.fault.SetupFault.TheVariants.{Refused, NoMemory}

-- a first stage, and one that goes on with its value
pub record IsThen {A B : Type 0} (first : Result A SetupFault → Type 0) (next : A → Result B SetupFault → Type 0)
    (result : Result B SetupFault) : Type 0 where
  pub value : A
  pub stage : first (Ok value)
  pub rest : next value result

infixl 10 ◌>>=◌
abbrev pub ◌>>=◌ : {A B : Type 0} → (Result A SetupFault → Type 0) → (A → Result B SetupFault → Type 0) → Result B SetupFault → Type 0
◌>>=◌ first next (Ok b) = IsThen first next (Ok b)
◌>>=◌ first next (Err e) = first (Err e) ⊎ IsThen first next (Err e)

-- any result whose value is so
abbrev pub such : {A : Type 0} → (A → Type 0) → Result A SetupFault → Type 0
such Is (Ok x) = Is x
such Is (Err e) = ⊥

-- this fault where there is one, and else what follows
abbrev pub barring : {A : Type 0} → Option SetupFault → (Result A SetupFault → Type 0) → Result A SetupFault → Type 0
barring None next result = next result
barring (Some fault) next result = result ≡ Err fault

-- this result
abbrev pub exactly : {A : Type 0} → Result A SetupFault → Result A SetupFault → Type 0
exactly one result = result ≡ one

-- the value that is so, or this fault where none is
abbrev pub the : {A : Type 0} → (A → Type 0) → SetupFault → Result A SetupFault → Type 0
the Is fault (Ok x) = Is x
the {A} Is fault (Err e) = (e ≡ fault) × ((x : A) → Is x → ⊥)

-- the first element that is bad, at this place: those before it have values
pub record IsFirstBad {D A : Type 0} (Is : D → A → Type 0) (Bad : D → Type 0) (ds : List D) (i : ℕ) : Type 0 where
  pub values : List A
  pub before : AllZip Is (take i ds) values
  pub element : D
  pub there : slice_get ds i ≡ Some element
  pub bad : Bad element

-- the value of each element, or this cause at the first that is bad
abbrev pub each : {D A : Type 0} → SetupCause → (D → A → Type 0) → (D → Type 0) → List D → Result (List A) SetupFault → Type 0
each cause Is Bad ds (Ok xs) = AllZip Is ds xs
each cause Is Bad ds (Err e) = (i : ℕ) × (e ≡ Refused cause i) × IsFirstBad Is Bad ds i

-- what a table says, of a value that may be one
abbrev pub OfTable : {A : Type 0} → (Members → A → Type 0) → Data → A → Type 0
OfTable Says (table ms) x = Says ms x
OfTable Says _ x = ⊥

-- the element has no value
abbrev pub HasNone : {D A : Type 0} → (D → A → Type 0) → D → Type 0
HasNone {D} {A} Is d = (x : A) → Is d x → ⊥

-- a function gave, seen by view, what the answer says, unless memory ran out
abbrev pub Gives : {X Y : Type 0} → (X → Y) → Result X SetupFault → (Result Y SetupFault → Type 0) → Type 0
Gives view (Ok x) answer = answer (Ok (view x))
Gives view (Err (Refused cause i)) answer = answer (Err (Refused cause i))
Gives view (Err NoMemory) answer = Unit {0}
