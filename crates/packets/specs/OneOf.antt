-- That of two things one comes, and in one way: what a definition of a function owes that is a relation.
use Rattle.std.specs.Prelude.{◌≡◌, ◌⊎◌}

-- what holds of two values at once holds of one alone
abbrev pub IsOneAtMost : {A : Type 0} → (A → Type 0) → Type 0
IsOneAtMost {A} Holds = (one other : A) → Holds one → Holds other → one ≡ other

-- Something is taken as a value, or dropped for a cause: one of both always, never both, and in one way.
pub record IsTakenOrDropped {A B : Type 0} (Takes : A → Type 0) (Drops : B → Type 0) : Type 0 where
  pub always : ((a : A) × Takes a) ⊎ ((b : B) × Drops b)
  pub never_both : (a : A) (b : B) → Takes a → Drops b → ⊥
  pub taken_once : IsOneAtMost Takes
  pub dropped_once : IsOneAtMost Drops
