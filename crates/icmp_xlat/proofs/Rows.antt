-- Which rows the tables of ICMP types have.
use Rattle.std.proofs.Common.{◌≡◌, ◌⊎◌, ℕ, Bool, true, false, cond, List, [], ◌∷◌, Option, Some, None, inl, inr, refl, subst}
use Rattle.std.specs.Prelude.{◌==◌, ◌&&◌, ◌||◌}
use Rattle.icmp_messages.specs.declared.table.Row.{Row}
use Rattle.icmp_messages.specs.declared.table.Rest.TheVariants.{Zero}
use Rattle.icmp_messages.specs.Table.{row_of, table46}

-- each row is so
abbrev pub AllRows : (Row → Type 0) → List Row → Type 0
AllRows P [] = Unit {0}
AllRows P (r ∷ rows) = P r × AllRows P rows

pub same_row : (r s : Row) → ◌≡◌ {A = Option Row} (Some r) (Some s) → r ≡ s
same_row r s e = cc

no_row : (r : Row) → ◌≡◌ {A = Option Row} None (Some r) → ⊥
no_row r e = cc

pub found_row : (P : Row → Type 0) (rows : List Row) (kind code : ℕ) (found : Row) → AllRows P rows → row_of rows kind code ≡ Some found → P found
found_row P [] kind code found all is = absurd (no_row found is)
found_row P (r ∷ rows) kind code found all is = by (r.kind == kind && r.code == code) (found_row P rows kind code found all.1) is
  where
    by : (b : Bool) → (row_of rows kind code ≡ Some found → P found) → cond b (Some r) (row_of rows kind code) ≡ Some found → P found
    by true behind e = subst P (same_row r found e) all.0
    by false behind e = behind e

-- only what says nothing in the four octets becomes a message whose embedded packet may have a length
abbrev pub HasNoLength : Row → Type 0
HasNoLength r = (r.rest ≡ Zero) ⊎ ((r.to_kind == 1 || r.to_kind == 3) ≡ false)

lengths : AllRows HasNoLength table46
lengths = (
  inr refl,
  (inr refl, (inl refl, (inl refl, (inl refl, (inl refl, (inl refl, (inl refl, (inl refl, (inl refl, (inr refl, (inl refl, (inr refl, (inl refl, (inl refl, (inl refl, (inl refl, (inl refl, (inl refl, (inr refl, (inr refl, tt)))))))))))))))))))),
)

pub no_length : (kind code : ℕ) (r : Row) → row_of table46 kind code ≡ Some r → HasNoLength r
no_length kind code r found = found_row HasNoLength table46 kind code r lengths found
