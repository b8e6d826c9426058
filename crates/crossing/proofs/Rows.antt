-- Which rows the tables of ICMP types have.
use Rattle.std.proofs.Common.{◌≡◌, ◌⊎◌, ℕ, ◌^◌, ◌<◌, Bool, arith, true, false, cond, List, [], ◌∷◌, Option, Some, inl, inr, refl, sym, ap, subst}
use Rattle.std.specs.Prelude.{◌&&◌, nat_le}
use Rattle.icmp_messages.specs.declared.table.Row.{Row}
use Rattle.icmp_messages.specs.declared.table.PointerRow.{PointerRow}
use Rattle.icmp_messages.specs.declared.table.Rest.{Rest}
use Rattle.icmp_messages.specs.declared.table.Rest.TheVariants.{Query, Zero, Protocol, Mtu, Pointer}
use Rattle.icmp_messages.specs.Table.{row, row_of, table46, table64, pointers46, pointer_of}
use Rattle.icmp_xlat.proofs.Rows.{AllRows, same_row, found_row}

-- the rows of queries, to IPv6 and back
abbrev pub IsQueryRow : Row → Type 0
IsQueryRow r = r.rest ≡ Query → (r ≡ row 8 0 128 0 Query) ⊎ (r ≡ row 0 0 129 0 Query)

queries : AllRows IsQueryRow table46
queries = (
  λ e. inl refl,
  (λ e. inr refl, (λ e. cc, (λ e. cc, (λ e. cc, (λ e. cc, (λ e. cc, (λ e. cc, (λ e. cc, (λ e. cc, (λ e. cc, (λ e. cc, (λ e. cc, (λ e. cc, (λ e. cc, (λ e. cc, (λ e. cc, (λ e. cc, (λ e. cc, (λ e. cc, (λ e. cc, tt)))))))))))))))))))),
)

pub query_row : (kind code : ℕ) (r : Row) → row_of table46 kind code ≡ Some r → r.rest ≡ Query → (r ≡ row 8 0 128 0 Query) ⊎ (r ≡ row 0 0 129 0 Query)
query_row kind code r found = found_row IsQueryRow table46 kind code r queries found

-- a query is one again
pub query_again : (kind code : ℕ) (r s : Row) → row_of table46 kind code ≡ Some r → r.rest ≡ Query → row_of table64 r.to_kind r.to_code ≡ Some s → s.rest ≡ Query
query_again kind code r s found is again = elim (query_row kind code r found is) [
  | inl request ↦ ap (λ (x : Row). x.rest) (sym (same_row (row 128 0 8 0 Query) s (subst (λ (x : Row). row_of table64 x.to_kind x.to_code ≡ Some s) request again)))
  | inr reply ↦ ap (λ (x : Row). x.rest) (sym (same_row (row 129 0 0 0 Query) s (subst (λ (x : Row). row_of table64 x.to_kind x.to_code ≡ Some s) reply again)))
]

-- ---- errors

-- what the second row does with the four octets
abbrev pub rest_again : Rest → Rest
rest_again Query = Query
rest_again Zero = Zero
rest_again Protocol = Zero
rest_again Mtu = Mtu
rest_again Pointer = Pointer

abbrev IsAgain : Row → Type 0
IsAgain r = (s : Row) → row_of table64 r.to_kind r.to_code ≡ Some s → s.rest ≡ rest_again r.rest

rest_is : (r s : Row) → ◌≡◌ {A = Option Row} (Some r) (Some s) → s.rest ≡ r.rest
rest_is r s e = ap (λ (x : Row). x.rest) (sym (same_row r s e))

again : AllRows IsAgain table46
again = (
  λ s e. rest_is (row 128 0 8 0 Query) s e,
  (λ s e. rest_is (row 129 0 0 0 Query) s e, (λ s e. rest_is (row 1 0 3 1 Zero) s e, (λ s e. rest_is (row 1 0 3 1 Zero) s e, (λ s e. rest_is (row 1 0 3 1 Zero) s e, (λ s e. rest_is (row 1 0 3 1 Zero) s e, (λ s e. rest_is (row 1 0 3 1 Zero) s e, (λ s e. rest_is (row 1 0 3 1 Zero) s e, (λ s e. rest_is (row 1 0 3 1 Zero) s e, (λ s e. rest_is (row 1 0 3 1 Zero) s e, (λ s e. rest_is (row 4 1 3 2 Zero) s e, (λ s e. rest_is (row 1 4 3 3 Zero) s e, (λ s e. rest_is (row 2 0 3 4 Mtu) s e, (λ s e. rest_is (row 1 1 3 10 Zero) s e, (λ s e. rest_is (row 1 1 3 10 Zero) s e, (λ s e. rest_is (row 1 1 3 10 Zero) s e, (λ s e. rest_is (row 1 1 3 10 Zero) s e, (λ s e. rest_is (row 3 0 11 0 Zero) s e, (λ s e. rest_is (row 3 1 11 1 Zero) s e, (λ s e. rest_is (row 4 0 12 0 Pointer) s e, (λ s e. rest_is (row 4 0 12 0 Pointer) s e, tt)))))))))))))))))))),
)

pub row_again : (kind code : ℕ) (r s : Row) → row_of table46 kind code ≡ Some r → row_of table64 r.to_kind r.to_code ≡ Some s → s.rest ≡ rest_again r.rest
row_again kind code r s found back = found_row IsAgain table46 kind code r again found s back

-- a pointer is a small number
abbrev AllPointers : List PointerRow → Type 0
AllPointers [] = Unit {0}
AllPointers (r ∷ rows) = (r.to < 2 ^ 32) × AllPointers rows

small_pointer : (rows : List PointerRow) (pointer found : ℕ) → AllPointers rows → pointer_of rows pointer ≡ Some found → found < 2 ^ 32
small_pointer [] pointer found all is = cc
small_pointer (r ∷ rows) pointer found all is = by (nat_le r.first pointer && nat_le pointer r.last) (small_pointer rows pointer found all.1) is
  where
    by : (b : Bool) → (pointer_of rows pointer ≡ Some found → found < 2 ^ 32) → cond b (Some r.to) (pointer_of rows pointer) ≡ Some found → found < 2 ^ 32
    by true later e = let same : r.to ≡ found = cc in subst (λ (n : ℕ). n < 2 ^ 32) same all.0
    by false later e = later e

pub pointer_small : (pointer found : ℕ) → pointer_of pointers46 pointer ≡ Some found → found < 2 ^ 32
pointer_small pointer found is = small_pointer pointers46 pointer found (omega arith, (omega arith, (omega arith, (omega arith, (omega arith, (omega arith, (omega arith, tt))))))) is
