-- What a folder holds: a finite map from names to octets.
use Rattle.std.specs.Prelude.{◌≡◌, ◌≢◌, ◌⊎◌, ℕ, ◌+◌, ◌<◌, ◌≤◌, List, [], length, take, drop, Option, Some, None, unwrap_or, ⊤}
use Rattle.std.specs.Ordering.{nat_cmp}
use Rattle.std.specs.Cmp.Lexicographic.{slice_cmp}
use Rattle.std.specs.FinMap.{FinMap, get, insert}

abbrev pub Files : Type 0
Files = FinMap (slice_cmp nat_cmp) (List ℕ)

-- what a named file holds; one that isn't there has no octets
abbrev pub content_of : Files → List ℕ → List ℕ
content_of files name = unwrap_or (get files name) []

-- the files with this one holding these octets
abbrev pub with_file : Files → List ℕ → List ℕ → Files
with_file files name octets = insert files name octets

abbrev pub put_if_told : Option Files → List ℕ → List ℕ → Option Files
put_if_told None name octets = None
put_if_told (Some files) name octets = Some (with_file files name octets)

-- n octets of a file from an offset on, at the front of the buffer; none come only at the file's end, or
-- for a buffer without room
pub record IsPieceOf (content : List ℕ) (offset n : ℕ) (buffer : List ℕ) : Type 0 where
  pub octets : take n buffer ≡ take n (drop offset content)
  pub end : n ≡ 0 → 0 < length buffer → length content ≤ offset

-- n octets from an offset on fill a buffer with this room, or reach the end of the file
abbrev pub FillsOrEnds : List ℕ → ℕ → ℕ → ℕ → Type 0
FillsOrEnds content offset n room = (n ≡ room) ⊎ (length content ≤ offset + n)

abbrev pub IsPiece : Option Files → List ℕ → ℕ → ℕ → List ℕ → Type 0
IsPiece None name offset n buffer = ⊤
IsPiece (Some files) name offset n buffer = IsPieceOf (content_of files name) offset n buffer

-- all files but the named one hold what they held
abbrev pub SameBut : List ℕ → Option Files → Option Files → Type 0
SameBut name None None = ⊤
SameBut name (Some old) (Some new) = (other : List ℕ) → other ≢ name → get new other ≡ get old other
SameBut name None (Some new) = ⊥
SameBut name (Some old) None = ⊥
