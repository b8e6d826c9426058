-- Which groups of zeros `::` stands for in the text that is written of an IPv6 address, and that text by it
-- (RFC 5952, section 4.2).
use Rattle.std.specs.Prelude.{◌≡◌, ℕ, ◌+◌, ◌<◌, ◌≤◌, ◌⊎◌, List, ◌∷◌, ◌++◌, length, take, drop, slice_index}
use Rattle.octets.specs.Numeral.{colon}
use Rattle.octets.specs.Text6.{groups_of, joined}

-- so many groups from `start` on are all zeros
abbrev pub AreZeros : List ℕ → ℕ → ℕ → Type 0
AreZeros groups start len = (start + len ≤ length groups) × ((i : ℕ) → i < len → slice_index groups (start + i) ≡ 0)

-- the run of zeros that is shortened: two groups at least (section 4.2.2), none longer, and none earlier that
-- is as long (section 4.2.3)
pub record IsShortenedRun (groups : List ℕ) (start len : ℕ) : Type 0 where
  pub zeros : AreZeros groups start len
  pub several : 2 ≤ len
  pub none_longer : (other more : ℕ) → AreZeros groups other more → more ≤ len
  pub none_earlier : (other : ℕ) → other < start → ¬ AreZeros groups other len

-- the text has `::` for that run
pub record HasShortenedRun (groups text : List ℕ) : Type 0 where
  pub start : ℕ
  pub len : ℕ
  pub run : IsShortenedRun groups start len
  pub spelled : text ≡ joined (take start groups) ++ colon ∷ colon ∷ joined (drop (start + len) groups)

-- the text has all groups, of which no two zeros stand together
pub record HasNoRun (groups text : List ℕ) : Type 0 where
  pub none : (start len : ℕ) → AreZeros groups start len → len < 2
  pub spelled : text ≡ joined groups

-- the text is the one that is written of the address with this number
abbrev pub IsWritten6 : List ℕ → ℕ → Type 0
IsWritten6 text n = HasNoRun (groups_of n) text ⊎ HasShortenedRun (groups_of n) text
