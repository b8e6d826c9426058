-- An IPv6 address as text (RFC 4291, section 2.2, without the dotted tail), and the one text in which it
-- is written (RFC 5952, section 4).
use Rattle.std.specs.Prelude.{◌≡◌, ℕ, ◌+◌, ◌-◌, ◌*◌, ◌^◌, ◌≤◌, ◌⊎◌, List, [], ◌∷◌, ◌++◌, length, take, drop, replicate, fold, zero, suc, Option, Some, None, option_map, ◌&&◌, false, nat_lt, nat_le, ◌==◌, if◌then◌else◌}
use Rattle.std.specs.Fmt.{digits}
use Rattle.octets.specs.Bits.{bits_at}
use Rattle.octets.specs.Numeral.{◌>>=◌, IsShortNumeral, colon, cut_at, numeral_at, or_else}

-- ---- what is read

-- a group: one to four hexadecimal digits, of either case
abbrev pub IsGroup : List ℕ → ℕ → Type 0
IsGroup = IsShortNumeral 16

-- one group or more, with a colon between any two
abbrev pub AreGroups : List ℕ → List ℕ → Type 0
AreGroups text [] = ⊥
AreGroups text (g ∷ []) = IsGroup text g
AreGroups text (g ∷ h ∷ gs) = (first rest : List ℕ) × (text ≡ first ++ colon ∷ rest) × IsGroup first g × AreGroups rest (h ∷ gs)

-- no text and no group, or as above
abbrev pub AreSomeGroups : List ℕ → List ℕ → Type 0
AreSomeGroups text groups = ((text ≡ []) × (groups ≡ [])) ⊎ AreGroups text groups

-- the number that groups of 16 bits make, the first one highest, behind those of n
abbrev pub number_from : ℕ → List ℕ → ℕ
number_from n groups = fold (λ n g. n * 65536 + g) n groups

abbrev pub number_of_groups : List ℕ → ℕ
number_of_groups groups = number_from 0 groups

-- all eight groups
pub record IsWhole (text : List ℕ) (n : ℕ) : Type 0 where
  pub groups : List ℕ
  pub count : length groups ≡ 8
  pub spelled : AreGroups text groups
  pub value : n ≡ number_of_groups groups

-- `::` in the place of at least one group of zeros
pub record IsShortened (text : List ℕ) (n : ℕ) : Type 0 where
  pub left : List ℕ
  pub right : List ℕ
  pub parts : text ≡ left ++ colon ∷ colon ∷ right
  pub first_groups : List ℕ
  pub last_groups : List ℕ
  pub left_is : AreSomeGroups left first_groups
  pub right_is : AreSomeGroups right last_groups
  pub count : length first_groups + length last_groups ≤ 7
  pub value : n ≡ number_of_groups (first_groups ++ replicate (8 - (length first_groups + length last_groups)) 0 ++ last_groups)

-- the text spells the address with this number
abbrev pub IsText6 : List ℕ → ℕ → Type 0
IsText6 text n = IsWhole text n ⊎ IsShortened text n

-- ---- how it is read, from left to right

-- what stands before the first `::`, and what stands behind it
abbrev pub gap_at : List ℕ → Option (List ℕ × List ℕ)
gap_at [] = None
gap_at (c ∷ []) = None
gap_at (c ∷ d ∷ cs) = if c == colon && d == colon then Some ([], cs) else option_map (λ parts. (c ∷ parts.0, parts.1)) (gap_at (d ∷ cs))

-- at most so many groups behind others: how many there are then, and their number
unfoldable pub groups_from : ℕ → ℕ → ℕ → List ℕ → Option (ℕ × ℕ)
groups_from zero count n text = None
groups_from (suc room) count n text =
    or_else (cut_at colon text) (numeral_at 16 text >>= λ g. Some (count + 1, n * 65536 + g))
    (λ parts. numeral_at 16 parts.0 >>= λ g. groups_from room (count + 1) (n * 65536 + g) parts.1)

-- the groups beside a gap, of which there may be none
unfoldable pub part_at : List ℕ → Option (ℕ × ℕ)
part_at text = if length text == 0 then Some (0, 0) else groups_from 8 0 0 text

-- the groups before a gap stand highest, those behind it lowest
abbrev pub around_gap : ℕ × ℕ → ℕ × ℕ → Option ℕ
around_gap left right = if nat_lt 7 (left.0 + right.0) then None else Some (left.1 * 2 ^ (16 * (8 - left.0)) + right.1)

unfoldable pub whole_at : List ℕ → Option ℕ
whole_at text = groups_from 8 0 0 text >>= λ found. if found.0 == 8 then Some found.1 else None

unfoldable pub addr6_at : List ℕ → Option ℕ
addr6_at text =
    or_else (gap_at text) (whole_at text) (λ parts. part_at parts.0 >>= λ left. part_at parts.1 >>= λ right. around_gap left right)

-- ---- what is written

-- the eight groups of an address
abbrev pub groups_of : ℕ → List ℕ
groups_of n =
    bits_at 128 n 0 16 ∷ bits_at 128 n 16 16 ∷ bits_at 128 n 32 16 ∷ bits_at 128 n 48 16
    ∷ bits_at 128 n 64 16 ∷ bits_at 128 n 80 16 ∷ bits_at 128 n 96 16 ∷ bits_at 128 n 112 16 ∷ []

-- a group: its hexadecimal digits, in lower case and without leading zeros (sections 4.1 and 4.3)
abbrev pub group_text : ℕ → List ℕ
group_text g = digits 16 false g

-- groups with a colon between any two
abbrev pub joined : List ℕ → List ℕ
joined [] = []
joined (g ∷ []) = group_text g
joined (g ∷ h ∷ gs) = group_text g ++ colon ∷ joined (h ∷ gs)

-- how many groups of zeros stand first
abbrev pub zeros_first : List ℕ → ℕ
zeros_first [] = 0
zeros_first (g ∷ gs) = if g == 0 then zeros_first gs + 1 else 0

-- where the longest run of zeros starts, the first of equal ones, and its length
pub record Run : Type 0 where
  pub start : ℕ
  pub len : ℕ

abbrev pub longer : ℕ → Run → Run
longer here run = if nat_le run.len here then record { start = 0; len = here } else record { start = run.start + 1; len = run.len }

abbrev pub longest_run : List ℕ → Run
longest_run [] = record { start = 0; len = 0 }
longest_run (g ∷ gs) = longer (zeros_first (g ∷ gs)) (longest_run gs)

-- the text of groups: `::` for that run, if it has two groups or more
abbrev pub shortened : List ℕ → Run → List ℕ
shortened groups run =
    if nat_lt run.len 2 then joined groups
    else joined (take run.start groups) ++ colon ∷ colon ∷ joined (drop (run.start + run.len) groups)

-- the address's canonical text
unfoldable pub text6 : ℕ → List ℕ
text6 n = shortened (groups_of n) (longest_run (groups_of n))
