-- Counts of 64 bits that don't fall, and stay at their greatest number where they would pass it.
use Rattle.std.specs.Prelude.{ℕ, ◌+◌, ◌-◌, ◌^◌, ◌≤◌, min, max}

-- the count after this many more
abbrev pub counted : ℕ → ℕ → ℕ
counted before more = max before (min (before + more) (2 ^ 64 - 1))

-- the count rose by at least this many; one that stands at its greatest number counts as risen
abbrev pub RoseBy : ℕ → ℕ → ℕ → Type 0
RoseBy more before after = counted before more ≤ after

-- the count rose
abbrev pub Rose : ℕ → ℕ → Type 0
Rose before after = RoseBy 1 before after
