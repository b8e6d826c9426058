-- How a test lies among the ports.
use Rattle.std.specs.Prelude.{◌≡◌, ℕ, ◌+◌, ◌*◌, ◌<◌, nat_le, nat_lt, Bool, ◌&&◌}

-- ports stand in blocks of one size, and those that pass are one run in each block from `first` on,
-- which begins at place `start` of the block
abbrev pub HasLayout : (ℕ → Bool) → ℕ → ℕ → ℕ → ℕ → ℕ → Type 0
HasLayout p first blocks block start run =
    (q r : ℕ) → q < blocks → r < block → p (q * block + r) ≡ (nat_le first q && (nat_le start r && nat_lt r (start + run)))
