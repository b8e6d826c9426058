-- The shape of a mapping rule, of an IPv6 prefix of n bits, an IPv4 prefix of r bits, o EA bits and an
-- offset of a bits.
use Rattle.std.specs.Prelude.{ℕ, ◌+◌, ◌-◌, Bool, not, nat_le, List, [], ◌∷◌, Option}
use Rattle.std.specs.List.{position_from}

-- the five shape rules, in their order
abbrev pub shape_rules : ℕ → ℕ → ℕ → ℕ → List Bool
shape_rules n r o a =
    nat_le o 32
    ∷ nat_le 32 (o + r)
    ∷ nat_le (n + o) 64
    ∷ nat_le a 15
    ∷ nat_le (o + r - 32) (16 - a)
    ∷ []

-- the number of the first that is broken, from 1
abbrev pub first_broken : ℕ → ℕ → ℕ → ℕ → Option ℕ
first_broken n r o a = position_from not 1 (shape_rules n r o a)
