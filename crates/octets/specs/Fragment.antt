-- The fields of a fragment of either version: its place in the whole payload, in units of 8 octets, and
-- whether more fragments follow.
use Rattle.std.specs.Prelude.{◌≡◌, ◌≢◌, ℕ, ◌+◌, ◌*◌, ◌%◌, ◌<◌, ◌⊎◌}

-- a fragment that ends past the greatest payload, or one that isn't the last and has a broken unit of 8
-- octets (RFC 791, section 3.2; RFC 8200, section 4.5)
abbrev pub IsWrongFragment : ℕ → ℕ → ℕ → Type 0
IsWrongFragment offset more len = (65535 < offset * 8 + len) ⊎ ((more ≡ 1) × (len % 8 ≢ 0))
