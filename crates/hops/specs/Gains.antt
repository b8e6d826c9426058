-- What a hop comes to more.
use Rattle.std.specs.Prelude.{◌≡◌}
use Rattle.hops.specs.declared.hop.Hop.{Hop}
use Rattle.hops.specs.Hop.{then}

-- this comes after what it came to before
abbrev pub Gains : (Hop → Type 0) → Hop → Hop → Type 0
Gains Becomes before after = (more : Hop) × Becomes more × (after ≡ then before more)
