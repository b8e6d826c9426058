-- A packet as the relay read it from one of its sides.
use Rattle.std.specs.Prelude.{ℕ, Bool, true, false, List}
use Rattle.packets.specs.Found.{IsFound4, IsFound6}
use Rattle.relay_node.specs.declared.taken.Taken.{Taken}
use Rattle.relay_node.specs.declared.taken.Taken.TheVariants.{Six, Four}

-- it came from the access network
abbrev pub is_six : Taken → Bool
is_six (Six found) = true
is_six (Four found) = false

-- these octets were read
abbrev pub IsRead : List ℕ → Taken → Type 0
IsRead octets (Six found) = IsFound6 true octets found
IsRead octets (Four found) = IsFound4 octets found
