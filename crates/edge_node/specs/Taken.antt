-- A packet as an edge read it on one of its ways.
use Rattle.std.specs.Prelude.{ℕ, false, List}
use Rattle.packets.specs.Found.{IsFound4, IsFound6}
use Rattle.edge_node.specs.declared.taken.Taken.{Taken}
use Rattle.edge_node.specs.declared.taken.Taken.TheVariants.{Lan, Access, Turned}
use Rattle.edge_node.specs.declared.way.Way.{Way}
use Rattle.edge_node.specs.declared.way.Way.TheVariants.{Lan as ByLan, Access as ByAccess, Turned as ByItself}

abbrev pub way_of : Taken → Way
way_of (Lan found) = ByLan
way_of (Access found) = ByAccess
way_of (Turned found) = ByItself

-- these octets were read
abbrev pub IsRead : List ℕ → Taken → Type 0
IsRead octets (Lan found) = IsFound4 octets found
IsRead octets (Access found) = IsFound6 false octets found
IsRead octets (Turned found) = IsFound4 octets found
