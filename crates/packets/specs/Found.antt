-- Octets as a node finds them: a packet that it takes, or the least cause for which every node drops them.
use Rattle.std.specs.Prelude.{ℕ, Bool, List}
use Rattle.octets.specs.Cause.{IsLeast}
use Rattle.ip4_packet.specs.declared.head.Head4.{Head4}
use Rattle.ip4_packet.specs.Grammar.{payload_of4, Is4}
use Rattle.ip4_packet.specs.Causes.{HasNoHeaderCause4, IsCause4}
use Rattle.ip6_packet.specs.declared.head.Head6.{Head6}
use Rattle.ip6_packet.specs.Grammar.{payload_of6, Is6}
use Rattle.ip6_packet.specs.Causes.{HasNoHeaderCause6, IsCause6}
use Rattle.packets.specs.declared.found.Found.{Found}
use Rattle.packets.specs.declared.found.Found.TheVariants.{Taken, Unreadable, Dropped}
use Rattle.packets.specs.declared.packet4.Packet4.{Packet4}
use Rattle.packets.specs.declared.packet6.Packet6.{Packet6}
use Rattle.packets.specs.Behind4.{Behind4}
use Rattle.packets.specs.Behind6.{Behind6}
use Rattle.packets.specs.Packet4.{IsPacket4}
use Rattle.packets.specs.Packet6.{IsPacket6}

-- this header stands in front, and no cause is found in it
abbrev pub IsHeader4 : Head4 → List ℕ → Type 0
IsHeader4 h octets = Is4 h (payload_of4 h octets) octets × HasNoHeaderCause4 octets

abbrev pub IsHeader6 : Head6 → List ℕ → Type 0
IsHeader6 h octets = Is6 h (payload_of6 h octets) octets × HasNoHeaderCause6 octets

abbrev pub IsFound4 : List ℕ → Found Packet4 Head4 → Type 0
IsFound4 octets (Taken p) = IsPacket4 p octets
IsFound4 octets (Unreadable cause) = IsCause4 cause octets
IsFound4 octets (Dropped cause h) = IsHeader4 h octets × IsLeast (Behind4 h (payload_of4 h octets)) cause

abbrev pub IsFound6 : Bool → List ℕ → Found Packet6 Head6 → Type 0
IsFound6 at_relay octets (Taken p) = IsPacket6 at_relay p octets
IsFound6 at_relay octets (Unreadable cause) = IsCause6 cause octets
IsFound6 at_relay octets (Dropped cause h) = IsHeader6 h octets × IsLeast (Behind6 at_relay h (payload_of6 h octets)) cause
