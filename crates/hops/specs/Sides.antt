-- What both versions owe as sides of a node.
use Rattle.std.specs.Prelude.{◌≡◌, ℕ, Bool, List}
use Rattle.octets.specs.declared.cause.Cause.{Cause}
use Rattle.ip4_packet.specs.declared.head.Head4.{Head4}
use Rattle.ip6_packet.specs.declared.head.Head6.{Head6}
use Rattle.packets.specs.declared.found.Found.{Found}
use Rattle.packets.specs.declared.found.Found.TheVariants.{Taken, Dropped}
use Rattle.packets.specs.declared.packet4.Packet4.{Packet4}
use Rattle.packets.specs.declared.packet6.Packet6.{Packet6}
use Rattle.packets.specs.Found.{IsHeader4, IsHeader6, IsFound4, IsFound6}
use Rattle.packets.specs.Packet4.{IsPacket4}
use Rattle.packets.specs.Packet6.{IsPacket6}
use Rattle.packets.proofs.FoundOnce.{found4, found6}

pub taken4 : (octets : List ℕ) (p : Packet4) → IsFound4 octets (Taken p) → IsPacket4 p octets
taken4 octets p is = is

pub headed4 : (octets : List ℕ) (p : Packet4) → IsPacket4 p octets → IsHeader4 p.head octets
headed4 octets p is = (is.is, is.header)

pub dropped4 : (octets : List ℕ) (cause : Cause) (h : Head4) → IsFound4 octets (Dropped cause h) → IsHeader4 h octets
dropped4 octets cause h is = is.0

pub only4 : (octets : List ℕ) (found : Found Packet4 Head4) (p : Packet4) → IsFound4 octets found → IsPacket4 p octets → found ≡ Taken p
only4 octets found p is packet = found4 octets found (Taken p) is packet

pub taken6 : (at_relay : Bool) (octets : List ℕ) (p : Packet6) → IsFound6 at_relay octets (Taken p) → IsPacket6 at_relay p octets
taken6 at_relay octets p is = is

pub headed6 : (at_relay : Bool) (octets : List ℕ) (p : Packet6) → IsPacket6 at_relay p octets → IsHeader6 p.head octets
headed6 at_relay octets p is = (is.is, is.header)

pub dropped6 : (at_relay : Bool) (octets : List ℕ) (cause : Cause) (h : Head6)
    → IsFound6 at_relay octets (Dropped cause h) → IsHeader6 h octets
dropped6 at_relay octets cause h is = is.0

pub only6 : (at_relay : Bool) (octets : List ℕ) (found : Found Packet6 Head6) (p : Packet6)
    → IsFound6 at_relay octets found → IsPacket6 at_relay p octets → found ≡ Taken p
only6 at_relay octets found p is packet = found6 at_relay octets found (Taken p) is packet
