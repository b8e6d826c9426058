-- A packet that a node took is dropped, and so refused behind its header.
use Rattle.std.proofs.Common.{ℕ, List, inr, false}
use Rattle.octets.specs.declared.cause.Cause.{Cause}
use Rattle.hops.specs.declared.hop.Hop.{Hop}
use Rattle.packets.specs.declared.packet4.Packet4.{Packet4}
use Rattle.packets.specs.declared.packet6.Packet6.{Packet6}
use Rattle.packets.specs.Packet4.{IsPacket4}
use Rattle.packets.specs.Packet6.{IsPacket6}
use Rattle.edge_node.specs.declared.way.Node.{Node}
use Rattle.edge_node.specs.declared.way.Way.TheVariants.{Lan, Access}
use Rattle.edge_node.specs.Hop.{IsRefusedToLan, IsRefusedToAccess, Drops}

pub lan_drops : (node : Node) (octets : List ℕ) (p : Packet4) (cause : Cause) (hop : Hop) → IsPacket4 p octets
    → IsRefusedToLan node octets p.head cause hop → Drops node Lan octets cause hop
lan_drops node octets p cause hop is refused = inr (p.head, is.is, refused)

pub access_drops : (node : Node) (octets : List ℕ) (p : Packet6) (cause : Cause) (hop : Hop) → IsPacket6 false p octets
    → IsRefusedToAccess node octets p.head cause hop → Drops node Access octets cause hop
access_drops node octets p cause hop is refused = inr (p.head, is.is, refused)
