use Rattle.std.proofs.Common.{subst}
use Rattle.packets.specs.declared.packet4.Content4.{Content4}
use Rattle.packets.specs.Packet4.{IsContent4, IsErrorOf4}
use Rattle.turned_packets.proofs.Standing.{stands}
use Rattle.turned_packets.proofs.turned.turned_payload.Goals as goal

pub turned_error-requires-clause-stands : goal.turned_error-requires-clause-stands
turned_error-requires-clause-stands c =
    let is : IsErrorOf4 c.args.packet.now.head c.args.payload.now c.in-Error.message c.in-Error.row c.in-Error.inner =
    subst (λ (content : Content4). IsContent4 c.args.packet.now.head c.args.payload.now content) c.in-Error.is c.requires in
    stands c.in-Error.message c.in-Error.inner is.embedded
