use Rattle.std.proofs.Common.{ap, ◌∙◌, Err, refl}
use Rattle.octets.specs.Cause.{IsLeast}
use Rattle.ip4_packet.specs.Grammar.{payload_of4}
use Rattle.packets.specs.Behind4.{Behind4}
use Rattle.packets.proofs.packet4.Packet4.read.Goals as goal

pub returns-in-Err : goal.returns-in-Err
returns-in-Err c = (c.in-Err.ensures.refused c.in-Err.cause).0 refl

pub returns-in-Err-Drop : goal.returns-in-Err-Drop
returns-in-Err-Drop c =
    let head = c.in-Ok.head in
    let cause = c.in-Err-Drop.cause in
    let least : IsLeast (Behind4 head (payload_of4 head c.args.octets.now)) cause =
    rw c.payload.ensures at c.carried4.ensures.refused cause (c.in-Err-Drop.is ∙ ap Err c.in-Err-Drop.field-0-is) in
    (c.in-Ok.ensures.found, least)
