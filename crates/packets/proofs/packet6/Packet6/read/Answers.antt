use Rattle.std.proofs.Common.{ap, ◌∙◌, Err, refl}
use Rattle.octets.specs.Cause.{IsLeast}
use Rattle.ip6_packet.specs.Grammar.{payload_of6}
use Rattle.packets.specs.Behind6.{Behind6}
use Rattle.packets.proofs.packet6.Packet6.read.Goals as goal

pub returns-in-Err : goal.returns-in-Err
returns-in-Err c = (c.in-Err.ensures.refused c.in-Err.cause).0 refl

pub returns-in-Err-Drop : goal.returns-in-Err-Drop
returns-in-Err-Drop c =
    let head = c.in-Ok.head in
    let cause = c.in-Err-Drop.cause in
    let least : IsLeast (Behind6 c.args.at_relay head (payload_of6 head c.args.octets.now)) cause =
    rw c.payload.ensures at c.carried6.ensures.refused cause (c.in-Err-Drop.is ∙ ap Err c.in-Err-Drop.field-0-is) in
    (c.in-Ok.ensures.found, least)
