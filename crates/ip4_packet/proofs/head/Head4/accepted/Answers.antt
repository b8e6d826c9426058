use Rattle.ip4_packet.proofs.head.Head4.accepted.Goals as goal

pub unreachable-requires : goal.unreachable-requires
unreachable-requires c =
    let cause = c.in_default.field-0 in
    c.requires cause ((c.read.ensures.refused cause).0 c.in_default.is).0
