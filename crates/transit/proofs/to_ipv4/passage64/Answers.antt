use Rattle.std.proofs.Common.{arith}
use Rattle.ip6_packet.specs.Grammar.{payload_of6}
use Rattle.transit.specs.Passage64.{HasRoom}
use Rattle.transit.proofs.Room.{no_room, length_is, not_so}
use Rattle.transit.proofs.to_ipv4.passage64.Goals as goal

pub returns-then-not-has_room : goal.returns-then-not-has_room
returns-then-not-has_room c =
    let head = c.args.packet.now.head in
    let is = c.requires.1 in
    let none : HasRoom head c.args.packet.now.content → ⊥ = λ (room : HasRoom head c.args.packet.now.content). not_so c.has_room.result c.if-not-has_room.true (c.has_room.ensures.1 room) in
    (omega (arith, c.if-packet-le1.false), no_room c.requires.0 c.args.passing.now.mtus head (payload_of6 head c.args.octets.now) c.args.passing.now.ends c.args.passing.now.id c.args.packet.now.content is.content (length_is head c.args.octets.now is.is) none)
