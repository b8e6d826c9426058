use Rattle.std.proofs.Common.{refl, inl, inr, subst}
use Rattle.packets.specs.Packet4.{IsPacket4}
use Rattle.packets.specs.Found.{IsFound4}
use Rattle.hops.specs.Hop.{lost, AreFreed, AreBoth}
use Rattle.hops.proofs.Gained.{gained, widened}
use Rattle.hops.proofs.Silent.{header_silent4}
use Rattle.nat_model.specs.Waiting.{freed_of}
use Rattle.edge_node.specs.declared.way.Way.TheVariants.{Lan}
use Rattle.edge_node.specs.Hop.{FromLan, Becomes, IsLaterAt, IsEdgeHop, IsRefusedToLan}
use Rattle.edge_node.proofs.Emitted.{answer_of_way, dropped_hop, taken_hop}
use Rattle.edge_node.proofs.hop.emit_from_lan.Goals as goal

pub invariant_of-from : goal.invariant_of-from
invariant_of-from c =
    let octets = c.args.octets.now in
    let packet : IsPacket4 c.in-Taken.packet octets = subst (IsFound4 octets) c.in-Taken.is c.requires.found in
    record { fits = ∣ answer_of_way Lan c.args.answer.now octets (c.in-Taken.packet, packet) c.requires.emittable ∣₁ }

pub returns-in-Taken : goal.returns-in-Taken
returns-in-Taken c =
    let node = c.args.node.now in
    let answer = c.args.answer.now in
    let octets = c.args.octets.now in
    let packet : IsPacket4 c.in-Taken.packet octets = subst (IsFound4 octets) c.in-Taken.is c.requires.found in
    let One = FromLan node answer octets c.in-Taken.packet in
    widened c.carry_flow.result (AreBoth One (AreFreed (IsLaterAt Lan) (Becomes node Lan answer) (freed_of answer))) (IsEdgeHop node Lan answer octets)
    c.args.hop.now c.carry_flow.new.hop
    (λ hop both. taken_hop node Lan answer octets One hop (λ own becomes. (c.in-Taken.packet, packet, becomes)) both)
    (rw c.freed_by.ensures at c.carry_flow.ensures)

pub returns-in-Unreadable : goal.returns-in-Unreadable
returns-in-Unreadable c =
    let node = c.args.node.now in
    let answer = c.args.answer.now in
    let octets = c.args.octets.now in
    let cause = c.in-Unreadable.cause in
    let header = subst (IsFound4 octets) c.in-Unreadable.is c.requires.found in
    gained c.lose.result (IsEdgeHop node Lan answer octets) c.args.hop.now c.lose.new.self (lost cause)
    (dropped_hop node Lan answer octets cause (lost cause) (inl header) c.requires.emittable (inl (header_silent4 cause octets header.0, refl))) c.lose.ensures

pub returns-in-Dropped : goal.returns-in-Dropped
returns-in-Dropped c =
    let node = c.args.node.now in
    let answer = c.args.answer.now in
    let octets = c.args.octets.now in
    let cause = c.in-Dropped.cause in
    let head = c.in-Dropped.head in
    let found = subst (IsFound4 octets) c.in-Dropped.is c.requires.found in
    let refuses = rw (c.in_hand.ensures.from, c.in_hand.ensures.head, c.in_hand.ensures.octets) at c.refuse.ensures in
    widened c.refuse.result (IsRefusedToLan node octets head cause) (IsEdgeHop node Lan answer octets) c.args.hop.now c.refuse.new.hop
    (λ hop refused. dropped_hop node Lan answer octets cause hop (inr (head, found.0.0, found.0.1, found.1)) c.requires.emittable (inr (head, found.0.0, refused)))
    refuses
