use Rattle.std.proofs.Common.{refl, inl, inr, subst, ⊎_elim}
use Rattle.packets.specs.Packet4.{IsPacket4}
use Rattle.packets.specs.Found.{IsFound4}
use Rattle.hops.specs.Hop.{lost, AreFreed, AreBoth}
use Rattle.hops.proofs.Gained.{gained, widened}
use Rattle.nat_model.specs.Waiting.{freed_of}
use Rattle.edge_node.specs.declared.way.Way.TheVariants.{Turned}
use Rattle.edge_node.specs.Asked.{IsDroppedAt}
use Rattle.edge_node.specs.Hop.{FromItself, Becomes, IsLaterAt, IsEdgeHop}
use Rattle.edge_node.proofs.Emitted.{answer_of_way, dropped_hop, taken_hop}
use Rattle.edge_node.proofs.hop.emit_from_itself.Goals as goal

pub invariant_of-from : goal.invariant_of-from
invariant_of-from c =
    let octets = c.args.octets.now in
    let packet : IsPacket4 c.in-Taken.packet octets = subst (IsFound4 octets) c.in-Taken.is c.requires.found in
    record { fits = ∣ answer_of_way Turned c.args.answer.now octets (c.in-Taken.packet, packet) c.requires.emittable ∣₁ }

pub returns-in-Taken : goal.returns-in-Taken
returns-in-Taken c =
    let node = c.args.node.now in
    let answer = c.args.answer.now in
    let octets = c.args.octets.now in
    let packet : IsPacket4 c.in-Taken.packet octets = subst (IsFound4 octets) c.in-Taken.is c.requires.found in
    let One = FromItself answer octets c.in-Taken.packet in
    widened c.carry_flow.result (AreBoth One (AreFreed (IsLaterAt Turned) (Becomes node Turned answer) (freed_of answer))) (IsEdgeHop node Turned answer octets)
    c.args.hop.now c.carry_flow.new.hop
    (λ hop both. taken_hop node Turned answer octets One hop (λ own becomes. (c.in-Taken.packet, packet, becomes)) both)
    (rw c.freed_by.ensures at c.carry_flow.ensures)

pub returns-in-Unreadable : goal.returns-in-Unreadable
returns-in-Unreadable c =
    let node = c.args.node.now in
    let answer = c.args.answer.now in
    let octets = c.args.octets.now in
    let cause = c.in-Unreadable.cause in
    let dropped : IsDroppedAt Turned cause octets = ⊎_elim
    (λ e. inl (subst (IsFound4 octets) e c.requires.found))
    (λ w. let found = subst (IsFound4 octets) w.1 c.requires.found in inr (w.0, found.0.0, found.0.1, found.1)) c.in-Unreadable.is in
    gained c.lose.result (IsEdgeHop node Turned answer octets) c.args.hop.now c.lose.new.self (lost cause)
    (dropped_hop node Turned answer octets cause (lost cause) dropped c.requires.emittable refl) c.lose.ensures
