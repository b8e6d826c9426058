use Rattle.std.proofs.Common.{sym, refl, subst, Bor}
use Rattle.std.specs.Option.{option_map}
use Rattle.octets.specs.declared.cause.Cause.{Cause}
use Rattle.frag_table.specs.declared.answer.FragAnswer.{FragAnswer}
use Rattle.packets.specs.declared.found.Found.{Found}
use Rattle.hops.specs.declared.hop.Hop.{Hop}
use Rattle.hops.specs.Hop.{lost, IsLaterFragment, IsOne, IsRefused, AreFreed, IsMade}
use Rattle.hops.proofs.Gained.{gained}
use Rattle.relay_node.specs.Hop.{IsAnswered}
use Rattle.relay_node.proofs.hop.take.Goals as goal

pub returns-in-Unreadable : goal.returns-in-Unreadable
returns-in-Unreadable g c =
    let relay = c.args.relay.now in
    let octets = c.args.octets.now in
    let told = option_map (λ (a : Bor FragAnswer). a.now) c.args.told in
    let Made : g.row.S-Packet.Denot → Hop → Type 0 = λ p hop. IsAnswered (g.S.RelaySide.Becomes relay p octets)
    (λ ports parcels hop. AreFreed (IsLaterFragment g.S.Side.IsPacket g.S.Side.extent_of)
    (IsOne g.S.Side.IsPacket (λ q others hop. g.S.RelaySide.Becomes relay q others ports hop)) parcels hop)
    (g.S.Side.flow_of p).ports told hop in
    let Refuses : g.row.S-Head.Denot → Cause → Hop → Type 0 = λ h cause hop.
    IsRefused (g.S.Side.IsReply (g.S.RelaySide.answering relay h) h octets) (g.S.RelaySide.answering relay h).exit cause hop in
    gained c.lose.result (IsMade Made Refuses c.args.found.now) c.args.hop.now c.lose.new.self (lost c.in-Unreadable.cause)
    (subst (λ (found : Found g.row.S-Packet.Denot g.row.S-Head.Denot). IsMade Made Refuses found (lost c.in-Unreadable.cause)) (sym c.in-Unreadable.is) refl) c.lose.ensures
