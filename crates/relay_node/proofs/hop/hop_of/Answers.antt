use Rattle.std.proofs.Common.{sym, subst, Bor}
use Rattle.std.specs.Option.{option_map}
use Rattle.octets.specs.declared.cause.Cause.{Cause}
use Rattle.frag_table.specs.declared.answer.FragAnswer.{FragAnswer}
use Rattle.hops.specs.declared.hop.Hop.{Hop}
use Rattle.hops.specs.Gains.{Gains}
use Rattle.hops.specs.Hop.{IsLaterFragment, IsOne, IsRefused, AreFreed, IsMade}
use Rattle.hops.proofs.Gained.{from_nothing}
use Rattle.relay_node.specs.Hop.{IsAnswered}
use Rattle.relay_node.proofs.hop.hop_of.Goals as goal

pub returns : goal.returns
returns g c =
    let relay = c.args.relay.now in
    let octets = c.args.octets.now in
    let told = option_map (λ (a : Bor FragAnswer). a.now) c.args.told in
    let Made : g.row.S-Packet.Denot → Hop → Type 0 = λ p hop. IsAnswered (g.S.RelaySide.Becomes relay p octets)
    (λ ports parcels hop. AreFreed (IsLaterFragment g.S.Side.IsPacket g.S.Side.extent_of)
    (IsOne g.S.Side.IsPacket (λ q others hop. g.S.RelaySide.Becomes relay q others ports hop)) parcels hop)
    (g.S.Side.flow_of p).ports told hop in
    let Refuses : g.row.S-Head.Denot → Cause → Hop → Type 0 = λ h cause hop.
    IsRefused (g.S.Side.IsReply (g.S.RelaySide.answering relay h) h octets) (g.S.RelaySide.answering relay h).exit cause hop in
    let Is = IsMade Made Refuses c.args.found.now in
    subst Is (sym c.hop-2.ensures)
    (from_nothing Is c.take.new.hop (subst (λ (h : Hop). Gains Is h c.take.new.hop) c.new-hop.ensures c.in_ok-take.ensures))
