use Rattle.std.proofs.Common.{◌≡◌, ap, sym, refl, subst, Some, List}
use Rattle.octets.specs.declared.cause.Cause.TheVariants.{FragmentsFull}
use Rattle.octets.specs.declared.parcel.Parcel.{Parcel}
use Rattle.l4_headers.specs.declared.ports.Ports.{Ports}
use Rattle.frag_table.specs.declared.answer.FragAnswer.{FragAnswer}
use Rattle.packets.specs.declared.asked.Flow.{Flow}
use Rattle.hops.specs.declared.hop.Hop.{Hop}
use Rattle.hops.specs.Hop.{nothing, lost, IsLaterFragment, IsOne, AreFreed, AreBoth}
use Rattle.hops.proofs.Gained.{gained, widened, unmoved}
use Rattle.relay_node.specs.Hop.{IsAnswered}
use Rattle.relay_node.proofs.hop.tell.Goals as goal

pub returns-in-Held : goal.returns-in-Held
returns-in-Held g c =
    let relay = c.args.relay.now in
    let p = c.args.packet.now in
    let octets = c.args.octets.now in
    let Becomes = g.S.RelaySide.Becomes relay p octets in
    let Frees : Ports → List Parcel → Hop → Type 0 = λ ports parcels hop. AreFreed (IsLaterFragment g.S.Side.IsPacket g.S.Side.extent_of)
    (IsOne g.S.Side.IsPacket (λ q others hop. g.S.RelaySide.Becomes relay q others ports hop)) parcels hop in
    let own = (g.S.Side.flow_of p).ports in
    unmoved (IsAnswered Becomes Frees own (Some c.args.told.now)) c.args.hop.now
    (subst (λ (t : FragAnswer). IsAnswered Becomes Frees own (Some t) nothing) (sym c.in-Held.is) refl)

pub returns-in-Full : goal.returns-in-Full
returns-in-Full g c =
    let relay = c.args.relay.now in
    let p = c.args.packet.now in
    let octets = c.args.octets.now in
    let Becomes = g.S.RelaySide.Becomes relay p octets in
    let Frees : Ports → List Parcel → Hop → Type 0 = λ ports parcels hop. AreFreed (IsLaterFragment g.S.Side.IsPacket g.S.Side.extent_of)
    (IsOne g.S.Side.IsPacket (λ q others hop. g.S.RelaySide.Becomes relay q others ports hop)) parcels hop in
    let own = (g.S.Side.flow_of p).ports in
    gained c.lose.result (IsAnswered Becomes Frees own (Some c.args.told.now)) c.args.hop.now c.lose.new.self (lost FragmentsFull)
    (subst (λ (t : FragAnswer). IsAnswered Becomes Frees own (Some t) (lost FragmentsFull)) (sym c.in-Full.is) refl) c.lose.ensures

pub returns-in-Released : goal.returns-in-Released
returns-in-Released g c =
    let relay = c.args.relay.now in
    let p = c.args.packet.now in
    let octets = c.args.octets.now in
    let Becomes = g.S.RelaySide.Becomes relay p octets in
    let Frees : Ports → List Parcel → Hop → Type 0 = λ ports parcels hop. AreFreed (IsLaterFragment g.S.Side.IsPacket g.S.Side.extent_of)
    (IsOne g.S.Side.IsPacket (λ q others hop. g.S.RelaySide.Becomes relay q others ports hop)) parcels hop in
    let own = (g.S.Side.flow_of p).ports in
    let found = c.flow.result.ports in
    let ports : found ≡ own = ap (λ (f : Flow). f.ports) c.flow.ensures in
    let parcels = c.in-Released.parcels in
    let given = c.as_slice.result.now in
    widened c.carry_flow.result (AreBoth (Becomes found) (Frees found given)) (IsAnswered Becomes Frees own (Some c.args.told.now))
    c.args.hop.now c.carry_flow.new.hop
    (λ hop both. subst (λ (t : FragAnswer). IsAnswered Becomes Frees own (Some t) hop) (sym c.in-Released.is)
    (subst (λ (q : Ports). AreBoth (Becomes q) (Frees q parcels) hop) ports (subst (λ (ps : List Parcel). AreBoth (Becomes found) (Frees found ps) hop) c.as_slice.ensures both)))
    c.carry_flow.ensures
