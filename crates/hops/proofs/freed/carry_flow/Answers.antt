use Rattle.hops.specs.Hop.{IsLaterFragment, IsOne, AreFreed}
use Rattle.hops.proofs.Gained.{both_gained}
use Rattle.hops.proofs.freed.carry_flow.Goals as goal

pub returns : goal.returns
returns g c =
    let Becomes = g.C.Carries.Becomes c.args.carrier.now in
    both_gained c.carry_all_freed.result (Becomes c.args.packet.now c.args.octets.now)
    (AreFreed (IsLaterFragment g.S.Side.IsPacket g.S.Side.extent_of) (IsOne g.S.Side.IsPacket Becomes) c.args.freed.now)
    c.args.hop.now c.carry.new.hop c.carry_all_freed.new.hop c.in_ok-carry.ensures c.carry_all_freed.ensures
