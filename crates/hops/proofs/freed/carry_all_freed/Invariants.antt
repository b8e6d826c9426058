use Rattle.std.proofs.Common.{take}
use Rattle.hops.specs.Gains.{Gains}
use Rattle.hops.specs.Hop.{IsLaterFragment, IsOne, AreFreed}
use Rattle.hops.proofs.freed.carry_all_freed.Given as goal

-- the fragments so far
abbrev pub invariant-loop-parcel : goal.invariant-loop-parcel
invariant-loop-parcel g l =
    Gains (AreFreed (IsLaterFragment g.S.Side.IsPacket g.S.Side.extent_of) (IsOne g.S.Side.IsPacket (g.C.Carries.Becomes l.carrier)) (take l.parcel-index l.parcels)) l.fn.hop l.hop
