use Rattle.std.proofs.Common.{◌≡◌, take}
use Rattle.octets.proofs.parcel.List+Parcel.copy.Given as goal

abbrev pub invariant-loop-parcel : goal.invariant-loop-parcel
invariant-loop-parcel l = l.copied ≡ take l.parcel-index l.parcel-items
