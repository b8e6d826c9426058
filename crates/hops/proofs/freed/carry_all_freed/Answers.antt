use Rattle.std.proofs.Common.{◌≡◌, ◌∙◌, ◌<◌, ◌+◌, ℕ, List, [], ◌∷◌, ◌++◌, ap, sym, refl, subst, take, length}
use Rattle.std.proofs.lemmas.List.{take_more}
use Rattle.octets.specs.declared.parcel.Parcel.{Parcel}
use Rattle.hops.specs.Gains.{Gains}
use Rattle.hops.specs.Hop.{IsLaterFragment, IsOne, IsFreed, AreFreed}
use Rattle.hops.proofs.Gained.{unmoved, freed_more}
use Rattle.hops.proofs.freed.carry_all_freed.Goals as goal

pub loop-parcel-init : goal.loop-parcel-init
loop-parcel-init g c =
    let Last = IsLaterFragment g.S.Side.IsPacket g.S.Side.extent_of in
    let One = IsOne g.S.Side.IsPacket (g.C.Carries.Becomes c.args.carrier.now) in
    unmoved (AreFreed Last One []) c.args.hop.now refl

pub loop-parcel-preserved : goal.loop-parcel-preserved
loop-parcel-preserved g c =
    let Last = IsLaterFragment g.S.Side.IsPacket g.S.Side.extent_of in
    let One = IsOne g.S.Side.IsPacket (g.C.Carries.Becomes c.args.carrier.now) in
    let parcels = c.args.parcels.now in
    let i = c.loop-parcel.parcel-index in
    let item = c.parcel-item.result in
    let Freed : List ℕ → Type 0 = λ octets. Gains (IsFreed Last One octets) c.loop-parcel.hop c.carry_freed.new.hop in
    let freed : Freed item.bytes = subst Freed c.as_slice.ensures c.in_ok-carry_freed.ensures in
    let within : i < length parcels = c.loop-parcel-test.true in
    let e : take i parcels ++ item ∷ [] ≡ take (i + 1) parcels = ap (λ (x : Parcel). take i parcels ++ x ∷ []) c.parcel-item.is ∙ sym (take_more parcels i item within) in
    subst (λ (ps : List Parcel). Gains (AreFreed Last One ps) c.args.hop.now c.carry_freed.new.hop) e
    (freed_more Last One (take i parcels) item c.args.hop.now c.loop-parcel.hop c.carry_freed.new.hop c.loop-parcel.invariant freed)
