use Rattle.std.proofs.Common.{◌≡◌, ◌-◌, ◌≤◌, ◌∙◌, sym}
use Rattle.std.specs.Prelude.{Some}
use Rattle.std.proofs.Math.Facts.{Fits-lt-pow}
use Rattle.port_set.specs.PortSet.{in_set, rank_of}
use Rattle.port_set.proofs.Places.{StandsAt, stands, sizes_of}
use Rattle.port_set.proofs.Ranks.{but_zero-true, zero-is, rank-below, rank-computes}
use Rattle.port_set.proofs.port_set.PortSet.rank.Goals as goal

stands_there : (c : goal.After-ports_below-arg-1) → StandsAt c.layout.result.first c.layout.result.blocks c.layout.result.block c.layout.result.start c.layout.result.run c.args.x
stands_there c =
    let s = c.args.self.now in
    let l = c.layout.result in
    let claims = c.claimable.ensures.0 c.if-not-claimable.false in
    stands (in_set s.a s.k s.psid) l.first l.blocks l.block l.start l.run c.args.x c.layout.ensures.lies (sizes_of l) (Fits-lt-pow c.ranges.x) (but_zero-true (in_set s.a s.k s.psid) c.args.x claims).0

pub ports_below-requires-clause-block : goal.ports_below-requires-clause-block
ports_below-requires-clause-block c = (stands_there c).used

pub ports_below-requires-clause-place : goal.ports_below-requires-clause-place
ports_below-requires-clause-place c = (stands_there c).after

computed : (c : goal.After-from) → (c.from.result ≤ c.ports_below.result) × (rank_of c.args.self.now.a c.args.self.now.k c.args.self.now.psid c.args.x ≡ Some (c.ports_below.result - c.from.result))
computed c =
    let s = c.args.self.now in
    let l = c.layout.result in
    let zero = zero-is c.has.result (in_set s.a s.k s.psid 0) c.has.ensures in
    let claims = c.claimable.ensures.0 c.if-not-claimable.false in
    let told = rank-computes s.a s.k s.psid l.first l.blocks l.block l.start l.run c.from.result c.args.x c.layout.ensures.lies (sizes_of l) (c.from.ensures ∙ zero) (Fits-lt-pow c.ranges.x) claims in
    rw c.ports_below.ensures told

pub overflow_sub-result : goal.overflow_sub-result
overflow_sub-result c = (computed c).0

pub returns-clause-value : goal.returns-clause-value
returns-clause-value c = sym (computed c).1

pub returns-clause-below : goal.returns-clause-below
returns-clause-below c =
    let s = c.args.self.now in
    rank-below s.a s.k s.psid c.args.x _ (Fits-lt-pow c.ranges.x) (computed c).1
