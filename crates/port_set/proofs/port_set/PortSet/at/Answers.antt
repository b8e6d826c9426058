use Rattle.std.proofs.Common.{◌≡◌, ℕ, ◌∙◌, arith, ap}
use Rattle.std.specs.Prelude.{Some}
use Rattle.port_set.specs.PortSet.{in_set, rank_of}
use Rattle.port_set.proofs.Places.{sizes_of}
use Rattle.port_set.proofs.Ranks.{count-claimable, zero-is, rank-below, rank-one, rank-computed}
use Rattle.port_set.proofs.port_set.PortSet.at.Goals as goal

pub returns-then-i-count-clause-inverse : goal.returns-then-i-count-clause-inverse
returns-then-i-count-clause-inverse c x less e =
    let s = c.args.self.now in
    absurd (omega (arith, rank-below s.a s.k s.psid x c.args.i less e, c.count.ensures))

pub port-requires : goal.port-requires
port-requires c =
    let s = c.args.self.now in
    let l = c.layout.result in
    let zero = zero-is c.has.result (in_set s.a s.k s.psid 0) c.has.ensures in
    let all = count-claimable (in_set s.a s.k s.psid) l.first l.blocks l.block l.start l.run c.layout.ensures.lies (sizes_of l) in
    omega (arith, all, zero, c.from.ensures, c.count.ensures)

found : (c : goal.After-port) → rank_of c.args.self.now.a c.args.self.now.k c.args.self.now.psid c.port.result ≡ Some c.args.i
found c =
    let s = c.args.self.now in
    let l = c.layout.result in
    let zero = zero-is c.has.result (in_set s.a s.k s.psid 0) c.has.ensures in
    let all = count-claimable (in_set s.a s.k s.psid) l.first l.blocks l.block l.start l.run c.layout.ensures.lies (sizes_of l) in
    rank-computed s.a s.k s.psid l.first l.blocks l.block l.start l.run c.args.i c.from.result c.port.result c.layout.ensures.lies (sizes_of l) (c.from.ensures ∙ zero) (omega (arith, all, zero, c.from.ensures, c.count.ensures)) c.port.ensures

pub returns-clause-found : goal.returns-clause-found
returns-clause-found c = found c

pub returns-clause-inverse : goal.returns-clause-inverse
returns-clause-inverse c x less e =
    let s = c.args.self.now in
    ap (λ (y : ℕ). Some y) (rank-one s.a s.k s.psid c.port.result x c.args.i (found c) e)
