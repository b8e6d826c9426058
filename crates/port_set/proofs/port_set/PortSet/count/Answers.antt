use Rattle.std.proofs.Common.{arith}
use Rattle.port_set.specs.PortSet.{in_set}
use Rattle.port_set.proofs.Places.{sizes_of}
use Rattle.port_set.proofs.Ranks.{count-claimable, zero-is}
use Rattle.port_set.proofs.port_set.PortSet.count.Goals as goal

pub returns : goal.returns
returns c =
    let s = c.args.self.now in
    let l = c.layout.result in
    let zero = zero-is c.has.result (in_set s.a s.k s.psid 0) c.has.ensures in
    let all = count-claimable (in_set s.a s.k s.psid) l.first l.blocks l.block l.start l.run c.layout.ensures.lies (sizes_of l) in
    omega (arith, all, zero, c.from.ensures, c.ports.ensures)
