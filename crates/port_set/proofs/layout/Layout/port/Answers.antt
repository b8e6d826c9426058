use Rattle.std.proofs.Math.Facts.{Fits-of_lt}
use Rattle.port_set.proofs.Places.{port-small, sizes_of}
use Rattle.port_set.proofs.layout.Layout.port.Goals as goal

pub overflow_cast-result : goal.overflow_cast-result
overflow_cast-result c =
    let l = c.args.self.now in
    Fits-of_lt (port-small l.first l.blocks l.block l.start l.run c.args.n (sizes_of l) c.requires)
