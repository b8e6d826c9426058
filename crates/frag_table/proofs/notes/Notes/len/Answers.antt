use Rattle.std.proofs.Common.{ap, length, arith}
use Rattle.frag_table.proofs.Keys.{length-listed}
use Rattle.frag_table.proofs.notes.Notes.len.Goals as goal

pub returns : goal.returns
returns c =
    omega (arith, c.len.ensures, c.self.inside.keys.ok.0, length-listed c.self.inside.slab c.self.inside.keys.items c.self.invariant, ap length c.self.view_is)
