use Rattle.std.proofs.Common.{sym}
use Rattle.hops.proofs.Steps.{no_pieces}
use Rattle.hops.proofs.emission.Emission.send_pieces.Goals as goal

pub loop-piece-init : goal.loop-piece-init
loop-piece-init c = sym (no_pieces c.args.self.now c.args.exit)
