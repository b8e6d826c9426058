use Rattle.std.proofs.Common.{◌≡◌, take}
use Rattle.hops.specs.Hop.{then, sends_pieces}
use Rattle.hops.proofs.emission.Emission.send_pieces.Given as goal

abbrev pub invariant-loop-piece : goal.invariant-loop-piece
invariant-loop-piece l = l.self ≡ then l.fn.self (sends_pieces l.fn.exit (take l.piece-index l.piece-items))
