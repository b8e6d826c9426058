use Rattle.std.proofs.Common.{◌+◌, ◌-◌, length}
use Rattle.mapt_tool.proofs.Pieces.{HasRead}
use Rattle.mapt_tool.proofs.reading.read_whole.Given as goal

abbrev pub invariant-pieces : goal.invariant-pieces
invariant-pieces g l =
    let seen = g.F.Folder.seen in
    HasRead (seen l.fn.folder) (seen l.folder) l.name l.bytes l.limit (length l.piece.items)

abbrev pub decreases-pieces : goal.decreases-pieces
decreases-pieces g l = l.limit + 1 - length l.bytes
