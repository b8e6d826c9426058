use Rattle.std.proofs.Common.{◌≡◌, take}
use Rattle.mapt_tool.specs.Carried.{writing}
use Rattle.mapt_tool.proofs.carrying.write_files.Given as goal

abbrev pub invariant-loop-write : goal.invariant-loop-write
invariant-loop-write g l =
    let seen = g.F.Folder.seen in
    seen l.folder ≡ writing (seen l.fn.folder) (take l.write-index l.writes)
