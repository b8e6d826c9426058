use Rattle.mapt_tool.proofs.Writes.{wrote_more, began_here, failed_here}
use Rattle.mapt_tool.proofs.carrying.write_files.Goals as goal

pub returns-in-Err-Failed : goal.returns-in-Err-Failed
returns-in-Err-Failed g c =
    let seen = g.F.Folder.seen in
    let ends = rw c.in-Err-Failed.field-0-is at c.in-Err-Failed.ensures.ends in
    failed_here (seen c.args.folder.now) (seen c.loop-write.folder) (seen c.write.new.self) c.args.writes.now c.loop-write.write-index c.write-item.result c.loop-write-test.true c.write-item.is c.loop-write.invariant
    ends.0 (rw c.as_str-name.ensures at ends.1)

pub returns-in-Err-NoMemory : goal.returns-in-Err-NoMemory
returns-in-Err-NoMemory g c =
    let seen = g.F.Folder.seen in
    began_here (seen c.args.folder.now) (seen c.loop-write.folder) (seen c.write.new.self) c.args.writes.now c.loop-write.write-index c.loop-write.invariant
    (rw c.in-Err-NoMemory.field-0-is at c.in-Err-NoMemory.ensures.ends)

pub loop-write-preserved : goal.loop-write-preserved
loop-write-preserved g c =
    let seen = g.F.Folder.seen in
    wrote_more (seen c.args.folder.now) (seen c.loop-write.folder) (seen c.write.new.self) c.args.writes.now c.loop-write.write-index c.write-item.result c.loop-write-test.true c.write-item.is c.loop-write.invariant
    (rw (c.as_str-name.ensures, c.as_slice.ensures) at c.in-Ok.ensures.ends)
