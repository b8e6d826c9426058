use Rattle.std.proofs.Common.{refl}
use Rattle.mapt_tool.specs.Words.{seen}
use Rattle.mapt_tool.proofs.Ending.{carried_ends, stopped_ends}
use Rattle.mapt_tool.proofs.tool.serve.Goals as goal

pub returns-in-Ok : goal.returns-in-Ok
returns-in-Ok g c =
    let folder = g.F.Folder.seen in
    let sink = g.K.Sink.seen in
    carried_ends (seen c.args.command) (record { folder = folder c.args.folder.now; sink = sink c.args.out.now }) (record { folder = folder c.plan_of.new.folder; sink = sink c.args.out.now }) (record { folder = folder c.carry_out.new.folder; sink = sink c.carry_out.new.out })
    c.in-Ok.plan c.carry_out.result c.in-Ok.ensures refl c.carry_out.ensures

pub returns-in-Err : goal.returns-in-Err
returns-in-Err g c =
    let folder = g.F.Folder.seen in
    let sink = g.K.Sink.seen in
    stopped_ends (seen c.args.command) (record { folder = folder c.args.folder.now; sink = sink c.args.out.now }) (record { folder = folder c.plan_of.new.folder; sink = sink c.args.out.now }) c.in-Err.status c.in-Err.ensures refl
