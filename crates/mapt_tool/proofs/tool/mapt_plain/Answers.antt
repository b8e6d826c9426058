use Rattle.std.proofs.Common.{map}
use Rattle.std.specs.String.{string_bytes}
use Rattle.mapt_tool.specs.Words.{seen}
use Rattle.mapt_tool.proofs.Ending.{served_form, served_no_form}
use Rattle.mapt_tool.proofs.tool.mapt_plain.Goals as goal

pub returns-in-Ok : goal.returns-in-Ok
returns-in-Ok g c =
    let folder = g.F.Folder.seen in
    let sink = g.K.Sink.seen in
    served_form (map string_bytes c.args.words.now) (seen c.in-Ok.command) (record { folder = folder c.args.folder.now; sink = sink c.args.out.now }) (record { folder = folder c.serve.new.folder; sink = sink c.serve.new.out }) c.serve.result c.in-Ok.ensures.found c.serve.ensures

pub returns-in-Err : goal.returns-in-Err
returns-in-Err g c =
    let folder = g.F.Folder.seen in
    let sink = g.K.Sink.seen in
    served_no_form (map string_bytes c.args.words.now) c.in-Err.number (record { folder = folder c.args.folder.now; sink = sink c.args.out.now }) c.in-Err.ensures.none
