use Rattle.std.proofs.Common.{Ok}
use Rattle.mapt_tool.specs.Course.{IsSetup}
use Rattle.mapt_tool.specs.Reading.{Answers}
use Rattle.mapt_tool.specs.Replay.{ReplaysSetup}
use Rattle.mapt_tool.specs.Target.{target_of}
use Rattle.mapt_tool.proofs.Steps.{ends_then, ends_here}
use Rattle.mapt_tool.proofs.replay.with_text.Goals as goal

pub returns-in-Ok : goal.returns-in-Ok
returns-in-Ok g c =
    let seen = g.F.Folder.seen in
    let now = seen c.args.folder.now in
    ends_then (Answers (IsSetup c.args.text.now)) (λ setup. ReplaysSetup (target_of c.args.to) setup) now now (seen c.with_setup.new.folder) c.in-Ok.setup c.with_setup.result
    (ends_here (IsSetup c.args.text.now) now (Ok c.in-Ok.setup) c.in-Ok.ensures.given) c.with_setup.ensures
