use Rattle.outside.specs.declared.file_id.FileId.TheVariants.{Config}
use Rattle.mapt_tool.specs.Course.{IsSetup, beside}
use Rattle.mapt_tool.specs.Limits.{limit_of, command_limit}
use Rattle.mapt_tool.specs.Reading.{Answers, Reads, Then}
use Rattle.mapt_tool.specs.Replay.{ReplaysSetup}
use Rattle.mapt_tool.proofs.Steps.{ends_first, ends_then}
use Rattle.mapt_tool.proofs.replay.replay.Goals as goal

pub returns-in-Err : goal.returns-in-Err
returns-in-Err g c =
    let seen = g.F.Folder.seen in
    ends_first (Reads Config c.args.config.now (limit_of command_limit)) (λ text. Then (Answers (IsSetup text)) (λ setup. ReplaysSetup (beside c.args.prefix.now text) setup)) (seen c.args.folder.now) (seen c.read_text.new.folder) c.in-Err.status c.in-Err.ensures.ended

pub returns : goal.returns
returns g c =
    let seen = g.F.Folder.seen in
    ends_then (Reads Config c.args.config.now (limit_of command_limit)) (λ text. Then (Answers (IsSetup text)) (λ setup. ReplaysSetup (beside c.args.prefix.now text) setup)) (seen c.args.folder.now) (seen c.read_text.new.folder) (seen c.with_text.new.folder) c.in-Ok.text c.with_text.result c.in-Ok.ensures.ended
    (rw (c.as_slice.ensures, c.as_slice-2.ensures) at c.with_text.ensures)
