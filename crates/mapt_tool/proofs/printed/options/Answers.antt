use Rattle.std.proofs.Common.{ℕ, List, Ok, Err, subst}
use Rattle.outside.specs.declared.file_id.FileId.TheVariants.{Options}
use Rattle.mapt_tool.specs.Ended.{Given}
use Rattle.mapt_tool.specs.Limits.{limit_of, command_limit}
use Rattle.mapt_tool.specs.Printed.{IsOptions}
use Rattle.mapt_tool.specs.Reading.{Reads, Answers}
use Rattle.mapt_tool.proofs.Steps.{ends_first, ends_then, ends_here}
use Rattle.mapt_tool.proofs.printed.options.Goals as goal

pub returns-in-Err : goal.returns-in-Err
returns-in-Err g c =
    let seen = g.F.Folder.seen in
    ends_first (Reads Options c.args.file.now (limit_of command_limit)) (λ text. Answers (IsOptions text)) (seen c.args.folder.now) (seen c.read_text.new.folder) c.in-Err.status c.in-Err.ensures.ended

pub returns-in-Ok-options_said : goal.returns-in-Ok-options_said
returns-in-Ok-options_said g c =
    let seen = g.F.Folder.seen in
    let mid = seen c.read_text.new.folder in
    ends_then (Reads Options c.args.file.now (limit_of command_limit)) (λ text. Answers (IsOptions text)) (seen c.args.folder.now) mid mid c.in-Ok.text (Ok c.in-Ok-options_said.plan) c.in-Ok.ensures.ended
    (ends_here (IsOptions c.in-Ok.text) mid (Ok c.in-Ok-options_said.plan) (subst (λ (text : List ℕ). Given (IsOptions text) (Ok c.in-Ok-options_said.plan)) c.as_slice.ensures c.in-Ok-options_said.ensures))

pub returns : goal.returns
returns g c =
    let seen = g.F.Folder.seen in
    let mid = seen c.read_text.new.folder in
    ends_then (Reads Options c.args.file.now (limit_of command_limit)) (λ text. Answers (IsOptions text)) (seen c.args.folder.now) mid mid c.in-Ok.text (Err c.in-Err-options_said.status) c.in-Ok.ensures.ended
    (ends_here (IsOptions c.in-Ok.text) mid (Err c.in-Err-options_said.status) (subst (λ (text : List ℕ). Given (IsOptions text) (Err c.in-Err-options_said.status)) c.as_slice.ensures c.in-Err-options_said.ensures))
