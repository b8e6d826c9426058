use Rattle.std.proofs.Common.{ℕ, List, Ok, Err, subst}
use Rattle.outside.specs.declared.file_id.FileId.TheVariants.{Config}
use Rattle.mapt_tool.specs.Course.{IsSetup}
use Rattle.mapt_tool.specs.Ended.{Given}
use Rattle.mapt_tool.specs.Limits.{limit_of, command_limit}
use Rattle.mapt_tool.specs.Reading.{Reads, Answers}
use Rattle.mapt_tool.proofs.Steps.{ends_first, ends_then, ends_here}
use Rattle.mapt_tool.proofs.asked.configured.Goals as goal

pub returns-in-Err-clause-ended : goal.returns-in-Err-clause-ended
returns-in-Err-clause-ended g c =
    let seen = g.F.Folder.seen in
    ends_first (Reads Config c.args.config.now (limit_of command_limit)) (λ text. Answers (IsSetup text)) (seen c.args.folder.now) (seen c.read_text.new.folder) c.in-Err.status c.in-Err.ensures.ended

pub returns-in-Ok-setup_in-clause-ended : goal.returns-in-Ok-setup_in-clause-ended
returns-in-Ok-setup_in-clause-ended g c =
    let seen = g.F.Folder.seen in
    let mid = seen c.read_text.new.folder in
    ends_then (Reads Config c.args.config.now (limit_of command_limit)) (λ text. Answers (IsSetup text)) (seen c.args.folder.now) mid mid c.in-Ok.text (Ok c.in-Ok-setup_in.setup) c.in-Ok.ensures.ended
    (ends_here (IsSetup c.in-Ok.text) mid (Ok c.in-Ok-setup_in.setup) (subst (λ (text : List ℕ). Given (IsSetup text) (Ok c.in-Ok-setup_in.setup)) c.as_slice.ensures c.in-Ok-setup_in.ensures.given))

pub returns-clause-ended : goal.returns-clause-ended
returns-clause-ended g c =
    let seen = g.F.Folder.seen in
    let mid = seen c.read_text.new.folder in
    ends_then (Reads Config c.args.config.now (limit_of command_limit)) (λ text. Answers (IsSetup text)) (seen c.args.folder.now) mid mid c.in-Ok.text (Err c.in-Err-setup_in.status) c.in-Ok.ensures.ended
    (ends_here (IsSetup c.in-Ok.text) mid (Err c.in-Err-setup_in.status) (subst (λ (text : List ℕ). Given (IsSetup text) (Err c.in-Err-setup_in.status)) c.as_slice.ensures c.in-Err-setup_in.ensures.given))
