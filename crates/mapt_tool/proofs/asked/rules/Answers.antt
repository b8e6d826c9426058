use Rattle.std.proofs.Common.{◌≡◌, Ok, Err}
use Rattle.mapt_tool.specs.Course.{Configures, rules_said}
use Rattle.mapt_tool.specs.Reading.{Answers}
use Rattle.mapt_tool.proofs.Steps.{ends_first, ends_then, ends_here}
use Rattle.mapt_tool.proofs.asked.rules.Goals as goal

pub returns-in-Err : goal.returns-in-Err
returns-in-Err g c =
    let seen = g.F.Folder.seen in
    ends_first (Configures c.args.config.now) (λ setup. Answers (λ answer. answer ≡ rules_said setup c.args.generation)) (seen c.args.folder.now) (seen c.configured.new.folder) c.in-Err.status c.in-Err.ensures.ended

pub returns-in-Ok-rules_said : goal.returns-in-Ok-rules_said
returns-in-Ok-rules_said g c =
    let seen = g.F.Folder.seen in
    let mid = seen c.configured.new.folder in
    ends_then (Configures c.args.config.now) (λ setup. Answers (λ answer. answer ≡ rules_said setup c.args.generation)) (seen c.args.folder.now) mid mid c.in-Ok.setup (Ok c.in-Ok-rules_said.plan) c.in-Ok.ensures.ended
    (ends_here (λ answer. answer ≡ rules_said c.in-Ok.setup c.args.generation) mid (Ok c.in-Ok-rules_said.plan) c.in-Ok-rules_said.ensures)

pub returns : goal.returns
returns g c =
    let seen = g.F.Folder.seen in
    let mid = seen c.configured.new.folder in
    ends_then (Configures c.args.config.now) (λ setup. Answers (λ answer. answer ≡ rules_said setup c.args.generation)) (seen c.args.folder.now) mid mid c.in-Ok.setup (Err c.in-Err-rules_said.status) c.in-Ok.ensures.ended
    (ends_here (λ answer. answer ≡ rules_said c.in-Ok.setup c.args.generation) mid (Err c.in-Err-rules_said.status) c.in-Err-rules_said.ensures)
