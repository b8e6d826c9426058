use Rattle.std.proofs.Common.{◌≡◌, Ok, Err}
use Rattle.mapt_tool.specs.Course.{Configures, owner_said}
use Rattle.mapt_tool.specs.Reading.{Answers}
use Rattle.mapt_tool.proofs.Steps.{ends_first, ends_then, ends_here}
use Rattle.mapt_tool.proofs.asked.owner.Goals as goal

pub returns-in-Err : goal.returns-in-Err
returns-in-Err g c =
    let seen = g.F.Folder.seen in
    ends_first (Configures c.args.config.now) (λ setup. Answers (λ answer. answer ≡ owner_said setup c.args.generation c.args.end.addr.0 c.args.end.port)) (seen c.args.folder.now) (seen c.configured.new.folder) c.in-Err.status c.in-Err.ensures.ended

pub returns-in-Ok-owner_said : goal.returns-in-Ok-owner_said
returns-in-Ok-owner_said g c =
    let seen = g.F.Folder.seen in
    let mid = seen c.configured.new.folder in
    ends_then (Configures c.args.config.now) (λ setup. Answers (λ answer. answer ≡ owner_said setup c.args.generation c.args.end.addr.0 c.args.end.port)) (seen c.args.folder.now) mid mid c.in-Ok.setup (Ok c.in-Ok-owner_said.plan) c.in-Ok.ensures.ended
    (ends_here (λ answer. answer ≡ owner_said c.in-Ok.setup c.args.generation c.args.end.addr.0 c.args.end.port) mid (Ok c.in-Ok-owner_said.plan) c.in-Ok-owner_said.ensures)

pub returns : goal.returns
returns g c =
    let seen = g.F.Folder.seen in
    let mid = seen c.configured.new.folder in
    ends_then (Configures c.args.config.now) (λ setup. Answers (λ answer. answer ≡ owner_said setup c.args.generation c.args.end.addr.0 c.args.end.port)) (seen c.args.folder.now) mid mid c.in-Ok.setup (Err c.in-Err-owner_said.status) c.in-Ok.ensures.ended
    (ends_here (λ answer. answer ≡ owner_said c.in-Ok.setup c.args.generation c.args.end.addr.0 c.args.end.port) mid (Err c.in-Err-owner_said.status) c.in-Err-owner_said.ensures)
