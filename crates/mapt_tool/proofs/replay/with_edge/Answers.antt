use Rattle.std.proofs.Common.{ℕ, List, Option, Err, ap, sym, ◌∙◌, subst, Some}
use Rattle.outside.specs.declared.file_id.FileId.TheVariants.{InLan}
use Rattle.pcap_files.specs.Capture.{capture}
use Rattle.one_edge.specs.Edge.{edge_in}
use Rattle.mapt_tool.specs.Ended.{Ended}
use Rattle.mapt_tool.specs.Limits.{limit_of}
use Rattle.mapt_setup.specs.Fit.{most_records}
use Rattle.mapt_tool.specs.Reading.{Reads, Answers}
use Rattle.mapt_tool.specs.Replay.{IsPlannedBy, ReplaysLan}
use Rattle.mapt_tool.specs.Target.{target_of}
use Rattle.mapt_tool.proofs.Steps.{ends_first}
use Rattle.mapt_tool.proofs.replay.with_edge.Goals as goal

pub returns-in-Err-read_text : goal.returns-in-Err-read_text
returns-in-Err-read_text g c =
    let seen = g.F.Folder.seen in
    let e = edge_in c.args.edge.now in
    let now = seen c.args.folder.now in
    let after = seen c.read_text.new.folder in
    let status = c.in-Err-read_text.status in
    let stops : Ended (ReplaysLan (target_of c.args.to) e (Some c.as_str.result.now)) now after (Err status) = ends_first (Reads (InLan 0) c.as_str.result.now (limit_of c.args.to.left)) (λ octets. Answers (IsPlannedBy c.args.to.prefix.now e (capture most_records octets))) now after status c.in-Err-read_text.ensures.ended in
    subst (λ (lan : Option (List ℕ)). Ended (ReplaysLan (target_of c.args.to) e lan) now after (Err status)) (ap (λ (name : List ℕ). Some name) c.as_str.ensures ∙ sym c.in-Some.is) stops
