use Rattle.std.proofs.Common.{List, map, ap, ◌∙◌}
use Rattle.map_rules.specs.declared.dmr.Dmr.{Dmr}
use Rattle.map_rules.specs.declared.rule.Rule.{Rule}
use Rattle.rule_book.specs.Text.{owner_text}
use Rattle.setup_tables.specs.declared.edge.EdgeLine.{EdgeLine}
use Rattle.mapt_tool.specs.Planned.{says}
use Rattle.mapt_tool.proofs.Configured.{book_refused, book_said}
use Rattle.mapt_tool.proofs.asked.owner_said.Goals as goal

pub returns-in-Err : goal.returns-in-Err
returns-in-Err c =
    let edges : List EdgeLine = c.args.setup.now.edges in
    rw c.status_of.ensures (book_refused (λ (standing : List Rule). owner_text standing (map (λ (e : EdgeLine). e.prefix) edges) (map (λ (e : EdgeLine). e.name) edges) c.args.end.addr.0 c.args.end.port) c.args.setup.now c.args.generation c.in-Err.fault c.in-Err.ensures)

pub returns : goal.returns
returns c =
    let edges : List EdgeLine = c.args.setup.now.edges in
    book_said (λ (dmr : Dmr) (standing : List Rule). owner_text standing (map (λ (e : EdgeLine). e.prefix) edges) (map (λ (e : EdgeLine). e.name) edges) c.args.end.addr.0 c.args.end.port) c.args.setup.now c.args.generation c.in-Ok.book c.in_ok-saying.field-0 c.in-Ok.ensures (c.in_ok-saying.ensures ∙ ap says (c.as_slice.ensures ∙ c.in_ok-line.ensures))
