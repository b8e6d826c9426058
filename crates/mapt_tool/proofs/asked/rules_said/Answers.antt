use Rattle.std.proofs.Common.{List, ap, ◌∙◌}
use Rattle.map_rules.specs.declared.dmr.Dmr.{Dmr}
use Rattle.map_rules.specs.declared.rule.Rule.{Rule}
use Rattle.rule_book.specs.Book.{dmr_of}
use Rattle.rule_book.specs.Text.{book_text}
use Rattle.mapt_tool.specs.Planned.{says}
use Rattle.mapt_tool.proofs.Configured.{book_refused, book_said}
use Rattle.mapt_tool.proofs.asked.rules_said.Goals as goal

pub returns-in-Err : goal.returns-in-Err
returns-in-Err c =
    rw c.status_of.ensures (book_refused (λ (standing : List Rule). book_text standing (dmr_of c.args.setup.now.book)) c.args.setup.now c.args.generation c.in-Err.fault c.in-Err.ensures)

pub returns : goal.returns
returns c =
    book_said (λ (dmr : Dmr) (standing : List Rule). book_text standing dmr) c.args.setup.now c.args.generation c.in-Ok.book c.in_ok-saying.field-0 c.in-Ok.ensures (c.in_ok-saying.ensures ∙ ap says (c.as_slice-2.ensures ∙ c.in_ok-text.ensures))
