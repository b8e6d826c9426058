use Rattle.std.proofs.Common.{Some, sym, ap, ◌∙◌}
use Rattle.setup_tables.proofs.Spellings.{only-prefix6}
use Rattle.setup_tables.proofs.spelled.prefix6_at.Goals as goal

pub returns-clause-only : goal.returns-clause-only
returns-clause-only c = λ x h.
    rw c.ok.ensures.value (only-prefix6 c.read_prefix6.result c.as_bytes.result.now _ _ (sym c.in_ok-text_at.ensures ∙ ap Some (sym c.as_bytes.ensures.value)) c.read_prefix6.ensures.only x h)
