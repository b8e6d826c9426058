use Rattle.std.proofs.Common.{Some, sym, ap, ◌∙◌}
use Rattle.setup_tables.proofs.Spellings.{only-prefix4}
use Rattle.setup_tables.proofs.spelled.prefix4_at.Goals as goal

pub returns-clause-only : goal.returns-clause-only
returns-clause-only c = λ x h.
    rw c.ok.ensures.value (only-prefix4 c.read_prefix4.result c.as_bytes.result.now _ _ (sym c.in_ok-text_at.ensures ∙ ap Some (sym c.as_bytes.ensures.value)) c.read_prefix4.ensures.only x h)
