use Rattle.setup_tables.proofs.ListReads.{at_none}
use Rattle.setup_tables.proofs.Spellings.{no_dmr}
use Rattle.setup_tables.proofs.spelled.dmr_at.Goals as goal

pub returns-in_err-prefix6_at-clause-none : goal.returns-in_err-prefix6_at-clause-none
returns-in_err-prefix6_at-clause-none c = at_none c.from_residual.result (λ d h. c.in_err-prefix6_at.ensures.only d.prefix h)

pub returns-clause-none : goal.returns-clause-none
returns-clause-none c = no_dmr c.new.result c.in_ok-prefix6_at.field-0 _ _ c.new.ensures.valid c.in_ok-prefix6_at.ensures.only
