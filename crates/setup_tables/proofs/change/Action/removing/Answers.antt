use Rattle.setup_tables.proofs.Actions.{removes_nothing}
use Rattle.setup_tables.proofs.ListReads.{at_none}
use Rattle.setup_tables.proofs.change.Action.removing.Goals as goal

pub returns-in_err-prefix6_at-clause-none : goal.returns-in_err-prefix6_at-clause-none
returns-in_err-prefix6_at-clause-none c = at_none c.from_residual.result (removes_nothing _ c.requires (λ p h. c.in_err-prefix6_at.ensures.only p h.prefix))
