use Rattle.setup_tables.proofs.ListReads.{at_none}
use Rattle.setup_tables.proofs.forward.binding_in.Goals as goal

pub returns-in_err-addr4_at-clause-none : goal.returns-in_err-addr4_at-clause-none
returns-in_err-addr4_at-clause-none c = at_none c.from_residual-in_err-addr4_at.result (λ b h. c.in_err-addr4_at.ensures.only b.host h.host)
