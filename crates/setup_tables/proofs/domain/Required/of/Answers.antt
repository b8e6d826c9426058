use Rattle.setup_tables.proofs.ListReads.{at_none}
use Rattle.setup_tables.proofs.domain.Required.of.Goals as goal

pub returns-in_err-relay-clause-none : goal.returns-in_err-relay-clause-none
returns-in_err-relay-clause-none c = at_none c.from_residual.result (λ r h. c.in_err-relay.ensures.only r.relay h.relay)
