use Rattle.setup_tables.proofs.Actions.{adds_nothing}
use Rattle.setup_tables.proofs.ListReads.{at_none}
use Rattle.setup_tables.proofs.change.Action.adding.Goals as goal

pub returns-in_err-rule_at-clause-none : goal.returns-in_err-rule_at-clause-none
returns-in_err-rule_at-clause-none c = at_none c.from_residual.result (adds_nothing _ c.requires (λ line h. c.in_err-rule_at.ensures.none line h.rule))
