use Rattle.setup_tables.proofs.Actions.{replaces_nothing}
use Rattle.setup_tables.proofs.ListReads.{at_none}
use Rattle.setup_tables.proofs.change.Action.replacing.Goals as goal

pub returns-in_err-prefix-clause-none : goal.returns-in_err-prefix-clause-none
returns-in_err-prefix-clause-none c = at_none c.from_residual.result (replaces_nothing _ c.requires (λ p line h. c.in_err-prefix.ensures.only p h.prefix))

pub returns-in_err-rule_at-clause-none : goal.returns-in_err-rule_at-clause-none
returns-in_err-rule_at-clause-none c = at_none c.from_residual-in_err-rule_at.result (replaces_nothing _ c.requires (λ p line h. c.in_err-rule_at.ensures.none line h.rule))
