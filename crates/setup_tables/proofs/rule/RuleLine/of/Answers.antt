use Rattle.setup_tables.specs.Rule.{IsRuleTable}
use Rattle.setup_tables.proofs.ListReads.{at_none, says_nothing}
use Rattle.setup_tables.proofs.rule.RuleLine.of.Goals as goal

pub returns-in_err-prefix6_at-clause-none : goal.returns-in_err-prefix6_at-clause-none
returns-in_err-prefix6_at-clause-none c =
    at_none c.from_residual-in_err-prefix6_at.result (says_nothing IsRuleTable _ _ c.in_ok-table.ensures (λ r h. c.in_err-prefix6_at.ensures.only r.prefix6 h.prefix6))

pub returns-in_err-prefix4_at-clause-none : goal.returns-in_err-prefix4_at-clause-none
returns-in_err-prefix4_at-clause-none c =
    at_none c.from_residual-in_err-prefix4_at.result (says_nothing IsRuleTable _ _ c.in_ok-table.ensures (λ r h. c.in_err-prefix4_at.ensures.only r.prefix4 h.prefix4))
