use Rattle.rule_book.proofs.OneHolder.{one_holder-prefix, one_holder-owner}
use Rattle.rule_book.proofs.holder.one_holder.Goals as goal

pub returns-clause-one : goal.returns-clause-one
returns-clause-one g c p q addr port by_p by_q = one_holder-prefix _ _ p q addr port (g.met.V.RuleView.valid c.args.view.now) by_p by_q

pub returns-clause-owner : goal.returns-clause-owner
returns-clause-owner g c p addr port by_p = one_holder-owner _ _ p addr port (g.met.V.RuleView.valid c.args.view.now) by_p
