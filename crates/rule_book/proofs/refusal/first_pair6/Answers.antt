use Rattle.std.proofs.Common.{sym, ◌∙◌}
use Rattle.rule_book.specs.Valid.{clash6}
use Rattle.rule_book.proofs.Pairs.{pair_after-found, pair_after-next, pair_after-end}
use Rattle.rule_book.proofs.refusal.first_pair6.Goals as goal

pub returns-in-Some-clause-pair : goal.returns-in-Some-clause-pair
returns-in-Some-clause-pair c = pair_after-found clash6 c.args.rules.now c.loop-later.later c.index-rules-later.result c.in-Some.earlier c.loop-later-test.true c.index-rules-later.is (sym c.first_clash6.ensures.clash ∙ c.in-Some.is) c.loop-later.invariant

pub loop-later-preserved : goal.loop-later-preserved
loop-later-preserved c = pair_after-next clash6 c.args.rules.now c.loop-later.later c.index-rules-later.result c.loop-later-test.true c.index-rules-later.is (sym c.first_clash6.ensures.clash ∙ c.in_default.is) c.loop-later.invariant

pub returns-clause-pair : goal.returns-clause-pair
returns-clause-pair c = sym (pair_after-end clash6 c.args.rules.now c.loop-later.later c.loop-later-test.false) ∙ c.loop-later.invariant
