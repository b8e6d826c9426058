use Rattle.octets.proofs.Places.{position-exactly}
use Rattle.rule_book.specs.Change.{same6}
use Rattle.rule_book.proofs.ChangePlaces.{change-there, change-overlap4, change-overlap6, change-overlap_dmr}
use Rattle.rule_book.proofs.laws.refused_changes_name_the_least.Goals as goal

pub returns-clause-place : goal.returns-clause-place
returns-clause-place c prefix rules i = position-exactly (λ rule. same6 rule.prefix6 prefix) rules i

pub returns-clause-there : goal.returns-clause-there
returns-clause-there c = change-there

pub returns-clause-overlap4 : goal.returns-clause-overlap4
returns-clause-overlap4 c = change-overlap4

pub returns-clause-overlap6 : goal.returns-clause-overlap6
returns-clause-overlap6 c = change-overlap6

pub returns-clause-overlap_dmr : goal.returns-clause-overlap_dmr
returns-clause-overlap_dmr c = change-overlap_dmr
