use Rattle.rule_book.proofs.LeastPlaces.{valid-exactly, overlap4-least, overlap6-least, overlap_dmr-least}
use Rattle.rule_book.proofs.laws.refusals_name_the_least.Goals as goal

pub returns-clause-valid : goal.returns-clause-valid
returns-clause-valid c rules dmr = valid-exactly rules dmr

pub returns-clause-overlap4 : goal.returns-clause-overlap4
returns-clause-overlap4 c = overlap4-least

pub returns-clause-overlap6 : goal.returns-clause-overlap6
returns-clause-overlap6 c = overlap6-least

pub returns-clause-overlap_dmr : goal.returns-clause-overlap_dmr
returns-clause-overlap_dmr c = overlap_dmr-least
