use Rattle.rule_book.proofs.FirstNames.{name-first, name-none}
use Rattle.rule_book.proofs.laws.an_edge_is_named_by_the_first_prefix.Goals as goal

pub returns-clause-first : goal.returns-clause-first
returns-clause-first c = name-first

pub returns-clause-none : goal.returns-clause-none
returns-clause-none c = name-none
