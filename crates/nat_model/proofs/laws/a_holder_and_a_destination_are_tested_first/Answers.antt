use Rattle.nat_model.proofs.FirstTests as first
use Rattle.nat_model.proofs.laws.a_holder_and_a_destination_are_tested_first.Goals as goal

pub returns-clause-no_rule : goal.returns-clause-no_rule
returns-clause-no_rule c = first.no_rule

pub returns-clause-destination : goal.returns-clause-destination
returns-clause-destination c = first.destination
