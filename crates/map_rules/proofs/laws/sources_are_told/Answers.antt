use Rattle.map_rules.proofs.Sources.{source_of-exactly, extract_of-exactly}
use Rattle.map_rules.proofs.laws.sources_are_told.Goals as goal

pub returns-clause-rule : goal.returns-clause-rule
returns-clause-rule c = source_of-exactly

pub returns-clause-embedded : goal.returns-clause-embedded
returns-clause-embedded c bits len s a valid clear = extract_of-exactly bits len s a (record { valid = valid; clear = clear })
