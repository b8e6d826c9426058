use Rattle.mapt_setup.proofs.FirstEdges.{apart-exactly, name-first, overlap-first, over-first}
use Rattle.mapt_setup.proofs.laws.refused_edges_are_the_first.Goals as goal

pub returns-clause-apart : goal.returns-clause-apart
returns-clause-apart c = apart-exactly

pub returns-clause-name : goal.returns-clause-name
returns-clause-name c = name-first

pub returns-clause-overlap : goal.returns-clause-overlap
returns-clause-overlap c = overlap-first

pub returns-clause-over_dmr : goal.returns-clause-over_dmr
returns-clause-over_dmr c = over-first
