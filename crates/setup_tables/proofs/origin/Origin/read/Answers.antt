use Rattle.setup_tables.proofs.OneReading.{no_origin}
use Rattle.setup_tables.proofs.origin.Origin.read.Goals as goal

pub returns-in-None-clause-none : goal.returns-in-None-clause-none
returns-in-None-clause-none c = no_origin _ _ c.in_default.ensures c.in-None.ensures.none
