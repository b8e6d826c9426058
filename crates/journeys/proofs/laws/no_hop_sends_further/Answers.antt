use Rattle.journeys.proofs.Depths.{each_sends_less}
use Rattle.journeys.proofs.laws.no_hop_sends_further.Goals as goal

pub returns : goal.returns
returns k = λ told journeys rec hop step valid books are frees is. each_sends_less told journeys rec hop step valid books are frees is
