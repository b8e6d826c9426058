use Rattle.journeys.proofs.Depths.{each_sends_less, chain_short}
use Rattle.journeys.proofs.laws.no_hop_is_deeper_than_seven.Goals as goal

pub returns : goal.returns
returns k = λ told journeys rec chain valid books are frees is.
    chain_short told.setup journeys rec (λ hop step there. each_sends_less told journeys rec hop step valid books are frees there) chain is
