use Rattle.frag_table.proofs.WithinBounds.{steps-within}
use Rattle.frag_table.proofs.laws.notes_keep_their_bounds.Goals as goal

pub returns : goal.returns
returns c = steps-within
