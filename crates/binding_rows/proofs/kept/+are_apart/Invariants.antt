use Rattle.std.proofs.Common.{length}
use Rattle.binding_rows.proofs.kept.+are_apart.Given as goal

-- each call has one binding less
abbrev pub decreases-are_apart : goal.decreases-are_apart
decreases-are_apart l = length l.bindings.now
