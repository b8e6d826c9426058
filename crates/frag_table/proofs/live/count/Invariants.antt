use Rattle.std.proofs.Common.{◌≡◌, ◌≤◌, take, length}
use Rattle.std.specs.List.{filter}
use Rattle.frag_table.specs.Frag.{is_live}
use Rattle.frag_table.proofs.live.count.Given as goal

-- those among the earlier notes are counted
abbrev pub invariant-loop-at : goal.invariant-loop-at
invariant-loop-at l = (l.count ≤ l.at) × (l.count ≡ length (filter (is_live l.clock) (take l.at l.notes)))
