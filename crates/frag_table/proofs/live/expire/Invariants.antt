use Rattle.std.proofs.Common.{◌≡◌, ◌≤◌, ◌-◌, take, length}
use Rattle.std.specs.List.{filter}
use Rattle.frag_table.specs.Frag.{is_live}
use Rattle.frag_table.proofs.live.expire.Given as goal

-- none of the earlier notes is to go, and none that is to stay is gone

abbrev pub invariant-loop-at : goal.invariant-loop-at
invariant-loop-at l = (l.at ≤ length l.notes) × (filter (is_live l.clock) (take l.at l.notes) ≡ take l.at l.notes) × (filter (is_live l.clock) l.notes ≡ filter (is_live l.clock) l.initial.notes)

abbrev pub decreases-loop-at : goal.decreases-loop-at
decreases-loop-at l = length l.notes - l.at
