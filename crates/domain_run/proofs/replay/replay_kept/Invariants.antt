use Rattle.std.specs.Prelude.{take}
use Rattle.domain_run.specs.Items.{IsReplayed}
use Rattle.domain_run.proofs.replay.replay_kept.Given as goal

-- the items so far
abbrev pub invariant-loop-item : goal.invariant-loop-item
invariant-loop-item l = IsReplayed l.setup (take l.item-index l.script) l.replay
