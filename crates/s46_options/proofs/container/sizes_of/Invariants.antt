use Rattle.std.proofs.Common.{◌≡◌, ◌-◌, ◌^◌, min, map, take, length}
use Rattle.s46_options.specs.Options.{spelled_all}
use Rattle.s46_options.specs.Items.{sub_option}
use Rattle.s46_options.proofs.container.sizes_of.Given as goal

-- the size so far
abbrev pub invariant-loop-sub : goal.invariant-loop-sub
invariant-loop-sub l = l.size ≡ min (length (spelled_all (map sub_option (take l.sub-index l.subs)))) (2 ^ 64 - 1)
