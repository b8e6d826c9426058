use Rattle.std.proofs.Common.{◌≡◌, ◌-◌, ◌^◌, min, take, length}
use Rattle.s46_options.specs.Items.{inside_octets}
use Rattle.s46_options.proofs.container.size_of.Given as goal

-- the size so far
abbrev pub invariant-loop-item : goal.invariant-loop-item
invariant-loop-item l = l.size ≡ min (length (inside_octets (take l.item-index l.items))) (2 ^ 64 - 1)
