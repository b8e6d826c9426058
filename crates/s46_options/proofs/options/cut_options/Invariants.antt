use Rattle.std.proofs.Common.{◌≡◌, length}
use Rattle.s46_options.specs.Options.{cut}
use Rattle.s46_options.specs.Raw.{options_of}
use Rattle.s46_options.proofs.Cuts.{after}
use Rattle.s46_options.proofs.options.cut_options.Given as goal

abbrev pub invariant-loop-option : goal.invariant-loop-option
invariant-loop-option l = cut l.octets ≡ after (options_of l.options.items) (cut l.left)

abbrev pub decreases-loop-option : goal.decreases-loop-option
decreases-loop-option l = length l.left
