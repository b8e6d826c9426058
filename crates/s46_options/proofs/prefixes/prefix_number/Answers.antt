use Rattle.std.proofs.Common.{◌∙◌, ap, List, ℕ}
use Rattle.octets.specs.Field.{sixteen}
use Rattle.s46_options.specs.Faults.{prefix_number}
use Rattle.s46_options.proofs.Contents.{copied}
use Rattle.s46_options.proofs.prefixes.prefix_number.Goals as goal

pub returns : goal.returns
unfolding prefix_number
returns c =
    c.read_u128.ensures
    ∙ ap (λ (xs : List ℕ). sixteen xs 0) (copied c.args.octets.now c.copy_from_slice.new.self c.copy_from_slice.ensures.after)
