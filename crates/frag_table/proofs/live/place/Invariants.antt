use Rattle.std.proofs.Common.{◌≡◌, false}
use Rattle.std.specs.List.{AllWithin}
use Rattle.frag_table.specs.Place.{is_note}
use Rattle.frag_table.proofs.live.place.Given as goal

-- no earlier note is the key's
abbrev pub invariant-loop-at : goal.invariant-loop-at
invariant-loop-at l = AllWithin (λ note. is_note l.clock l.key note ≡ false) l.notes 0 l.at
