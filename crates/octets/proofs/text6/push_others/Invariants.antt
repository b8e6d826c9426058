use Rattle.std.proofs.Common.{◌≡◌, ◌∷◌, ◌++◌, take}
use Rattle.std.specs.List.{flat_map}
use Rattle.octets.specs.Numeral.{colon}
use Rattle.octets.specs.Text6.{group_text}
use Rattle.octets.proofs.text6.push_others.Given as goal

abbrev pub invariant-loop-group : goal.invariant-loop-group
invariant-loop-group l = l.text ≡ l.fn.text ++ flat_map (λ g. colon ∷ group_text g) (take l.group-index l.groups)
