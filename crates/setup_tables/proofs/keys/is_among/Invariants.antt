use Rattle.std.proofs.Common.{◌≡◌, nat_eq, drop}
use Rattle.std.specs.Cmp.Lexicographic.{pointwise}
use Rattle.std.specs.List.{list_any}
use Rattle.setup_tables.proofs.keys.is_among.Given as goal

abbrev pub invariant-loop-other : goal.invariant-loop-other
invariant-loop-other l =
    list_any (λ other. pointwise nat_eq other.now l.name) (drop l.other-index l.known) ≡ list_any (λ other. pointwise nat_eq other.now l.name) l.known
