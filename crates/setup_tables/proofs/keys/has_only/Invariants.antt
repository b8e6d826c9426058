use Rattle.std.proofs.Common.{◌≡◌, nat_eq, string_bytes}
use Rattle.std.specs.BTreeMap.{keys}
use Rattle.std.specs.Cmp.Lexicographic.{pointwise}
use Rattle.std.specs.List.{list_any, list_all}
use Rattle.setup_tables.proofs.keys.has_only.Given as goal

abbrev pub invariant-loop-name : goal.invariant-loop-name
invariant-loop-name l =
    list_all (λ key. list_any (λ other. pointwise nat_eq other.now (string_bytes key)) l.known) l.name-iterator ≡ list_all (λ key. list_any (λ other. pointwise nat_eq other.now (string_bytes key)) l.known) (keys l.table)
