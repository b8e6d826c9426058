use Rattle.std.proofs.Common.{◌≡◌, drop}
use Rattle.rule_book.specs.Book.{rules_of}
use Rattle.rule_book.specs.Text.{edge_name}
use Rattle.rule_book.proofs.owner.edge_name.Given as goal

-- no earlier edge has the address
abbrev pub invariant-loop-at : goal.invariant-loop-at
invariant-loop-at l = edge_name (rules_of l.book) (drop l.at l.prefixes) (drop l.at l.names) l.own.0 ≡ edge_name (rules_of l.book) l.prefixes l.names l.own.0
