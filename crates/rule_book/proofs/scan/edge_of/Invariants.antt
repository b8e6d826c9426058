use Rattle.std.proofs.Common.{◌≡◌, drop}
use Rattle.rule_book.specs.Holder.{holder_of}
use Rattle.rule_book.proofs.scan.edge_of.Given as goal

-- no earlier rule has the edge
abbrev pub invariant-loop-rule : goal.invariant-loop-rule
invariant-loop-rule l = holder_of (drop l.rule-index l.rules) l.prefix ≡ holder_of l.rules l.prefix
