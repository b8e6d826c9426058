use Rattle.std.proofs.Common.{◌≡◌, drop}
use Rattle.rule_book.specs.Owner.{owner_of}
use Rattle.rule_book.proofs.scan.owner.Given as goal

-- no earlier rule gives an address
abbrev pub invariant-loop-rule : goal.invariant-loop-rule
invariant-loop-rule l = owner_of (drop l.rule-index l.rules) l.addr.0 l.port ≡ owner_of l.rules l.addr.0 l.port
