use Rattle.std.proofs.Common.{◌≡◌, drop}
use Rattle.rule_book.specs.Owner.{forward_of}
use Rattle.rule_book.proofs.scan.forward.Given as goal

-- no earlier rule gives an address
abbrev pub invariant-loop-rule : goal.invariant-loop-rule
invariant-loop-rule l = forward_of (drop l.rule-index l.rules) l.addr.0 l.port ≡ forward_of l.rules l.addr.0 l.port
