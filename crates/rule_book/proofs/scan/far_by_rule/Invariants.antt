use Rattle.std.proofs.Common.{◌≡◌, drop}
use Rattle.rule_book.specs.Far.{far_by_rule}
use Rattle.rule_book.proofs.scan.far_by_rule.Given as goal

-- no earlier rule's IPv6 prefix has the address
abbrev pub invariant-loop-rule : goal.invariant-loop-rule
invariant-loop-rule l = far_by_rule (drop l.rule-index l.rules) l.s.0 l.port ≡ far_by_rule l.rules l.s.0 l.port
