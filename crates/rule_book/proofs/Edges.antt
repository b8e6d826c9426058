-- An edge under one rule.
use Rattle.std.proofs.Common.{◌≡◌, ◌+◌, ◌-◌, ◌/◌, ◌^◌, true, refl, arith}
use Rattle.std.specs.Prelude.{◌==◌}
use Rattle.std.proofs.lemmas.Bool.Decides.{nat_tests}
use Rattle.octets.specs.declared.prefix.Prefix6.{Prefix6}
use Rattle.map_rules.specs.declared.rule.Rule.{Rule}
use Rattle.map_rules.specs.Rule.{HasEdge}
use Rattle.rule_book.specs.Holder.{has_edge}

pub has_edge-true : (r : Rule) (prefix : Prefix6) → HasEdge r prefix.bits prefix.len → has_edge prefix r ≡ true
has_edge-true r prefix has =
    let len : (prefix.len == r.prefix6.len + r.ea) ≡ true = (let e = has.0 in grind (arith, nat_tests)) in
    let bits : (r.prefix6.bits / 2 ^ (128 - r.prefix6.len) == prefix.bits / 2 ^ (128 - r.prefix6.len)) ≡ true = (let e = has.1 in grind (arith, nat_tests)) in
    rw (len, bits) refl

pub has_edge-is : (r : Rule) (prefix : Prefix6) → has_edge prefix r ≡ true → HasEdge r prefix.bits prefix.len
has_edge-is r prefix is = grind (arith, nat_tests)
