use Rattle.std.proofs.Common.{◌≡◌, ◌+◌, ◌*◌, ◌^◌, ◌<◌, ◌-◌, ◌∙◌, ap, arith}
use Rattle.std.proofs.Math.Facts.{Fits-of_lt}
use Rattle.map_rules.specs.Rule.{rule_address}
use Rattle.map_rules.proofs.Rules.{ea_of, ea-computed, ea_of-small, address-sum, address-small}
use Rattle.map_rules.proofs.rule.Rule.address.Goals as goal

ea_is : (c : goal.After-place-psid) → c.from-ea.result ≡ ea_of c.args.self.now c.args.addr.0 c.args.psid
ea_is c = ea-computed c.args.self.now c.args.addr.0 c.args.psid c.from.result c.psid_len.result c.from-2.result c.from-ea.result c.from.ensures c.psid_len.ensures c.from-2.ensures c.from-ea.ensures

pub place-requires-clause-number : goal.place-requires-clause-number
place-requires-clause-number c = rw (ea_is c) (ea_of-small c.args.self.now c.args.addr.0 c.args.psid c.requires)

sum_is : (c : goal.After-place) → c.args.self.now.prefix6.bits + c.place.result + c.place-addr.result + c.place-psid.result ≡ rule_address c.args.self.now c.args.addr.0 c.args.psid
sum_is c =
    let e = ea-computed c.args.self.now c.args.addr.0 c.args.psid c.from.result c.psid_len.result c.from-2.result c.from-ea.result c.from.ensures c.psid_len.ensures c.from-2.ensures c.from-ea.ensures in
    address-sum c.args.self.now c.args.addr.0 c.args.psid c.place.result c.place-addr.result c.place-psid.result (c.place.ensures ∙ ap (λ x. x * 2 ^ (128 - (c.args.self.now.prefix6.len + c.args.self.now.ea))) e) (omega (arith, c.place-addr.ensures, c.from-3.ensures)) (omega (arith, c.place-psid.ensures, c.from-4.ensures))

pub returns : goal.returns
returns c = sum_is c

sum_small : (c : goal.After-place) → c.args.self.now.prefix6.bits + c.place.result + c.place-addr.result + c.place-psid.result < 2 ^ 128
sum_small c = rw (sum_is c) (address-small c.args.self.now c.args.addr.0 c.args.psid (omega arith) (omega arith) c.requires)

pub overflow_add-result : goal.overflow_add-result
overflow_add-result c = Fits-of_lt (omega (arith, sum_small c))

pub overflow_add-result-2 : goal.overflow_add-result-2
overflow_add-result-2 c = Fits-of_lt (omega (arith, sum_small c))

pub overflow_add-result-3 : goal.overflow_add-result-3
overflow_add-result-3 c = Fits-of_lt (sum_small c)
