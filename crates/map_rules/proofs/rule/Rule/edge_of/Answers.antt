use Rattle.std.proofs.Common.{◌≡◌, ℕ, ◌*◌, ◌%◌, ◌^◌, sym, arith}
use Rattle.std.proofs.Math.Facts.{Fits-of_lt}
use Rattle.std.proofs.lemmas.Nat.{one_shl}
use Rattle.map_rules.specs.Rule.{psid_len, rule_address, edge_address, edge_psid}
use Rattle.map_rules.proofs.Rules.{edge-has, edge-inside, psid-short}
use Rattle.map_rules.proofs.rule.Rule.edge_of.Goals as goal

pub overflow_add-addr : goal.overflow_add-addr
overflow_add-addr c =
    Fits-of_lt (rw (c.bits_of-bits.ensures, c.psid_len-k.ensures) (edge-has c.args.self.now c.args.prefix.bits (omega arith)).0)

pub returns-clause-own : goal.returns-clause-own
returns-clause-own c =
    let told = edge-has c.args.self.now c.args.prefix.bits (omega arith) in
    record {
      four = rw (c.bits_of-bits.ensures, c.psid_len-k.ensures) told.0;
      has = rw (c.bits_of-bits.ensures, c.psid_len-k.ensures) told.1;
      psid = rw c.ports.ensures.length at c.ports.result.fits;
      whole = rw c.ports.ensures.psid (sym c.address.ensures);
    }

pub returns-clause-inside : goal.returns-clause-inside
returns-clause-inside c =
    let rule = c.args.self.now in
    let bits : ℕ = c.args.prefix.bits in
    let one : 1 * 2 ^ psid_len rule % 2 ^ 128 ≡ 2 ^ psid_len rule = one_shl (psid_len rule) 128 (omega (arith, psid-short rule)) in
    let whole : rule_address rule (edge_address rule bits) (edge_psid rule bits) ≡ c.address.result.0 = sym (rw (c.bits_of-bits.ensures, c.psid_len-k.ensures, one) at c.address.ensures) in
    edge-inside rule bits c.args.prefix.len c.address.result.0 (omega arith) (c.if-prefix-self.false, (c.begins.ensures.0 c.if-not-begins.false).1) whole
