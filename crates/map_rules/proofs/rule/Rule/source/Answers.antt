use Rattle.std.proofs.Common.{◌≡◌, ℕ, ◌*◌, ◌%◌, ◌^◌, ◌∙◌, sym, arith, rules}
use Rattle.std.specs.Prelude.{◌==◌, not, true}
use Rattle.std.proofs.lemmas.Bool.{both_ways}
use Rattle.std.proofs.lemmas.Bool.Decides.{nat_tests}
use Rattle.std.proofs.lemmas.Nat.{one_shl}
use Rattle.map_rules.specs.Rule.{psid_len, IsSource}
use Rattle.map_rules.proofs.Rules.{source-addr, source-psid, psid-short}
use Rattle.map_rules.proofs.Sources.{source_of-found, source_of-none}
use Rattle.map_rules.proofs.rule.Rule.source.Goals as goal
use Rattle.map_rules.proofs.rule.Rule.source.Goals.{then-not-has-via-then-not-has, then-not-has-via-else-not-has+then-from-psid_len}

pub returns-then-not-has-clause-none : goal.returns-then-not-has-clause-none
returns-then-not-has-clause-none c addr v e =
    let rule = c.args.self.now in
    let is_addr = c.bits_of.ensures ∙ source-addr rule c.args.s.0 addr v e in
    let is_psid = c.bits_of-psid.ensures ∙ source-psid rule c.args.s.0 addr v e in
    elim c.then-not-has.branch [
      | then-not-has-via-then-not-has w ↦ both_ways c.has.result w.if-not-has.true (c.has.ensures.1 (rw is_addr e.has))
      | then-not-has-via-else-not-has+then-from-psid_len w ↦
          let one : 1 * 2 ^ psid_len rule % 2 ^ 32 ≡ 2 ^ psid_len rule = one_shl (psid_len rule) 32 (psid-short rule) in
          let over = rw (w.psid_len.ensures, one) at w.if-from-psid_len.true in
          omega (arith, over, w.from.ensures, is_psid, e.psid)
    ]

not-other : (x y : ℕ) → x ≡ y → not (x == y) ≡ true → ⊥
not-other x y same other = grind (arith, nat_tests)

pub returns-then-ne-clause-none : goal.returns-then-ne-clause-none
returns-then-ne-clause-none c addr v e =
    let rule = c.args.self.now in
    let is_addr = c.bits_of.ensures ∙ source-addr rule c.args.s.0 addr v e in
    let is_psid = c.bits_of-psid.ensures ∙ source-psid rule c.args.s.0 addr v e in
    let same : c.address.result.0 ≡ c.args.s.0 = c.address.ensures ∙ rw (is_addr, is_psid) e.whole in
    not-other c.address.result.0 c.args.s.0 same (sym c.ne.ensures ∙ c.if-ne.true)

pub returns-then-not-has-clause-value : goal.returns-then-not-has-clause-value
returns-then-not-has-clause-value c = sym (source_of-none c.args.self.now c.args.s.0 (returns-then-not-has-clause-none c))

pub returns-then-ne-clause-value : goal.returns-then-ne-clause-value
returns-then-ne-clause-value c = sym (source_of-none c.args.self.now c.args.s.0 (returns-then-ne-clause-none c))

pub returns-clause-value : goal.returns-clause-value
returns-clause-value c =
    let is : IsSource c.args.self.now c.args.s.0 c.bits_of.result c.ports.result.psid = search rules in
    sym (source_of-found c.args.self.now c.args.s.0 c.bits_of.result c.ports.result.psid is)
