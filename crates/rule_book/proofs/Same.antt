-- Parts of a rule's line that are the same make one line.
use Rattle.std.proofs.Common.{◌≡◌, Bool, true, refl}
use Rattle.std.specs.Prelude.{◌&&◌, nat_eq}
use Rattle.std.specs.Bool.{beq}
use Rattle.std.proofs.lemmas.Bool.{eqb-true}
use Rattle.octets.proofs.Same.{both_true, passes_same, eq_prefix4, eq_prefix6, prefix4_told, prefix6_told}
use Rattle.map_rules.specs.declared.rule.Rule.{Rule}
use Rattle.map_rules.proofs.Same.{both_pass, number_same, same_flag, flag_same}
use Rattle.octets.specs.declared.prefix.Prefix6.{Prefix6}
use Rattle.rule_book.specs.declared.change.Change.TheVariants.{Add, Remove, Replace}
use Rattle.rule_book.specs.declared.lines.RuleParts.{RuleParts}

abbrev eq_parts : RuleParts → RuleParts → Bool
eq_parts r s = eq_prefix6 r.prefix6 s.prefix6 && (eq_prefix4 r.prefix4 s.prefix4 && (nat_eq r.ea s.ea && (nat_eq r.offset s.offset && beq r.forward s.forward)))

same_parts : (r s : RuleParts) → r.prefix6 ≡ s.prefix6 → r.prefix4 ≡ s.prefix4 → r.ea ≡ s.ea → r.offset ≡ s.offset → r.forward ≡ s.forward → r ≡ s
same_parts r s prefix6 prefix4 ea offset forward = λ i. record { prefix6 = prefix6 i; prefix4 = prefix4 i; ea = ea i; offset = offset i; forward = forward i }

parts_same : (r : RuleParts) → eq_parts r r ≡ true
parts_same r =
    both_pass (eq_prefix6 r.prefix6 r.prefix6) _ ((prefix6_told r.prefix6 r.prefix6).1 refl) (both_pass (eq_prefix4 r.prefix4 r.prefix4) _ ((prefix4_told r.prefix4 r.prefix4).1 refl) (both_pass (nat_eq r.ea r.ea) _ (number_same r.ea) (both_pass (nat_eq r.offset r.offset) _ (number_same r.offset) (flag_same r.forward))))

pub parts_told : (r s : RuleParts) → (eq_parts r s ≡ true → r ≡ s) × (r ≡ s → eq_parts r s ≡ true)
parts_told r s = (
  λ e.
      let a = both_true (eq_prefix6 r.prefix6 s.prefix6) _ e in
      let b = both_true (eq_prefix4 r.prefix4 s.prefix4) _ a.1 in
      let c = both_true (nat_eq r.ea s.ea) _ b.1 in
      let d = both_true (nat_eq r.offset s.offset) _ c.1 in
      same_parts r s ((prefix6_told r.prefix6 s.prefix6).0 a.0) ((prefix4_told r.prefix4 s.prefix4).0 b.0) (eqb-true r.ea s.ea c.0) (eqb-true r.offset s.offset d.0) (same_flag r.forward s.forward d.1),
  passes_same eq_parts parts_same r s,
)

-- what a change is made of
pub added : (r s : Rule) → Add r ≡ Add s → r ≡ s
added r s e = cc

pub removed : (p q : Prefix6) → Remove p ≡ Remove q → p ≡ q
removed p q e = cc

pub replaced : (p q : Prefix6) (r s : Rule) → Replace p r ≡ Replace q s → (p ≡ q) × (r ≡ s)
replaced p q r s e = (cc, cc)
