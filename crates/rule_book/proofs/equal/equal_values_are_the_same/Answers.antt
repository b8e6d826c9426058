use Rattle.std.proofs.Common.{ap, ◌∙◌}
use Rattle.std.proofs.lemmas.Bool.{false≢true}
use Rattle.octets.specs.declared.prefix.Prefix6.{Prefix6}
use Rattle.map_rules.specs.declared.rule.Rule.{Rule}
use Rattle.octets.proofs.Same.{both_true, eq_prefix6, prefix6_told}
use Rattle.map_rules.proofs.Same.{both_pass, eq_rule, rule_told}
use Rattle.rule_book.specs.declared.change.Change.TheVariants.{Add, Remove, Replace}
use Rattle.rule_book.proofs.Same.{parts_told, added, removed, replaced}
use Rattle.rule_book.proofs.equal.equal_values_are_the_same.Goals as goal

pub returns-clause-change : goal.returns-clause-change
returns-clause-change c (Add r) (Add s) = (λ e. ap (λ (x : Rule). Add x) ((rule_told r s).0 e), λ same. (rule_told r s).1 (added r s same))
returns-clause-change c (Add r) (Remove q) = (λ e. absurd (false≢true e), λ same. cc)
returns-clause-change c (Add r) (Replace q s) = (λ e. absurd (false≢true e), λ same. cc)
returns-clause-change c (Remove p) (Add s) = (λ e. absurd (false≢true e), λ same. cc)
returns-clause-change c (Remove p) (Remove q) = (λ e. ap (λ (x : Prefix6). Remove x) ((prefix6_told p q).0 e), λ same. (prefix6_told p q).1 (removed p q same))
returns-clause-change c (Remove p) (Replace q s) = (λ e. absurd (false≢true e), λ same. cc)
returns-clause-change c (Replace p r) (Add s) = (λ e. absurd (false≢true e), λ same. cc)
returns-clause-change c (Replace p r) (Remove q) = (λ e. absurd (false≢true e), λ same. cc)
returns-clause-change c (Replace p r) (Replace q s) =
    (λ e. let both = both_true (eq_prefix6 p q) (eq_rule r s) e in ap (λ (x : Prefix6). Replace x r) ((prefix6_told p q).0 both.0) ∙ ap (λ (x : Rule). Replace q x) ((rule_told r s).0 both.1), λ same. let parts = replaced p q r s same in both_pass (eq_prefix6 p q) (eq_rule r s) ((prefix6_told p q).1 parts.0) ((rule_told r s).1 parts.1))

pub returns-clause-parts : goal.returns-clause-parts
returns-clause-parts c = parts_told
