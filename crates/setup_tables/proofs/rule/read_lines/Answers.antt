use Rattle.std.proofs.Common.{List, map, subst, refl}
use Rattle.std.specs.List.{AllZip}
use Rattle.toml.specs.declared.value.Value.{Value}
use Rattle.toml.specs.View.{view}
use Rattle.setup_tables.specs.Answer.{HasNone}
use Rattle.setup_tables.specs.Rule.{IsRule}
use Rattle.setup_tables.proofs.ListReads.{read-push, first_bad, few_read, take_all}
use Rattle.setup_tables.proofs.rule.read_lines.Goals as goal

pub returns-in_default-clause-exact : goal.returns-in_default-clause-exact
returns-in_default-clause-exact c =
    (c.loop-i.i, refl, first_bad view IsRule (HasNone IsRule) _ _ _ c.index-values-i.result c.loop-i-test.true c.index-values-i.is c.loop-i.invariant c.in_default.ensures.none)

pub loop-i-preserved : goal.loop-i-preserved
loop-i-preserved c =
    rw c.in_ok-push.ensures.ok (read-push view IsRule _ _ _ c.index-values-i.result c.in-Some.line c.loop-i-test.true c.index-values-i.is c.loop-i.invariant c.in-Some.ensures.found)

pub returns-clause-few : goal.returns-clause-few
returns-clause-few c =
    let All : List Value → Type 0 = λ vs. AllZip IsRule (map view vs) c.loop-i.lines in
    few_read view IsRule 256 c.args.values.now c.loop-i.lines (subst All (take_all _ _ c.loop-i-test.false) c.loop-i.invariant) c.requires
