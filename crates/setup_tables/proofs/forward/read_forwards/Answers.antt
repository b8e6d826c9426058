use Rattle.std.proofs.Common.{List, map, subst, refl}
use Rattle.std.specs.List.{AllZip}
use Rattle.toml.specs.declared.value.Value.{Value}
use Rattle.toml.specs.View.{view}
use Rattle.setup_tables.specs.Answer.{HasNone}
use Rattle.setup_tables.specs.Forward.{IsForward}
use Rattle.setup_tables.proofs.ListReads.{read-push, first_bad, few_read, take_all}
use Rattle.setup_tables.proofs.forward.read_forwards.Goals as goal

pub returns-in_default-clause-exact : goal.returns-in_default-clause-exact
returns-in_default-clause-exact c =
    (c.loop-i.i, refl, first_bad view IsForward (HasNone IsForward) _ _ _ c.index-values-i.result c.loop-i-test.true c.index-values-i.is c.loop-i.invariant (rw c.in_default.is at c.in_ok-found.ensures.none))

pub loop-i-preserved : goal.loop-i-preserved
loop-i-preserved c =
    rw c.in_ok-push.ensures.ok (read-push view IsForward _ _ _ c.index-values-i.result c.in-Some.text c.loop-i-test.true c.index-values-i.is c.loop-i.invariant (rw c.in-Some.is at c.in_ok-found.ensures.found))

pub returns-clause-few : goal.returns-clause-few
returns-clause-few c =
    let All : List Value → Type 0 = λ vs. AllZip IsForward (map view vs) c.loop-i.texts in
    few_read view IsForward 256 c.args.values.now c.loop-i.texts (subst All (take_all _ _ c.loop-i-test.false) c.loop-i.invariant) c.requires
