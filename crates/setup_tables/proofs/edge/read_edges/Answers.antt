use Rattle.std.proofs.Common.{List, map, subst, refl}
use Rattle.std.specs.List.{AllZip}
use Rattle.toml.specs.declared.value.Value.{Value}
use Rattle.toml.specs.View.{view}
use Rattle.setup_tables.specs.Answer.{HasNone}
use Rattle.setup_tables.specs.Edge.{IsEdge}
use Rattle.setup_tables.proofs.ListReads.{read-push, first_bad, few_read, take_all}
use Rattle.setup_tables.proofs.edge.read_edges.Goals as goal

pub returns-in_default-clause-exact : goal.returns-in_default-clause-exact
returns-in_default-clause-exact c =
    (c.loop-i.i, refl, first_bad view IsEdge (HasNone IsEdge) _ _ _ c.index-values-i.result c.loop-i-test.true c.index-values-i.is c.loop-i.invariant (rw c.in_default.is at c.in_ok-found.ensures.none))

pub loop-i-preserved : goal.loop-i-preserved
loop-i-preserved c =
    rw c.in_ok-push.ensures.ok (read-push view IsEdge _ _ _ c.index-values-i.result c.in-Some.edge c.loop-i-test.true c.index-values-i.is c.loop-i.invariant (rw c.in-Some.is at c.in_ok-found.ensures.found))

pub returns-clause-few : goal.returns-clause-few
returns-clause-few c =
    let All : List Value → Type 0 = λ vs. AllZip IsEdge (map view vs) c.loop-i.edges in
    few_read view IsEdge 256 c.args.values.now c.loop-i.edges (subst All (take_all _ _ c.loop-i-test.false) c.loop-i.invariant) c.requires
