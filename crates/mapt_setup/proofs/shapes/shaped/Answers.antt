use Rattle.std.proofs.Common.{List, refl, subst, ◌∙◌}
use Rattle.std.specs.List.{AllZip}
use Rattle.setup_tables.specs.declared.rule.RuleLine.{RuleLine}
use Rattle.setup_tables.specs.Answer.{IsFirstBad}
use Rattle.mapt_setup.specs.Shapes.{HasParts, BreaksShape}
use Rattle.setup_tables.proofs.ListReads.{read-push, first_bad, map-same, take_all}
use Rattle.mapt_setup.proofs.shapes.shaped.Goals as goal

pub returns-in_default : goal.returns-in_default
returns-in_default c =
    let Bad : List RuleLine → Type 0 = λ ds. IsFirstBad HasParts BreaksShape ds c.loop-i.i in
    (c.loop-i.i, refl, subst Bad (map-same _) (first_bad (λ (line : RuleLine). line) HasParts BreaksShape _ _ _ c.index-lines-i.result c.loop-i-test.true c.index-lines-i.is c.loop-i.invariant c.in_default.ensures.none))

pub loop-i-preserved : goal.loop-i-preserved
loop-i-preserved c =
    rw c.in_ok-push.ensures.items (read-push (λ (line : RuleLine). line) HasParts _ _ _ c.index-lines-i.result c.in-Some.rule c.loop-i-test.true c.index-lines-i.is c.loop-i.invariant c.in-Some.ensures.found)

pub returns : goal.returns
returns c =
    let All : List RuleLine → Type 0 = λ ds. AllZip HasParts ds c.loop-i.rules.items in
    subst All (map-same _ ∙ take_all _ _ c.loop-i-test.false) c.loop-i.invariant
