use Rattle.std.proofs.Common.{◌≡◌, None, List, refl, subst, sym, ◌∙◌, map}
use Rattle.std.specs.List.{AllZip}
use Rattle.setup_tables.specs.declared.forward.ForwardText.{ForwardText}
use Rattle.setup_tables.specs.Answer.{HasNone, IsFirstBad}
use Rattle.mapt_setup.specs.Claims.{IsAtEdge, edge_place}
use Rattle.setup_tables.proofs.ListReads.{read-push, first_bad, map-same, take_all, few_read}
use Rattle.mapt_setup.proofs.PlacedForwards.{no_edge}
use Rattle.mapt_setup.proofs.claims.placed.Goals as goal

pub returns-in_default-clause-exact : goal.returns-in_default-clause-exact
returns-in_default-clause-exact c =
    let Bad : List ForwardText → Type 0 = λ ds. IsFirstBad (IsAtEdge c.args.edges.now) (HasNone (IsAtEdge c.args.edges.now)) ds c.loop-i.i in
    let none : edge_place c.index-texts-i.result.edge c.args.edges.now ≡ None = rw c.as_slice.ensures at (sym c.in_default.ensures.place) in
    (c.loop-i.i, refl, subst Bad (map-same _) (first_bad (λ (text : ForwardText). text) (IsAtEdge c.args.edges.now) (HasNone (IsAtEdge c.args.edges.now)) _ _ _ c.index-texts-i.result c.loop-i-test.true c.index-texts-i.is c.loop-i.invariant (no_edge c.args.edges.now c.index-texts-i.result none)))

pub loop-i-preserved : goal.loop-i-preserved
loop-i-preserved c =
    let is : IsAtEdge c.args.edges.now c.index-texts-i.result (record { edge = c.in-Some.place; binding = c.index-texts-i.result.binding }) = record { edge = rw c.as_slice.ensures at (sym c.in-Some.ensures.place); binding = refl } in
    rw c.in_ok-push.ensures.ok (read-push (λ (text : ForwardText). text) (IsAtEdge c.args.edges.now) _ _ _ c.index-texts-i.result _ c.loop-i-test.true c.index-texts-i.is c.loop-i.invariant is)

pub returns : goal.returns
returns c =
    let All : List ForwardText → Type 0 = λ ds. AllZip (IsAtEdge c.args.edges.now) ds c.loop-i.forwards in
    let Few : List ForwardText → Type 0 = λ ds. AllZip (IsAtEdge c.args.edges.now) (map (λ (text : ForwardText). text) ds) c.loop-i.forwards in
    let all = subst All (map-same _ ∙ take_all _ _ c.loop-i-test.false) c.loop-i.invariant in
    record {
      few = few_read (λ (text : ForwardText). text) (IsAtEdge c.args.edges.now) 256 c.args.texts.now c.loop-i.forwards (subst Few (take_all _ _ c.loop-i-test.false) c.loop-i.invariant) c.requires.texts;
      exact = all;
    }
