use Rattle.std.proofs.Common.{◌≡◌, refl, sym, ap, ◌∙◌, suc, ◌+◌, ◌<◌, ◌≤◌, List, [], ◌∷◌, ◌++◌, drop, take, length, map, subst, arith}
use Rattle.std.specs.Prelude.{get_or}
use Rattle.std.proofs.lemmas.List.{take_more, take_all}
use Rattle.edge_core.specs.Shown.{EdgeShown, StripeShown}
use Rattle.mapt_setup.specs.declared.script.ScriptItem.{ScriptItem}
use Rattle.domain_core.specs.declared.trace.Trace.{Trace}
use Rattle.journeys.specs.OneThread.{edge_note, stripe_note}
use Rattle.journeys.specs.Run.{no_histories}
use Rattle.journeys.specs.Came.{AreKept}
use Rattle.domain_run.specs.Machines.{histories_of}
use Rattle.domain_run.specs.Items.{AreTakeable, IsReplayed}
use Rattle.domain_run.proofs.Takeable.{script_takeable}
use Rattle.domain_run.proofs.Replaying.{takeable_next, replayed_more}
use Rattle.domain_run.proofs.Finished.{ends, formed, around}
use Rattle.domain_run.proofs.replay.replay_kept.Goals as goal

pub take-requires-clause-takeable : goal.take-requires-clause-takeable
take-requires-clause-takeable c =
    let setup = c.args.setup.now in
    let script = c.args.script.now in
    let i = c.loop-item.item-index in
    let item = c.item-item.result in
    let is = c.loop-item.invariant in
    let within : i < length script = subst (λ (xs : List ScriptItem). i < length xs) c.as_slice-item-items.ensures c.loop-item-test.true in
    let item_is : item ≡ get_or script i item = c.item-item.is ∙ ap (λ (xs : List ScriptItem). get_or xs i item) c.as_slice-item-items.ensures in
    let whole : take i script ++ item ∷ drop (suc i) script ≡ script =
    ap (λ (x : ScriptItem). take i script ++ x ∷ drop (suc i) script) item_is ∙ around script i item within in
    takeable_next setup (take i script) item (drop (suc i) script) 0 0 is.runs (no_histories setup) (histories_of c.loop-item.replay.machines)
    c.loop-item.replay.records c.loop-item.replay.changes (subst (AreTakeable setup 0) (sym whole) (script_takeable setup script c.requires.belongs)) is.are

pub loop-item-preserved : goal.loop-item-preserved
loop-item-preserved c =
    let setup = c.args.setup.now in
    let script = c.args.script.now in
    let i = c.loop-item.item-index in
    let item = c.item-item.result in
    let slice = c.as_slice-item-items.result.now in
    let e : take i script ++ item ∷ [] ≡ take (i + 1) script =
    subst (λ (xs : List ScriptItem). take i xs ++ item ∷ [] ≡ take (i + 1) xs) c.as_slice-item-items.ensures
    (ap (λ (x : ScriptItem). take i slice ++ x ∷ []) c.item-item.is ∙ sym (take_more slice i item c.loop-item-test.true)) in
    subst (λ (xs : List ScriptItem). IsReplayed setup xs c.take.new.self) e
    (replayed_more setup (take i script) item c.loop-item.replay c.take.new.self c.loop-item.invariant c.in_ok-take.ensures)

pub invariant_of-trace : goal.invariant_of-trace
invariant_of-trace c = record {
  form = formed c.args.setup.now (take c.loop-item.item-index c.args.script.now) c.loop-item.replay c.from_vec.result c.in_ok-edges.edges c.in_ok-stripes.stripes
      c.loop-item.invariant c.requires.valid.edges.few c.from_vec.ensures
      (c.in_ok-edges.ensures.told ∙ ap (λ (es : List EdgeShown). map (map edge_note) (map (λ (e : EdgeShown). e.history) es)) c.deref.ensures.value)
      (c.in_ok-stripes.ensures.told ∙ ap (λ (ss : List StripeShown). map (map stripe_note) (map (λ (s : StripeShown). s.history) ss)) c.deref-2.ensures.value)
      c.in_ok-edges.ensures.form c.in_ok-stripes.ensures.form;
}

pub returns : goal.returns
returns c =
    let setup = c.args.setup.now in
    let script = c.args.script.now in
    let all : take c.loop-item.item-index script ≡ script =
    take_all c.loop-item.item-index script (subst (λ (xs : List ScriptItem). length xs ≤ c.loop-item.item-index) c.as_slice-item-items.ensures (omega (arith, c.loop-item-test.false))) in
    let trace : Trace = record { workers = 1; items = c.from_vec.result; edges = c.in_ok-edges.edges; stripes = c.in_ok-stripes.stripes; form = c.result-1.given.0 } in
    let end = ends setup script c.loop-item.replay trace
    (subst (λ (xs : List ScriptItem). IsReplayed setup xs c.loop-item.replay) all c.loop-item.invariant) refl c.from_vec.ensures
    (c.in_ok-edges.ensures.told ∙ ap (λ (es : List EdgeShown). map (map edge_note) (map (λ (e : EdgeShown). e.history) es)) c.deref.ensures.value)
    (c.in_ok-stripes.ensures.told ∙ ap (λ (ss : List StripeShown). map (map stripe_note) (map (λ (s : StripeShown). s.history) ss)) c.deref-2.ensures.value) in
    record {
      trace = end.0;
      kept = subst (AreKept (record { setup = setup; script = script; trace = trace })) (sym c.from_vec-2.ensures) end.1;
    }
