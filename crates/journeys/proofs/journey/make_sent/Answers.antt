use Rattle.std.proofs.Common.{◌≡◌, ◌+◌, ◌++◌, ◌∷◌, [], List, take, sym, ap, ◌∙◌, subst}
use Rattle.std.specs.Option.{option_to_list}
use Rattle.std.specs.List.{filter_map}
use Rattle.std.proofs.lemmas.List.{take_more}
use Rattle.std.proofs.lemmas.List.Elements.{filter_map-append}
use Rattle.hops.specs.declared.hop.Out.{Out}
use Rattle.journeys.specs.Waiting.{Waiting, onward}
use Rattle.journeys.specs.Level.{Gains}
use Rattle.journeys.proofs.Levels.{gains_more, gains_ready, sent_one}
use Rattle.journeys.proofs.journey.make_sent.Goals as goal

pub make_next-requires-clause-ready : goal.make_next-requires-clause-ready
make_next-requires-clause-ready g c =
    let setup = c.args.round.now.setup.now in
    let taking = c.args.round.now.taking.now in
    gains_ready (g.M.MakesHops.Makes setup taking) setup taking (g.M.MakesHops.IsReady setup taking) (g.M.MakesHops.stays setup taking) c.args.round.now.from
    (filter_map (onward setup c.args.sender.now.stand) (take c.loop-out.out-index c.args.sender.now.hop.outs)) c.args.level.now.items c.loop-out.level.items
    c.args.maker.now c.loop-out.maker c.loop-out.invariant c.requires.ready

pub loop-out-preserved : goal.loop-out-preserved
loop-out-preserved g c =
    let setup = c.args.round.now.setup.now in
    let taking = c.args.round.now.taking.now in
    let here = c.args.sender.now.stand in
    let outs = c.args.sender.now.hop.outs in
    let i = c.loop-out.out-index in
    let item = c.out-item.result in
    let before = filter_map (onward setup here) (take i outs) in
    let slice = c.as_slice-out-items.result.now in
    let e : take i outs ++ item ∷ [] ≡ take (i + 1) outs =
    subst (λ (xs : List Out). take i xs ++ item ∷ [] ≡ take (i + 1) xs) c.as_slice-out-items.ensures
    (ap (λ (x : Out). take i slice ++ x ∷ []) c.out-item.is ∙ sym (take_more slice i item c.loop-out-test.true)) in
    let whole : before ++ option_to_list (onward setup here item) ≡ filter_map (onward setup here) (take (i + 1) outs) =
    ap (λ (ws : List Waiting). before ++ ws) (sent_one setup here item)
    ∙ sym (filter_map-append (onward setup here) (take i outs) (item ∷ [])) ∙ ap (filter_map (onward setup here)) e in
    subst (λ (ws : List Waiting). Gains (g.M.MakesHops.Makes setup taking) setup taking c.args.round.now.from ws c.args.level.now.items c.make_next.new.level.items c.args.maker.now c.make_next.new.maker) whole
    (gains_more (g.M.MakesHops.Makes setup taking) setup taking c.args.round.now.from before (option_to_list (onward setup here item)) c.args.level.now.items c.loop-out.level.items c.make_next.new.level.items
    c.args.maker.now c.loop-out.maker c.make_next.new.maker c.loop-out.invariant c.in_ok-make_next.ensures)
