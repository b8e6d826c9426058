use Rattle.std.proofs.Common.{◌≡◌, ◌+◌, ◌++◌, ◌∷◌, [], List, take, sym, ap, ◌∙◌, subst, append-nil}
use Rattle.std.specs.Prelude.{Some}
use Rattle.std.proofs.lemmas.List.{take_more}
use Rattle.std.proofs.lemmas.Option.{slice_get-get_or}
use Rattle.std.proofs.lemmas.Grind.{flat_map-append}
use Rattle.journeys.specs.declared.made.MadeHop.{MadeHop}
use Rattle.journeys.specs.Waiting.{Waiting}
use Rattle.journeys.specs.Level.{Gains, sent_by_kept, sent_by_level}
use Rattle.journeys.proofs.Levels.{gains_more, gains_ready, standing_at}
use Rattle.journeys.proofs.journey.make_level.Goals as goal

pub make_sent-requires-clause-stands : goal.make_sent-requires-clause-stands
make_sent-requires-clause-stands g c =
    let senders = c.args.senders.now in
    let i = c.loop-sender.sender-index in
    standing_at c.args.round.now.setup.now senders i c.sender-item.result c.requires.standing
    (slice_get-get_or senders i c.sender-item.result c.loop-sender-test.true ∙ sym (ap (λ (m : MadeHop). Some m) c.sender-item.is))

pub make_sent-requires-clause-ready : goal.make_sent-requires-clause-ready
make_sent-requires-clause-ready g c =
    let setup = c.args.round.now.setup.now in
    let taking = c.args.round.now.taking.now in
    gains_ready (g.M.MakesHops.Makes setup taking) setup taking (g.M.MakesHops.IsReady setup taking) (g.M.MakesHops.stays setup taking) c.args.round.now.from
    (sent_by_level setup (take c.loop-sender.sender-index c.args.senders.now)) [] c.loop-sender.level.items c.args.maker.now c.loop-sender.maker
    c.loop-sender.invariant c.requires.ready

pub loop-sender-preserved : goal.loop-sender-preserved
loop-sender-preserved g c =
    let setup = c.args.round.now.setup.now in
    let taking = c.args.round.now.taking.now in
    let senders = c.args.senders.now in
    let i = c.loop-sender.sender-index in
    let item = c.sender-item.result in
    let before = sent_by_level setup (take i senders) in
    let e : take i senders ++ item ∷ [] ≡ take (i + 1) senders = ap (λ (x : MadeHop). take i senders ++ x ∷ []) c.sender-item.is ∙ sym (take_more senders i item c.loop-sender-test.true) in
    let whole : before ++ sent_by_kept setup item ≡ sent_by_level setup (take (i + 1) senders) =
    ap (λ (ws : List Waiting). before ++ ws) (sym (append-nil (sent_by_kept setup item)))
    ∙ sym (flat_map-append (sent_by_kept setup) (take i senders) (item ∷ [])) ∙ ap (sent_by_level setup) e in
    subst (λ (ws : List Waiting). Gains (g.M.MakesHops.Makes setup taking) setup taking c.args.round.now.from ws [] c.make_sent.new.level.items c.args.maker.now c.make_sent.new.maker) whole
    (gains_more (g.M.MakesHops.Makes setup taking) setup taking c.args.round.now.from before (sent_by_kept setup item) [] c.loop-sender.level.items c.make_sent.new.level.items
    c.args.maker.now c.loop-sender.maker c.make_sent.new.maker c.loop-sender.invariant c.in_ok-make_sent.ensures)
