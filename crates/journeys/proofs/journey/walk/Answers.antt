use Rattle.std.proofs.Common.{◌≡◌, ◌+◌, ◌-◌, [], ℕ, List, suc, sym, ◌∙◌, subst, arith}
use Rattle.std.specs.Option.{option_map, option_to_list}
use Rattle.journeys.specs.declared.made.MadeHop.{MadeHop}
use Rattle.journeys.specs.Waiting.{at_stand}
use Rattle.journeys.specs.Walk.{IsJourney}
use Rattle.journeys.specs.Level.{Gains, IsWalked, sent_by_level}
use Rattle.journeys.proofs.Levels.{first_level, next_level, all_levels, all_within, gains_ready}
use Rattle.journeys.proofs.journey.walk.Goals as goal

pub loop-init : goal.loop-init
loop-init g c =
    let setup = c.args.setup.now in
    let taking = c.args.taking.now in
    let Makes = g.M.MakesHops.Makes setup taking in
    let first = option_to_list (option_map (at_stand c.args.octets.now) c.args.first) in (
      subst (λ (done : List MadeHop). IsWalked Makes setup taking first 6 done c.in_ok-level.level.items c.args.maker.now c.make_first.new.maker) (sym c.new-done.ensures.items)
          (first_level Makes setup taking 6 first c.in_ok-level.level.items c.args.maker.now c.make_first.new.maker (all_within first) c.in_ok-level.ensures),
      gains_ready Makes setup taking (g.M.MakesHops.IsReady setup taking) (g.M.MakesHops.stays setup taking) 0 first [] c.in_ok-level.level.items
          c.args.maker.now c.make_first.new.maker c.in_ok-level.ensures c.requires.ready,
    )

pub loop-preserved : goal.loop-preserved
loop-preserved g c =
    let setup = c.args.setup.now in
    let taking = c.args.taking.now in
    let Makes = g.M.MakesHops.Makes setup taking in
    let first = option_to_list (option_map (at_stand c.args.octets.now) c.args.first) in
    let done = c.loop.done.items in
    let level = c.loop.level.items in
    let next = c.in_ok-next.next.items in
    let more : 7 - c.loop.counter ≡ suc (7 - (c.loop.counter + 1)) = omega (arith, c.loop-test.true) in
    let gains : Gains Makes setup taking c.in_ok-from.from (sent_by_level setup level) [] next c.loop.maker c.make_level.new.maker =
    subst (λ (senders : List MadeHop). Gains Makes setup taking c.in_ok-from.from (sent_by_level setup senders) [] next c.loop.maker c.make_level.new.maker)
    c.deref.ensures.value c.in_ok-next.ensures in (
      subst (λ (m : List MadeHop). IsWalked Makes setup taking first (7 - (c.loop.counter + 1)) m next c.args.maker.now c.make_level.new.maker) (sym c.in_ok-put_behind.ensures)
          (next_level Makes setup taking (7 - (c.loop.counter + 1)) c.in_ok-from.from first done level next c.args.maker.now c.loop.maker c.make_level.new.maker
          (omega (arith, c.in_ok-from.ensures, c.len.ensures, c.len-in-loop.ensures))
          (subst (λ (most : ℕ). IsWalked Makes setup taking first most done level c.args.maker.now c.loop.maker) more c.loop.invariant.0) gains),
      gains_ready Makes setup taking (g.M.MakesHops.IsReady setup taking) (g.M.MakesHops.stays setup taking) c.in_ok-from.from (sent_by_level setup level) [] next
          c.loop.maker c.make_level.new.maker gains c.loop.invariant.1,
    )

pub returns-clause-journey : goal.returns-clause-journey
returns-clause-journey g c =
    let setup = c.args.setup.now in
    let taking = c.args.taking.now in
    let Makes = g.M.MakesHops.Makes setup taking in
    let first = option_to_list (option_map (at_stand c.args.octets.now) c.args.first) in
    let done = c.loop.done.items in
    let level = c.loop.level.items in
    let none : 7 - c.loop.counter ≡ 0 = omega (arith, c.loop-test.false) in
    subst (IsJourney Makes setup taking first c.args.maker.now c.loop.maker) (sym (c.from_vec.ensures ∙ c.in_ok-put_behind-2.ensures))
    (all_levels Makes setup taking first done level c.args.maker.now c.loop.maker
    (subst (λ (most : ℕ). IsWalked Makes setup taking first most done level c.args.maker.now c.loop.maker) none c.loop.invariant.0))
