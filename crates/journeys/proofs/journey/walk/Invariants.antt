use Rattle.std.specs.Prelude.{◌-◌}
use Rattle.std.specs.Option.{option_map, option_to_list}
use Rattle.journeys.specs.Waiting.{at_stand}
use Rattle.journeys.specs.Level.{IsWalked}
use Rattle.journeys.proofs.journey.walk.Given as goal

-- the hops of the levels so far, behind which fewer and fewer can follow
abbrev pub invariant-loop : goal.invariant-loop
invariant-loop g l =
    IsWalked (g.M.MakesHops.Makes l.setup l.taking) l.setup l.taking (option_to_list (option_map (at_stand l.fn.octets) l.fn.first)) (7 - l.counter)
    l.done.items l.level.items l.fn.maker l.maker
    × g.M.MakesHops.IsReady l.setup l.taking l.maker
