use Rattle.std.specs.Prelude.{take}
use Rattle.std.specs.List.{filter_map}
use Rattle.journeys.specs.Waiting.{onward}
use Rattle.journeys.specs.Level.{Gains}
use Rattle.journeys.proofs.journey.make_sent.Given as goal

-- the hops of what goes on so far
abbrev pub invariant-loop-out : goal.invariant-loop-out
invariant-loop-out g l =
    Gains (g.M.MakesHops.Makes l.round.setup.now l.round.taking.now) l.round.setup.now l.round.taking.now l.round.from
    (filter_map (onward l.round.setup.now l.sender.stand) (take l.out-index l.sender.hop.outs)) l.fn.level.items l.level.items l.fn.maker l.maker
