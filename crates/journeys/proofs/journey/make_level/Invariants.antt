use Rattle.std.specs.Prelude.{take, []}
use Rattle.journeys.specs.Level.{Gains, sent_by_level}
use Rattle.journeys.proofs.journey.make_level.Given as goal

-- the hops of what the senders so far send on
abbrev pub invariant-loop-sender : goal.invariant-loop-sender
invariant-loop-sender g l =
    Gains (g.M.MakesHops.Makes l.round.setup.now l.round.taking.now) l.round.setup.now l.round.taking.now l.round.from
    (sent_by_level l.round.setup.now (take l.sender-index l.senders)) [] l.level.items l.fn.maker l.maker
