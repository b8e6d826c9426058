use Rattle.std.proofs.Common.{sym, arith}
use Rattle.frag_table.proofs.EachRow.{first_full, first_new}
use Rattle.frag_table.proofs.rows.first.Goals as goal

pub returns-then-count-ge-MOST_NOTES-clause-step : goal.returns-then-count-ge-MOST_NOTES-clause-step
returns-then-count-ge-MOST_NOTES-clause-step c =
    sym (first_full c.args.arrival.clock c.args.key.now c.args.notes.now c.in_default.ensures.none c.args.ports (omega (arith, c.count.ensures)))

pub returns-clause-step : goal.returns-clause-step
returns-clause-step c =
    rw (c.in_ok-push.ensures.ok, c.new.ensures) (sym (first_new c.args.arrival.clock c.args.key.now c.args.notes.now c.in_default.ensures.none c.args.ports (omega (arith, c.count.ensures))))
