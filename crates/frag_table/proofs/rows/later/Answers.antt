use Rattle.std.proofs.Common.{sym, arith}
use Rattle.frag_table.proofs.EachRow.{later_none_full, later_new}
use Rattle.frag_table.proofs.rows.later.Goals as goal

pub returns-then-count-ge-MOST_NOTES-clause-step : goal.returns-then-count-ge-MOST_NOTES-clause-step
returns-then-count-ge-MOST_NOTES-clause-step c =
    sym (later_none_full c.args.arrival.clock c.args.key.now c.args.notes.now c.in_default.ensures.none c.args.arrival.place c.args.octets.now (omega (arith, c.count.ensures)))

pub returns-clause-step : goal.returns-clause-step
returns-clause-step c =
    let held = c.in_ok-push.ensures.ok in
    rw (c.in_ok-push-2.ensures.ok, held, c.new-held.ensures, c.in_ok-parcel.ensures) (sym (later_new c.args.arrival.clock c.args.key.now c.args.notes.now c.in_default.ensures.none c.args.arrival.place c.args.octets.now (omega (arith, c.count.ensures))))
