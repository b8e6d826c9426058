use Rattle.std.proofs.Common.{length, sym, ap, arith}
use Rattle.frag_table.proofs.EachRow.{later_known, later_full, later_held}
use Rattle.frag_table.proofs.rows.wait.Goals as goal

pub returns-in-Some-clause-step : goal.returns-in-Some-clause-step
returns-in-Some-clause-step c =
    sym (later_known c.args.arrival.clock c.args.key.now c.args.notes.now c.args.at c.get-note.result.now c.requires c.get-note.ensures c.args.arrival.place c.args.octets.now c.in-Some.ports c.in-Some.is)

pub returns-then-as_slice-ge-MOST_HELD-clause-step : goal.returns-then-as_slice-ge-MOST_HELD-clause-step
returns-then-as_slice-ge-MOST_HELD-clause-step c =
    sym (later_full c.args.arrival.clock c.args.key.now c.args.notes.now c.args.at c.get-note.result.now c.requires c.get-note.ensures c.args.arrival.place c.args.octets.now c.in_default.is (omega (arith, ap length c.as_slice.ensures)))

pub returns-clause-step : goal.returns-clause-step
returns-clause-step c =
    let after = rw c.get-note.ensures at c.in_ok-hold.ensures.ok in
    rw (after, c.in_ok-parcel.ensures) (sym (later_held c.args.arrival.clock c.args.key.now c.args.notes.now c.args.at c.get-note.result.now c.requires c.get-note.ensures c.args.arrival.place c.args.octets.now c.in_default.is (omega (arith, ap length c.as_slice.ensures))))
