use Rattle.std.proofs.Common.{sym, ◌∙◌}
use Rattle.pcap_files.proofs.Loop.{is_done, goes_on, is_cut, is_full}
use Rattle.pcap_files.proofs.reader.records_in.Goals as goal

pub returns-then-is_empty : goal.returns-then-is_empty
returns-then-is_empty c =
    is_done c.loop-number.records.items c.args.form c.loop-number.number _ c.loop-number.rest.now _ (sym c.is_empty.ensures ∙ c.if-is_empty.true) c.loop-number.invariant

pub returns-in_default : goal.returns-in_default
returns-in_default c =
    is_cut c.loop-number.records.items c.args.form c.args.room c.loop-number.number c.loop-number.rest.now _ c.loop-number-test.true (sym c.is_empty.ensures ∙ c.if-is_empty.false) (sym c.len_of_first.ensures.exact ∙ c.in_default.is) c.loop-number.invariant

pub loop-number-preserved : goal.loop-number-preserved
loop-number-preserved c =
    rw (c.in_ok-push.ensures.items, c.in_ok-record_from.ensures, c.split_at.ensures.front, c.split_at.ensures.back) (goes_on c.loop-number.records.items c.args.form c.args.room c.loop-number.number c.in-Some.len c.loop-number.rest.now _ c.loop-number-test.true (sym c.is_empty.ensures ∙ c.if-is_empty.false) (sym c.in-Some.ensures.exact) c.loop-number.invariant)

pub returns-then-not-is_empty : goal.returns-then-not-is_empty
returns-then-not-is_empty c =
    is_full c.loop-number.records.items c.args.form c.args.room c.loop-number.number c.loop-number.rest.now _ c.loop-number-test.false (sym c.is_empty-2.ensures ∙ c.if-not-is_empty.true) c.loop-number.invariant

pub returns : goal.returns
returns c =
    is_done c.loop-number.records.items c.args.form c.loop-number.number _ c.loop-number.rest.now _ (sym c.is_empty-2.ensures ∙ c.if-not-is_empty.false) c.loop-number.invariant
