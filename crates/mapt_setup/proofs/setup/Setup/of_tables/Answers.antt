use Rattle.std.proofs.Common.{sym}
use Rattle.std.proofs.lemmas.Result.{err_from_is_err_and}
use Rattle.mapt_setup.proofs.SetupStages.{Whence, Claimed, bad_origin, bad_book, bad_edges, bad_forwards, bad_changes, good}
use Rattle.mapt_setup.proofs.ValidSetups.{book_first}
use Rattle.mapt_setup.proofs.setup.Setup.of_tables.Goals as goal

pub changes_of-requires-clause-first : goal.changes_of-requires-clause-first
changes_of-requires-clause-first c = (book_first c.in_ok-given.given c.in_ok-book.book c.in_ok-book.ensures).0

pub returns-in_err-given : goal.returns-in_err-given
returns-in_err-given c =
    let p = err_from_is_err_and c.from_residual.result c.from_residual.ensures.1 in
    rw (p.1, p.2) (bad_origin _ _ c.in_err-given.ensures.exact)

pub returns-in_err-book : goal.returns-in_err-book
returns-in_err-book c =
    let p = err_from_is_err_and c.from_residual-in_err-book.result c.from_residual-in_err-book.ensures.1 in
    let w : Whence c.args.tables = record { given = c.in_ok-given.given; given_is = c.in_ok-given.ensures.exact } in
    rw (p.1, p.2) (bad_book _ w _ c.in_err-book.ensures)

pub returns-in-Some : goal.returns-in-Some
returns-in-Some c =
    let w : Whence c.args.tables = record { given = c.in_ok-given.given; given_is = c.in_ok-given.ensures.exact } in
    bad_edges _ w c.in_ok-book.book _ c.in_ok-book.ensures (rw c.as_slice.ensures at (sym c.in-Some.ensures))

pub returns-in_err-forwards : goal.returns-in_err-forwards
returns-in_err-forwards c =
    let p = err_from_is_err_and c.from_residual-in_err-forwards.result c.from_residual-in_err-forwards.ensures.1 in
    let w : Whence c.args.tables = record { given = c.in_ok-given.given; given_is = c.in_ok-given.ensures.exact } in
    rw (p.1, p.2) (bad_forwards _ w c.in_ok-book.book _ c.in_ok-book.ensures (rw c.as_slice.ensures at (sym c.in_default.ensures)) (rw (c.as_slice-2.ensures, c.as_slice-3.ensures) at c.in_err-forwards.ensures))

pub returns-in_err-changes : goal.returns-in_err-changes
returns-in_err-changes c =
    let p = err_from_is_err_and c.from_residual-in_err-changes.result c.from_residual-in_err-changes.ensures.1 in
    let w : Whence c.args.tables = record { given = c.in_ok-given.given; given_is = c.in_ok-given.ensures.exact } in
    let k : Claimed c.args.tables w = record { book = c.in_ok-book.book; book_is = c.in_ok-book.ensures; apart = rw c.as_slice.ensures at (sym c.in_default.ensures); forwards = c.in_ok-forwards.forwards; forwards_are = rw (c.as_slice-2.ensures, c.as_slice-3.ensures) at c.in_ok-forwards.ensures } in
    rw (p.1, p.2) (bad_changes _ w k _ (rw c.as_slice-4.ensures at c.in_err-changes.ensures))

pub returns : goal.returns
returns c =
    let w : Whence c.args.tables = record { given = c.in_ok-given.given; given_is = c.in_ok-given.ensures.exact } in
    let k : Claimed c.args.tables w = record { book = c.in_ok-book.book; book_is = c.in_ok-book.ensures; apart = rw c.as_slice.ensures at (sym c.in_default.ensures); forwards = c.in_ok-forwards.forwards; forwards_are = rw (c.as_slice-2.ensures, c.as_slice-3.ensures) at c.in_ok-forwards.ensures } in
    good _ w k c.in_ok-changes.changes (rw c.as_slice-4.ensures at c.in_ok-changes.ensures)
