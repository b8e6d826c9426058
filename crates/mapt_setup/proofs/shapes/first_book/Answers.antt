use Rattle.std.proofs.lemmas.Result.{err_from_is_err_and}
use Rattle.mapt_setup.proofs.SetupStages.{bad_shape, shaped_book}
use Rattle.mapt_setup.proofs.shapes.first_book.Goals as goal

pub returns-in_err-rules : goal.returns-in_err-rules
returns-in_err-rules c =
    let p = err_from_is_err_and c.from_residual.result c.from_residual.ensures.1 in
    rw (p.1, p.2) (bad_shape _ _ (rw c.as_slice.ensures at c.in_err-rules.ensures))

pub returns : goal.returns
returns c = shaped_book _ c.in_ok-rules.rules.items _ (rw c.as_slice.ensures at c.in_ok-rules.ensures) (rw c.deref.ensures.value at c.book.ensures)
