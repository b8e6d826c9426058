use Rattle.std.proofs.Common.{sym}
use Rattle.std.proofs.lemmas.Result.{err_from_is_err_and}
use Rattle.mapt_setup.proofs.SetupStages.{bad_place, bad_claim, good_forwards}
use Rattle.mapt_setup.proofs.claims.forwards_of.Goals as goal

pub returns-in_err-forwards : goal.returns-in_err-forwards
returns-in_err-forwards c =
    let p = err_from_is_err_and c.from_residual.result c.from_residual.ensures.1 in
    rw (p.1, p.2) (bad_place _ _ _ _ c.in_err-forwards.ensures.exact)

pub returns-in-Some : goal.returns-in-Some
returns-in-Some c = bad_claim _ _ _ c.in_ok-forwards.forwards _ c.in_ok-forwards.ensures.exact (rw c.as_slice.ensures at (sym c.in-Some.ensures))

pub returns : goal.returns
returns c = good_forwards _ _ _ c.in_ok-forwards.forwards c.in_ok-forwards.ensures.exact (rw c.as_slice.ensures at (sym c.in_default.ensures))
