use Rattle.std.proofs.lemmas.Result.{err_from_is_err_and}
use Rattle.mapt_setup.proofs.SetupStages.{bad_tables, by_tables}
use Rattle.mapt_setup.proofs.ValidSetups.{valid_read}
use Rattle.mapt_setup.proofs.setup.Setup.read.Goals as goal

pub returns-in_err-read-clause-exact : goal.returns-in_err-read-clause-exact
returns-in_err-read-clause-exact c =
    let p = err_from_is_err_and c.from_residual.result c.from_residual.ensures.1 in
    rw (p.1, p.2) (bad_tables _ _ c.in_err-read.ensures.exact)

pub returns : goal.returns
returns c =
    let exact = by_tables _ _ _ c.in_ok-read.ensures.exact c.of_tables.ensures in
    record { exact = exact; valid = valid_read _ c.of_tables.result exact }
