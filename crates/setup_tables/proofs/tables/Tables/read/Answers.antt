use Rattle.std.proofs.Common.{◌≡◌, Some, None, rules}
use Rattle.std.proofs.lemmas.Result.{err_from_is_err_and}
use Rattle.toml.specs.View.{table_view}
use Rattle.setup_tables.specs.declared.fault.SetupCause.TheVariants.{TooMany}
use Rattle.setup_tables.specs.declared.fault.SetupFault.TheVariants.{Refused}
use Rattle.setup_tables.specs.Tables.{early_fault}
use Rattle.setup_tables.proofs.TableStages.{no_document, early, whole}
use Rattle.setup_tables.proofs.tables.Tables.read.Goals as goal

pub returns-in_err-document-clause-exact : goal.returns-in_err-document-clause-exact
returns-in_err-document-clause-exact c =
    let p = err_from_is_err_and c.from_residual.result c.from_residual.ensures.1 in
    rw (p.1, p.2) (no_document _ _ c.in_err-document.ensures)

pub returns-then-has_too_many-clause-exact : goal.returns-then-has_too_many-clause-exact
returns-then-has_too_many-clause-exact c =
    let fault : early_fault (table_view c.in_ok-document.document) ≡ Some (Refused TooMany 0) = search rules in
    early _ _ _ c.in_ok-document.ensures fault

pub returns-clause-exact : goal.returns-clause-exact
returns-clause-exact c =
    let none : early_fault (table_view c.in_ok-document.document) ≡ None = search rules in
    whole _ _ _ c.in_ok-document.ensures none c.of.ensures.exact
