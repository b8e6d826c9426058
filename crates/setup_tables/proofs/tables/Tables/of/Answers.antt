use Rattle.std.proofs.lemmas.Result.{err_from_is_err_and}
use Rattle.setup_tables.proofs.TableStages.{bad_domain, bad_rule, bad_edge, bad_forward, bad_change, all_said}
use Rattle.setup_tables.proofs.tables.Tables.of.Goals as goal

pub returns-in_err-domain-clause-exact : goal.returns-in_err-domain-clause-exact
returns-in_err-domain-clause-exact c =
    let p = err_from_is_err_and c.from_residual.result c.from_residual.ensures.1 in
    rw (p.1, p.2) (bad_domain _ _ c.in_err-domain.ensures.exact)

pub returns-in_err-lines-clause-exact : goal.returns-in_err-lines-clause-exact
returns-in_err-lines-clause-exact c =
    let p = err_from_is_err_and c.from_residual-in_err-lines.result c.from_residual-in_err-lines.ensures.1 in
    rw (p.1, p.2) (bad_rule _ c.in_ok-domain.domain _ c.in_ok-domain.ensures.exact c.in_err-lines.ensures.exact)

pub returns-in_err-edges-clause-exact : goal.returns-in_err-edges-clause-exact
returns-in_err-edges-clause-exact c =
    let p = err_from_is_err_and c.from_residual-in_err-edges.result c.from_residual-in_err-edges.ensures.1 in
    rw (p.1, p.2) (bad_edge _ c.in_ok-domain.domain c.in_ok-lines.lines _ c.in_ok-domain.ensures.exact c.in_ok-lines.ensures.exact c.in_err-edges.ensures.exact)

pub returns-in_err-forwards-clause-exact : goal.returns-in_err-forwards-clause-exact
returns-in_err-forwards-clause-exact c =
    let p = err_from_is_err_and c.from_residual-in_err-forwards.result c.from_residual-in_err-forwards.ensures.1 in
    rw (p.1, p.2) (bad_forward _ c.in_ok-domain.domain c.in_ok-lines.lines c.in_ok-edges.edges _ c.in_ok-domain.ensures.exact c.in_ok-lines.ensures.exact c.in_ok-edges.ensures.exact c.in_err-forwards.ensures.exact)

pub returns-in_err-changes-clause-exact : goal.returns-in_err-changes-clause-exact
returns-in_err-changes-clause-exact c =
    let p = err_from_is_err_and c.from_residual-in_err-changes.result c.from_residual-in_err-changes.ensures.1 in
    rw (p.1, p.2) (bad_change _ c.in_ok-domain.domain c.in_ok-lines.lines c.in_ok-edges.edges c.in_ok-forwards.forwards _ c.in_ok-domain.ensures.exact c.in_ok-lines.ensures.exact c.in_ok-edges.ensures.exact c.in_ok-forwards.ensures.exact c.in_err-changes.ensures.exact)

pub returns-clause-exact : goal.returns-clause-exact
returns-clause-exact c = all_said _ _ record { domain = c.in_ok-domain.ensures.exact; lines = c.in_ok-lines.ensures.exact; edges = c.in_ok-edges.ensures.exact; forwards = c.in_ok-forwards.ensures.exact; changes = c.in_ok-changes.ensures.exact }
