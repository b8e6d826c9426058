use Rattle.std.proofs.Common.{◌≡◌, Some, None, sym, ◌∙◌}
use Rattle.octets.proofs.Spelling6.{addr6_again, addr6_found}
use Rattle.octets.proofs.text6.read_addr6.Goals as goal

pub returns-in-Some-clause-found : goal.returns-in-Some-clause-found
returns-in-Some-clause-found c = addr6_found c.args.text.now c.in-Some.n (sym c.in-Some.ensures)

pub returns-in-Some-clause-only : goal.returns-in-Some-clause-only
returns-in-Some-clause-only c =
    λ n h. let e : Some c.in-Some.n ≡ Some n = c.in-Some.ensures ∙ addr6_again c.args.text.now n h in cc

pub returns-in-None-clause-only : goal.returns-in-None-clause-only
returns-in-None-clause-only c =
    λ n h. let e : None ≡ Some n = c.in-None.ensures ∙ addr6_again c.args.text.now n h in cc
