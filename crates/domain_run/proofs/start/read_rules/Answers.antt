use Rattle.std.proofs.Common.{◌<◌, ◌^◌, subst, arith}
use Rattle.map_rules.specs.declared.dmr.Dmr.{Dmr}
use Rattle.domain_run.proofs.Starting.{fit_each}
use Rattle.domain_run.proofs.start.read_rules.Goals as goal

pub returns : goal.returns
returns g c = record {
  each = fit_each (g.V.RuleView.rules c.args.view.now) c.loop-i.i (omega (arith, c.count-i-end.ensures, c.loop-i-test.false)) c.loop-i.invariant;
  default = subst (λ (d : Dmr). d.prefix.bits < 2 ^ 128) c.dmr.ensures c.read_default.ensures;
}
