use Rattle.std.proofs.Common.{sym, ◌∙◌, ap}
use Rattle.std.specs.Prelude.{if◌then◌else◌}
use Rattle.rule_book.specs.declared.view.FarOf.TheVariants.{Addr, Spoofed}
use Rattle.rule_book.proofs.FarEnds.{far_under-by_set}
use Rattle.rule_book.proofs.scan.far_under.Goals as goal

pub returns-then-has : goal.returns-then-has
returns-then-has c =
    sym (far_under-by_set c.args.rule.now c.args.s.0 c.args.port c.in-Some.addr.0 c.in-Some.ports.psid _ _ c.has.result c.in-Some.ensures.value c.in-Some.ensures.shape c.has.ensures ∙ ap (λ b. if b then Addr (record { 0 = c.in-Some.addr.0 }) else Spoofed) c.if-has.true)

pub returns-else-has : goal.returns-else-has
returns-else-has c =
    sym (far_under-by_set c.args.rule.now c.args.s.0 c.args.port c.in-Some.addr.0 c.in-Some.ports.psid _ _ c.has.result c.in-Some.ensures.value c.in-Some.ensures.shape c.has.ensures ∙ ap (λ b. if b then Addr (record { 0 = c.in-Some.addr.0 }) else Spoofed) c.if-has.false)
