use Rattle.std.proofs.Common.{sym, inl, inr}
use Rattle.std.proofs.lemmas.Bool.{eqb-true}
use Rattle.ip4_packet.specs.Options.{routed_in}
use Rattle.ip4_packet.proofs.OptionLemmas.{goes_on, is_done}
use Rattle.ip4_packet.proofs.options.routed.Goals as goal

pub loop-left-preserved-then-left-eq-OPTION_NONE : goal.loop-left-preserved-then-left-eq-OPTION_NONE
loop-left-preserved-then-left-eq-OPTION_NONE c =
    goes_on c.loop-left.found c.loop-left.left.now (routed_in 0 c.args.octets.now) c.if-left-eq-OPTION_NONE.true c.loop-left.invariant

pub returns-else-left-ne-OPTION_END : goal.returns-else-left-ne-OPTION_END
returns-else-left-ne-OPTION_END c =
    is_done c.loop-left.found c.loop-left.left.now (routed_in 0 c.args.octets.now) (inr c.if-left-ne-OPTION_END.false) c.loop-left.invariant

pub returns-after-loop-left : goal.returns-after-loop-left
returns-after-loop-left c =
    is_done c.loop-left.found c.loop-left.left.now (routed_in 0 c.args.octets.now) (inl (eqb-true _ _ (sym (c.loop-left-test.ensures)))) c.loop-left.invariant
