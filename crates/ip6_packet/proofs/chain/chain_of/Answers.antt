use Rattle.std.proofs.Common.{sym, ap, ◌∙◌}
use Rattle.ip6_packet.specs.Chain.{behind, chain_in}
use Rattle.ip6_packet.proofs.ChainLemmas.{is_done}
use Rattle.ip6_packet.proofs.chain.chain_of.Goals as goal

pub returns-in_err-end-clause-value : goal.returns-in_err-end-clause-value
returns-in_err-end-clause-value c =
    let done = is_done c.loop-rest.left c.loop-rest.place c.loop-rest.number c.loop-rest.rest.now (chain_in 40 c.args.first 0 c.args.payload.now) (sym c.is_sized.ensures ∙ c.loop-rest-test.false) c.loop-rest.invariant.walked in
    c.from_residual-in_err-end.ensures ∙ ap (behind c.loop-rest.left) c.in_err-end.ensures.value ∙ done

pub returns-clause-value : goal.returns-clause-value
returns-clause-value c =
    let done = is_done c.loop-rest.left c.loop-rest.place c.loop-rest.number c.loop-rest.rest.now (chain_in 40 c.args.first 0 c.args.payload.now) (sym c.is_sized.ensures ∙ c.loop-rest-test.false) c.loop-rest.invariant.walked in
    rw c.or.ensures (ap (behind c.loop-rest.left) c.in_ok-end.ensures.value ∙ done)
