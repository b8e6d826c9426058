use Rattle.std.proofs.Common.{inr, refl}
use Rattle.ip6_packet.specs.Causes.{IsNoDestination6}
use Rattle.packet_faults.proofs.error6.answer6.Goals as goal

pub returns-clause-none : goal.returns-clause-none
returns-clause-none c = (λ none. cc, λ unanswered. let answered = c.is_unanswered.ensures.1 (rw c.payload.ensures unanswered) in cc)

pub returns-clause-accepted : goal.returns-clause-accepted
returns-clause-accepted c =
    let host : IsNoDestination6 c.args.head.now.src.0 → ⊥ = λ none. let answered = c.is_unanswered.ensures.1 (inr (inr none)) in cc in
    (c.in_ok-write.ensures.again (refl, λ wrong. wrong, host)).1
