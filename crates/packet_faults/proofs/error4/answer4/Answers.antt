use Rattle.std.proofs.Common.{ℕ, ◌≤◌, length, inl, inr, refl, arith, rules}
use Rattle.octets.specs.Fragment.{IsWrongFragment}
use Rattle.ip4_packet.specs.Causes.{IsNoDestination4}
use Rattle.packet_faults.proofs.error4.answer4.Goals as goal

whole : (len : ℕ) → len ≤ 65535 → IsWrongFragment 0 0 len → ⊥
whole len fits (inl past) = omega arith
whole len fits (inr more) = absurd (omega (arith, more.0))

pub returns-clause-none : goal.returns-clause-none
returns-clause-none c = (λ none. cc, λ unanswered. let answered = c.is_unanswered.ensures.1 (rw c.payload.ensures unanswered) in cc)

pub returns-clause-accepted : goal.returns-clause-accepted
returns-clause-accepted c =
    let message = c.as_slice-message.result.now in
    let fits : length message ≤ 65535 = search rules in
    let host : IsNoDestination4 c.args.head.now.src.0 → ⊥ = λ none. let answered = c.is_unanswered.ensures.1 (inr (inr none)) in cc in
    (c.in_ok-write.ensures.again (refl, whole (length message) fits, host)).1
