use Rattle.std.proofs.Common.{⊎_elim, inl, ap, Err}
use Rattle.octets.specs.declared.cause.Cause.TheVariants.{BadInner}
use Rattle.packets.proofs.Faults.{same_fault, same_cause, no_cause}
use Rattle.packets.proofs.packet6.embedded_packet6.Goals as goal

pub returns-in_err-inner-clause-refused : goal.returns-in_err-inner-clause-refused
returns-in_err-inner-clause-refused c = λ cause e.
    let fault = c.in_err-inner.field-0.0 in
    let is = same_fault c.from_residual.result fault cause c.from_residual.ensures.1 e in
    ⊎_elim
    (λ bad. (same_cause fault BadInner cause bad is, inl (rw c.embedded.ensures at (c.in_err-inner.ensures.refused.0 (ap Err bad)))))
    (λ memory. no_cause fault cause is memory)
    c.in_err-inner.ensures.no_other
