use Rattle.std.proofs.Common.{◌≡◌, ◌≤◌, length, Err, ap, arith, rules, ⊎_elim, List, ℕ}
use Rattle.octets.specs.declared.cause.Fault.TheVariants.{NoMemory}
use Rattle.ip6_packet.specs.Grammar.{payload_of6}
use Rattle.icmp_messages.specs.declared.inner6.Inner6.{Inner6}
use Rattle.icmp_messages.specs.Inner.{IsInner6, IsBadInner6}
use Rattle.icmp_messages.proofs.InnerLemmas.{not_bad6}
use Rattle.icmp_messages.specs.declared.table.Rest.TheVariants.{Query}
use Rattle.icmp_xlat.proofs.to_icmp4.translated64.Goals as goal
use Rattle.icmp_xlat.proofs.to_icmp4.translated64.Goals.{in-Query, in_default}

-- a packet that is embedded isn't refused
is_not_bad : (inner : Inner6) (octets : List ℕ) → IsInner6 inner octets → IsBadInner6 octets → ⊥
is_not_bad inner octets is bad =
    let stands : 8 ≤ length (payload_of6 inner.head octets) = omega (arith, ap length is.payload, is.stands) in
    not_bad6 inner.head inner.proto octets is.headers stands is.first (rw is.payload at is.carried) bad

pub returns-in_err-inner-clause-no_other : goal.returns-in_err-inner-clause-no_other
returns-in_err-inner-clause-no_other c =
    let query : c.args.row.rest ≡ Query → ⊥ = λ q. elim c.match-matches.branch [
      | in-Query w ↦ cc
      | in_default w ↦ w.in_default.not-Query q
    ] in
    let bad : IsBadInner6 c.embedded.result.now → ⊥ = λ b.
    ⊎_elim query (λ e. is_not_bad e.0 c.embedded.result.now (rw c.embedded.ensures e.1) b) c.requires.embeds in
    let memory : c.in_err-inner.field-0.0 ≡ NoMemory =
    ⊎_elim (λ h. absurd (bad (c.in_err-inner.ensures.refused.0 (ap Err h)))) (λ h. h) c.in_err-inner.ensures.no_other in
    search rules
