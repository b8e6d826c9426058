use Rattle.std.proofs.Common.{◌∙◌, ℕ, ap, sym, Some}
use Rattle.icmp_messages.specs.declared.icmp4.Icmp4.{Icmp4}
use Rattle.icmp_xlat.specs.Icmp64.{rest64, error64, with_message64}
use Rattle.transit.proofs.Both.{follows, mapped}
use Rattle.transit.proofs.to_ipv4.translated.Goals as goal

pub returns-in_ok-error-in-Error : goal.returns-in_ok-error-in-Error
returns-in_ok-error-in-Error c =
    let head = c.args.packet.now.head in
    let passing = c.args.passing.now in
    let row = c.in-Error.row in
    let inner = c.in-Error.inner in
    let found = mapped (λ (rest : ℕ). error64 row rest inner passing.ends) (λ (m : Icmp4). with_message64 head m passing.ends passing.id)
    (rest64 passing.mtus c.in-Error.message.rest row.rest) c.in_ok-error-in-Error.error c.in_ok-error-in-Error.ensures in
    follows _ _ c.with_message64-in-Error.result (λ w e. rw c.in-Error.is (found ∙ ap Some (sym e))) c.with_message64-in-Error.ensures
