use Rattle.std.proofs.Common.{◌≤◌, ◌∙◌, ℕ, Some, length, sym, ap, subst, arith}
use Rattle.std.proofs.lemmas.List.{length-drop}
use Rattle.ip4_packet.specs.Grammar.{payload_of4}
use Rattle.icmp_messages.specs.declared.icmp6.Icmp6.{Icmp6}
use Rattle.icmp_xlat.specs.Icmp46.{rest46, error46, with_message46}
use Rattle.packets.specs.declared.packet4.Content4.{Content4}
use Rattle.packets.specs.Packet4.{IsContent4}
use Rattle.transit.proofs.Both.{follows, mapped}
use Rattle.transit.proofs.to_ipv6.translated.Goals as goal

pub with_message46-requires-clause-fits : goal.with_message46-requires-clause-fits
with_message46-requires-clause-fits c =
    let head = c.args.packet.now.head in
    let payload = payload_of4 head c.args.octets.now in
    let is = subst (λ (x : Content4). IsContent4 head payload x) c.in-Query.is c.requires.is.content in
    let whole : length payload ≤ 65515 = rw c.payload_in-payload.ensures.value at c.payload_in-payload.ensures.fits in
    omega (arith, c.in_ok-query-in-Query.ensures.fits, ap length is.0.message.body, length-drop 8 payload, whole)

pub returns-in_ok-error-in-Error : goal.returns-in_ok-error-in-Error
returns-in_ok-error-in-Error c =
    let head = c.args.packet.now.head in
    let passing = c.args.passing.now in
    let row = c.in-Error.row in
    let inner = c.in-Error.inner in
    let found = mapped (λ (rest : ℕ). error46 row rest inner passing.ends) (λ (m : Icmp6). with_message46 head m passing.ends)
    (rest46 passing.mtus inner.head.total c.in-Error.message.rest row.rest) c.in_ok-error-in-Error.error c.in_ok-error-in-Error.ensures.value in
    follows _ _ c.with_message46-in-Error.result (λ w e. rw c.in-Error.is (found ∙ ap Some (sym e))) c.with_message46-in-Error.ensures
