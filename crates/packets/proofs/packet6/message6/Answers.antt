use Rattle.std.proofs.Common.{◌≡◌, ⊎_elim, ap, subst, Err, sym}
use Rattle.octets.specs.Cause.{IsLeast}
use Rattle.octets.specs.declared.cause.Cause.{Cause}
use Rattle.octets.specs.declared.cause.Cause.TheVariants.{BadTransport, IcmpSum}
use Rattle.ip6_packet.specs.Fragment.{fragment_offset, IsFragment6}
use Rattle.packets.specs.Behind6.{Behind6}
use Rattle.packets.proofs.Faults.{same_fault, same_cause, no_cause}
use Rattle.packets.proofs.Spared6.{short_least, wrong_least}
use Rattle.packets.proofs.Taken6.{no_fragment}
use Rattle.packets.proofs.packet6.message6.Goals as goal

pub returns-in_err-message-clause-refused : goal.returns-in_err-message-clause-refused
returns-in_err-message-clause-refused c = λ cause e.
    let head = c.args.head.now in
    let fault = c.in_err-message.field-0.0 in
    let is = same_fault c.from_residual.result fault cause c.from_residual.ensures.1 e in
    let whole : IsFragment6 head → ⊥ = λ fragment. let said = c.is_fragment.ensures.1 fragment in cc in
    let first : fragment_offset head.frag ≡ 0 = no_fragment head whole in
    let told = c.in_err-message.ensures in
    ⊎_elim
    (λ short. subst (λ (x : Cause). IsLeast (Behind6 c.args.at_relay head c.args.payload.now) x) (sym (same_cause fault BadTransport cause short is))
    (short_least c.args.at_relay head c.args.payload.now c.requires.protocol c.requires.unrouted whole first (told.short.0 (ap Err short))))
    (⊎_elim
    (λ wrong. subst (λ (x : Cause). IsLeast (Behind6 c.args.at_relay head c.args.payload.now) x) (sym (same_cause fault IcmpSum cause wrong is))
    (wrong_least c.args.at_relay head c.args.payload.now c.requires.protocol c.requires.unrouted whole (told.wrong.0 (ap Err wrong))))
    (λ memory. no_cause fault cause is memory))
    told.no_other
