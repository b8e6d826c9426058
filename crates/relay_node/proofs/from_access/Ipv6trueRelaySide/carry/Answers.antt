use Rattle.std.proofs.Common.{ℕ, refl, subst}
use Rattle.std.specs.Prelude.{Option, Some}
use Rattle.octets.specs.declared.address.Addr4.{Addr4}
use Rattle.octets.specs.declared.cause.Cause.TheVariants.{Spoofed, NotDefault}
use Rattle.hops.specs.Hop.{lost}
use Rattle.hops.proofs.Gained.{gained}
use Rattle.relay_node.specs.Relay.{extracted}
use Rattle.relay_node.specs.FromAccess.{IsPassed6, IsSent6, Becomes6}
use Rattle.relay_node.proofs.from_access.Ipv6trueRelaySide.carry.Goals as goal

pub returns-in_default : goal.returns-in_default
returns-in_default g c =
    let relay = c.args.relay.now in
    let p = c.args.packet.now in
    let Passed = IsPassed6 relay p c.args.octets.now in
    gained c.lose.result (Becomes6 relay p c.args.octets.now c.args.ports) c.args.hop.now c.lose.new.self (lost Spoofed)
    (subst (λ (src : Option Addr4). IsSent6 Passed c.args.ports src (extracted relay.dmr p.head.dst) (lost Spoofed)) c.in_default.ensures refl)
    c.lose.ensures

pub returns-in_default-extracted : goal.returns-in_default-extracted
returns-in_default-extracted g c =
    let relay = c.args.relay.now in
    let p = c.args.packet.now in
    let Passed = IsPassed6 relay p c.args.octets.now in
    gained c.lose-in_default-extracted.result (Becomes6 relay p c.args.octets.now c.args.ports) c.args.hop.now c.lose-in_default-extracted.new.self (lost NotDefault)
    (subst (λ (src : Option Addr4). IsSent6 Passed c.args.ports src (extracted relay.dmr p.head.dst) (lost NotDefault)) c.in-Some.ensures
    (subst (λ (d : Option ℕ). IsSent6 Passed c.args.ports (Some c.in-Some.src) d (lost NotDefault)) c.in_default-extracted.ensures refl))
    c.lose-in_default-extracted.ensures
