use Rattle.std.proofs.Common.{ℕ, refl, subst}
use Rattle.std.specs.Prelude.{Option}
use Rattle.octets.specs.declared.address.Addr6.{Addr6}
use Rattle.octets.specs.declared.cause.Cause.TheVariants.{NoOwner}
use Rattle.l4_headers.specs.declared.ends.Ends.{Ends}
use Rattle.hops.specs.declared.hop.Hop.{Hop}
use Rattle.hops.specs.Hop.{lost}
use Rattle.hops.proofs.Gained.{gained, widened}
use Rattle.relay_node.specs.FromIpv4.{ends46, IsPassed4, IsSent4, Becomes4}
use Rattle.relay_node.proofs.from_ipv4.Ipv4RelaySide.carry.Goals as goal

pub returns-in_default : goal.returns-in_default
returns-in_default g c =
    let relay = c.args.relay.now in
    let p = c.args.packet.now in
    let octets = c.args.octets.now in
    let Passed : Addr6 → Hop → Type 0 = λ own. IsPassed4 relay p octets (ends46 relay p own c.args.ports) in
    gained c.lose.result (Becomes4 relay p octets c.args.ports) c.args.hop.now c.lose.new.self (lost NoOwner)
    (subst (λ (own : Option ℕ). IsSent4 Passed own (lost NoOwner)) c.in_default.ensures refl)
    c.lose.ensures

pub returns : goal.returns
returns g c =
    let relay = c.args.relay.now in
    let p = c.args.packet.now in
    let octets = c.args.octets.now in
    let Passed : Addr6 → Hop → Type 0 = λ own. IsPassed4 relay p octets (ends46 relay p own c.args.ports) in
    widened c.pass.result (IsPassed4 relay p octets c.ends-ends.result) (Becomes4 relay p octets c.args.ports) c.args.hop.now c.pass.new.hop
    (λ hop passed. subst (λ (own : Option ℕ). IsSent4 Passed own hop) c.in-Some.ensures
    (subst (λ (ends : Ends Addr6). IsPassed4 relay p octets ends hop) c.ends-ends.ensures passed))
    c.pass.ensures
