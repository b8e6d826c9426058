use Rattle.hops.specs.declared.exit.Exit.TheVariants.{ToAccess}
use Rattle.hops.specs.Hop.{IsCarried}
use Rattle.hops.proofs.Gained.{widened}
use Rattle.relay_node.specs.FromIpv4.{IsRefused4, IsPassed4}
use Rattle.relay_node.proofs.from_ipv4.pass.Goals as goal

pub returns : goal.returns
returns g c =
    let relay = c.args.relay.now in
    let p = c.args.packet.now in
    let octets = c.args.octets.now in
    let passage = c.in_ok-passage.passage in
    let passed = rw (c.mtus.ensures) at c.in_ok-passage.ensures in
    let leaves = rw (c.answering.ensures) at c.leave.ensures in
    widened c.leave.result (IsCarried (IsRefused4 relay octets p.head) ToAccess passage) (IsPassed4 relay p octets c.args.ends)
    c.args.hop.now c.leave.new.hop (λ hop carried. (passage, passed, carried)) leaves
