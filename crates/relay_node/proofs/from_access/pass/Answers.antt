use Rattle.hops.specs.Hop.{IsCarried}
use Rattle.hops.proofs.Gained.{widened}
use Rattle.relay_node.specs.Relay.{exit_of}
use Rattle.relay_node.specs.FromAccess.{IsRefused6, IsPassed6}
use Rattle.relay_node.proofs.from_access.pass.Goals as goal

pub returns : goal.returns
returns g c =
    let relay = c.args.relay.now in
    let p = c.args.packet.now in
    let octets = c.args.octets.now in
    let passage = c.in_ok-passage.passage in
    let passed = rw (c.mtus.ensures, c.id.ensures) at c.in_ok-passage.ensures in
    let leaves = rw (c.answering.ensures, c.exit_to.ensures) at c.leave.ensures in
    widened c.leave.result (IsCarried (IsRefused6 relay octets p.head) (exit_of c.args.relay.now.rules c.args.ends.dst) passage) (IsPassed6 relay p octets c.args.ends)
    c.args.hop.now c.leave.new.hop (λ hop carried. (passage, passed, carried)) leaves
