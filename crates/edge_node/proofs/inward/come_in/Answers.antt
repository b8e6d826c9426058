use Rattle.hops.specs.declared.exit.Exit.TheVariants.{ToLan}
use Rattle.hops.specs.Hop.{IsCarried}
use Rattle.hops.proofs.Gained.{widened, carried_as}
use Rattle.edge_node.specs.declared.way.Way.TheVariants.{Access}
use Rattle.edge_node.specs.Hop.{IsRefusedToAccess, Drops, ComesIn}
use Rattle.edge_node.proofs.Refused.{access_drops}
use Rattle.edge_node.proofs.inward.come_in.Goals as goal

pub returns : goal.returns
returns c =
    let node = c.args.node.now in
    let octets = c.args.octets.now in
    let p = c.args.packet.now in
    let passage = c.in_ok-passage.passage in
    let leaves = rw (c.in_hand.ensures.from, c.in_hand.ensures.head, c.in_hand.ensures.octets) at c.leave.ensures in
    widened c.leave.result (IsCarried (IsRefusedToAccess node octets p.head) ToLan passage) (ComesIn node octets c.args.ends p) c.args.hop.now c.leave.new.hop
    (λ hop carried. (
      passage,
      c.in_ok-passage.ensures,
      carried_as (IsRefusedToAccess node octets p.head) (Drops node Access octets) ToLan passage hop (λ cause hop refused. access_drops node octets p cause hop c.requires refused) carried,
    ))
    leaves
