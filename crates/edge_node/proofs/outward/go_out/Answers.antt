use Rattle.hops.specs.declared.exit.Exit.TheVariants.{ToAccess}
use Rattle.hops.specs.Hop.{IsCarried}
use Rattle.hops.proofs.Gained.{widened, carried_as}
use Rattle.edge_node.specs.declared.way.Way.TheVariants.{Lan}
use Rattle.edge_node.specs.Hop.{IsRefusedToLan, Drops, GoesOut}
use Rattle.edge_node.proofs.Refused.{lan_drops}
use Rattle.edge_node.proofs.outward.go_out.Goals as goal

pub returns : goal.returns
returns c =
    let node = c.args.node.now in
    let octets = c.args.octets.now in
    let p = c.args.packet.now in
    let passage = c.in_ok-passage.passage in
    let leaves = rw (c.in_hand.ensures.from, c.in_hand.ensures.head, c.in_hand.ensures.octets) at c.leave.ensures in
    widened c.leave.result (IsCarried (IsRefusedToLan node octets p.head) ToAccess passage) (GoesOut node octets c.args.ends p) c.args.hop.now c.leave.new.hop
    (λ hop carried. (
      passage,
      c.in_ok-passage.ensures,
      carried_as (IsRefusedToLan node octets p.head) (Drops node Lan octets) ToAccess passage hop (λ cause hop refused. lan_drops node octets p cause hop c.requires refused) carried,
    ))
    leaves
