use Rattle.std.proofs.Common.{subst}
use Rattle.std.specs.Prelude.{IfOk}
use Rattle.edge_node.specs.declared.way.Way.{Way}
use Rattle.edge_node.specs.declared.way.Node.{Node}
use Rattle.edge_node.specs.Hop.{IsEdgeHop}
use Rattle.edge_node.proofs.hop.emit.Goals as goal

pub returns : goal.returns
returns c =
    let node : Node = record { params = c.args.setup.now; id = c.args.id } in
    subst (λ (way : Way). IfOk c.emit.result (IsEdgeHop node way c.args.answer.now c.args.packet.now)) c.in_ok-taken.ensures.way c.emit.ensures
