use Rattle.domain_run.proofs.Starting.{edges_more}
use Rattle.domain_run.proofs.start.first_edges.Goals as goal

pub loop-number-preserved : goal.loop-number-preserved
loop-number-preserved c =
    edges_more c.args.setup.now c.loop-number.edges.items c.push.new.self.items c.in_ok-first_edge.field-0 c.loop-number.number c.in_ok-push.ensures.items c.in_ok-first_edge.ensures
    c.loop-number.invariant
