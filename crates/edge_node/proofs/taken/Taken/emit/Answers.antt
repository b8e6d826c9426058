use Rattle.std.proofs.Common.{◌≡◌, ◌∙◌, sym, ap, subst, List, ℕ}
use Rattle.nat_model.specs.declared.answer.Answer.{Answer}
use Rattle.hops.specs.declared.hop.Hop.{Hop}
use Rattle.hops.specs.Gains.{Gains}
use Rattle.hops.specs.Hop.{nothing}
use Rattle.hops.proofs.Gained.{from_nothing}
use Rattle.edge_node.specs.declared.way.Node.{Node}
use Rattle.edge_node.specs.declared.way.Way.{Way}
use Rattle.edge_node.specs.declared.way.Way.TheVariants.{Lan, Access, Turned}
use Rattle.edge_node.specs.Hop.{IsEdgeHop}
use Rattle.edge_node.specs.Taken.{way_of}
use Rattle.edge_node.proofs.taken.Taken.emit.Goals as goal
use Rattle.edge_node.proofs.taken.Taken.emit.Goals.{in-Lan+in_ok-emit_from_lan-in-Lan, in-Access+in_ok-emit_from_access-in-Access, in-Turned+in_ok-emit_from_itself-in-Turned}

-- what was gained from nothing is the hop
settled : (node : Node) (way : Way) (answer : Answer) (octets : List ℕ) (of : Way) (before after result : Hop) → before ≡ nothing → result ≡ after → of ≡ way
    → Gains (IsEdgeHop node way answer octets) before after → IsEdgeHop node of answer octets result
settled node way answer octets of before after result empty same is gains =
    let made = from_nothing (IsEdgeHop node way answer octets) after (subst (λ (h : Hop). Gains (IsEdgeHop node way answer octets) h after) empty gains) in
    subst (λ (w : Way). IsEdgeHop node w answer octets result) (sym is) (subst (λ (h : Hop). IsEdgeHop node way answer octets h) (sym same) made)

pub returns : goal.returns
returns c = elim c.match-self.branch [
  | in-Lan+in_ok-emit_from_lan-in-Lan w ↦
      settled c.args.node.now Lan c.args.answer.now c.args.octets.now (way_of c.args.self.now) c.new-hop.result w.emit_from_lan.new.hop c.hop-2.result
      c.new-hop.ensures (c.hop-2.ensures ∙ w.hop-is) (ap way_of w.in-Lan.is) w.in_ok-emit_from_lan-in-Lan.ensures
  | in-Access+in_ok-emit_from_access-in-Access w ↦
      settled c.args.node.now Access c.args.answer.now c.args.octets.now (way_of c.args.self.now) c.new-hop.result w.emit_from_access.new.hop c.hop-2.result
      c.new-hop.ensures (c.hop-2.ensures ∙ w.hop-is) (ap way_of w.in-Access.is) w.in_ok-emit_from_access-in-Access.ensures
  | in-Turned+in_ok-emit_from_itself-in-Turned w ↦
      settled c.args.node.now Turned c.args.answer.now c.args.octets.now (way_of c.args.self.now) c.new-hop.result w.emit_from_itself.new.hop c.hop-2.result
      c.new-hop.ensures (c.hop-2.ensures ∙ w.hop-is) (ap way_of w.in-Turned.is) w.in_ok-emit_from_itself-in-Turned.ensures
]
