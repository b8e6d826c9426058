use Rattle.std.proofs.Common.{refl, subst, sym}
use Rattle.transit.specs.declared.passage.Passage.{Passage}
use Rattle.hops.specs.Hop.{sends, sends_pieces, IsRefused, IsCarried}
use Rattle.hops.proofs.Gained.{gained}
use Rattle.hops.proofs.in_hand.InHand.leave.Goals as goal

pub returns-in-Sent : goal.returns-in-Sent
returns-in-Sent g c =
    let self = c.args.self.now in
    let Refused = IsRefused (g.S.Side.IsReply self.from self.head.now self.octets.now) self.from.exit in
    let one = sends c.args.exit c.in-Sent.octets in
    gained c.send.result (IsCarried Refused c.args.exit c.args.passage) c.args.hop.now c.send.new.self one
    (subst (λ (p : Passage). IsCarried Refused c.args.exit p one) (sym c.in-Sent.is) refl) c.send.ensures

pub returns-in-Cut : goal.returns-in-Cut
returns-in-Cut g c =
    let self = c.args.self.now in
    let Refused = IsRefused (g.S.Side.IsReply self.from self.head.now self.octets.now) self.from.exit in
    let one = sends_pieces c.args.exit c.in-Cut.pieces in
    gained c.send_pieces.result (IsCarried Refused c.args.exit c.args.passage) c.args.hop.now c.send_pieces.new.self one
    (subst (λ (p : Passage). IsCarried Refused c.args.exit p one) (sym c.in-Cut.is) refl) c.send_pieces.ensures
