use Rattle.std.proofs.Common.{◌≡◌, refl, ap, ◌∙◌, None}
use Rattle.rule_book.specs.Book.{rules_of, dmr_of}
use Rattle.relay_node.specs.declared.params.RelayParams.{RelayParams}
use Rattle.relay_node.specs.Relay.{relay_at}
use Rattle.journeys.specs.Derived.{relay_node}
use Rattle.domain_run.proofs.RelaySteps.{is_relay, sent_by, untold}
use Rattle.domain_run.proofs.machines.Machines.make_untold.Goals as goal

pub returns : goal.returns
returns c =
    let setup = c.args.packet.now.setup.now in
    let taking = c.args.packet.now.taking.now in
    let octets = c.args.packet.now.octets.now in
    let book = c.args.self.now.book in
    let relay : c.new-relay.result ≡ relay_node setup taking.rec taking.seen =
    c.new-relay.ensures ∙ ap (λ (p : RelayParams). relay_at (rules_of book) (dmr_of book) p c.id.result) c.relay_params.ensures
    ∙ is_relay setup taking c.args.self.now c.id.result c.requires.ready c.id.ensures in
    untold setup taking c.args.packet.now.hop c.args.six octets c.in_ok-hop.hop c.args.self.now c.requires.ready c.requires.unasked
    (sent_by _ _ _ _ _ None octets c.in_ok-hop.hop relay c.requires.six refl c.in_ok-hop.ensures)
