use Rattle.std.proofs.Common.{◌≡◌, refl, sym, ap, ◌∙◌, ℕ, ◌<◌, List, length, Some, subst, arith}
use Rattle.std.specs.Prelude.{slice_get}
use Rattle.std.specs.Vec.{with_item}
use Rattle.std.proofs.lemmas.Option.{slice_get-get_or}
use Rattle.rule_book.specs.Book.{rules_of, dmr_of}
use Rattle.frag_table.specs.declared.key.FragKey.{FragKey}
use Rattle.frag_table.specs.Kind.{IsFragAnswerTo}
use Rattle.frag_table.proofs.AnswerKinds.{frag-kind}
use Rattle.nat_model.specs.declared.stripe.StripeEntry.{StripeEntry}
use Rattle.edge_core.specs.Shown.{StripeShown}
use Rattle.relay_node.specs.declared.params.RelayParams.{RelayParams}
use Rattle.relay_node.specs.Asked.{stripe}
use Rattle.relay_node.specs.Relay.{relay_at}
use Rattle.journeys.specs.declared.stand.Stand.TheVariants.{Relay}
use Rattle.journeys.specs.Waiting.{at_stand}
use Rattle.journeys.specs.Derived.{relay_node}
use Rattle.journeys.specs.OneThread.{key_of}
use Rattle.domain_run.specs.Machines.{IsMadeOne}
use Rattle.domain_run.proofs.RelaySteps.{is_relay, sent_by, told}
use Rattle.domain_run.proofs.machines.Machines.make_told.Goals as goal

pub returns : goal.returns
returns c =
    let setup = c.args.packet.now.setup.now in
    let taking = c.args.packet.now.taking.now in
    let octets = c.args.packet.now.octets.now in
    let self = c.args.self.now in
    let ask = c.args.ask.now in
    let answer = c.in_ok-answer.answer in
    let table = c.index_mut-table.result.now in
    let number = c.stripe_of-stripe.result in
    let is_number : number ≡ stripe (key_of ask) = c.stripe_of-stripe.ensures ∙ ap (λ (key : FragKey). stripe key) c.key_of.ensures in
    let relay : c.new-relay.result ≡ relay_node setup taking.rec taking.seen =
    c.new-relay.ensures ∙ ap (λ (p : RelayParams). relay_at (rules_of self.book) (dmr_of self.book) p c.id.result) c.relay_params.ensures
    ∙ is_relay setup taking self c.id.result c.requires.ready c.id.ensures in
    let within : number < length self.stripes.items = omega (arith, is_number, c.requires.ready.machines_are.stripe_count) in
    let here : slice_get self.stripes.items number ≡ Some table =
    slice_get-get_or self.stripes.items number table within ∙ sym (ap (λ (s : StripeShown). Some s) c.index_mut-table.ensures.value) in
    let entry : StripeEntry = record { who = c.who.result; now = taking.time; ask = ask; answer = answer } in
    subst (λ (n : ℕ). IsMadeOne setup taking c.args.packet.now.hop (at_stand octets (Relay c.args.six))
    (record { stand = Relay c.args.six; note = record { node = 256; seen = taking.seen; stripe = Some n; place = Some (length c.history.result.now) }; hop = c.in_ok-hop.hop }) self
    (record { book = self.book; edges = self.edges; stripes = with_item self.stripes n c.step.new.self })) (sym is_number)
    (told setup taking c.args.packet.now.hop (length c.history.result.now) c.args.six octets ask entry c.in_ok-hop.hop table c.step.new.self self
    (record { book = self.book; edges = self.edges; stripes = with_item self.stripes (stripe (key_of ask)) c.step.new.self }) c.requires.ready
    (ap (slice_get self.stripes.items) (sym is_number) ∙ here) c.requires.asked
    (record { worker = c.who.ensures.worker; rec = c.who.ensures.rec; hop_is = c.who.ensures.hop; now = refl; asked = refl })
    (ap (λ (es : List StripeEntry). length es) c.history.ensures.history)
    (subst (IsFragAnswerTo ask) (sym c.in_ok-answer.ensures.answer) (frag-kind _ _ _ ask))
    c.in_ok-answer.ensures.history c.step.ensures.keeps refl refl refl
    (sent_by _ _ _ _ _ (Some answer) octets c.in_ok-hop.hop relay c.requires.six refl c.in_ok-hop.ensures))
