use Rattle.std.proofs.Common.{◌≡◌, ◌<◌, sym, ◌∙◌, ap, subst, arith}
use Rattle.nat_model.specs.State.{Generation, NatState, NatMachine, generation_in, state_at}
use Rattle.nat_model.specs.Inside.{state_in}
use Rattle.nat_model.specs.Machine.{timed, renewed}
use Rattle.nat_model.specs.Sound.{IsSound}
use Rattle.nat_model.proofs.EachStep.{moves-newer, staying-same, generation-is, renewed-sound, timed-sound}
use Rattle.nat_model.proofs.machine.Machine.step_under_new_rules.Goals as goal

pub invariant_of-self-2 : goal.invariant_of-self-2
invariant_of-self-2 g c =
    let m = c.self.inside in
    let book = generation_in c.in_ok-book.book in
    let Below : NatMachine → Type 0 = λ x. x.state.book.number < g.V.RuleView.number c.args.view.now in
    let newer : m.book.generation < book.number = rw c.in_ok-book.ensures.generation (subst Below (sym c.self.view_is) c.requires.newer) in
    let stay = c.deref-2.ensures.value ∙ c.in_ok-bindings.ensures ∙ staying-same _ _ _ _ _ _ c.edge_of-old.ensures c.edge_of-new.ensures c.deref.ensures.value in
    let step = moves-newer m.prefix book (state_in m) c.args.now c.later-clock.result m.steps c.args.ask.now c.deref-2.result.now _ newer (omega arith) stay c.in_ok-bindings-2.ensures.moved in
    let P : NatState → Type 0 = λ s. IsSound m.prefix s in
    record {
      sound = subst P (ap (λ x. x.after) step) (timed-sound m.prefix (renewed m.prefix book (state_in m)) c.args.now m.steps c.args.ask.now (renewed-sound m.prefix book (state_in m) c.self.invariant.sound));
      early = omega arith;
      notes = c.in_ok-bindings-2.ensures.clock;
    }

pub returns-clause-answer : goal.returns-clause-answer
returns-clause-answer g c =
    let m = c.self.inside in
    let book = generation_in c.in_ok-book.book in
    let Below : NatMachine → Type 0 = λ x. x.state.book.number < g.V.RuleView.number c.args.view.now in
    let newer : m.book.generation < book.number = rw c.in_ok-book.ensures.generation (subst Below (sym c.self.view_is) c.requires.newer) in
    let stay = c.deref-2.ensures.value ∙ c.in_ok-bindings.ensures ∙ staying-same _ _ _ _ _ _ c.edge_of-old.ensures c.edge_of-new.ensures c.deref.ensures.value in
    let step = moves-newer m.prefix book (state_in m) c.args.now c.later-clock.result m.steps c.args.ask.now c.deref-2.result.now _ newer (omega arith) stay c.in_ok-bindings-2.ensures.moved in
    let seen : Generation = record { rules = g.V.RuleView.rules c.args.view.now; dmr = g.V.RuleView.default_rule c.args.view.now; number = g.V.RuleView.number c.args.view.now } in
    let same : book ≡ seen = generation-is c.in_ok-book.book seen c.in_ok-book.ensures.rules c.in_ok-book.ensures.dmr c.in_ok-book.ensures.generation in
    let G : Generation → Type 0 = λ b. c.in_ok-bindings-2.field-0.answer ≡ (timed m.prefix (renewed m.prefix b (state_in m)) c.args.now m.steps c.args.ask.now).answer in
    let P : NatMachine → Type 0 = λ x. c.in_ok-bindings-2.field-0.answer ≡ (timed x.prefix (renewed x.prefix seen x.state) c.args.now x.steps c.args.ask.now).answer in
    subst P c.self.view_is (subst G same (ap (λ x. x.answer) (sym step)))

pub returns-clause-after : goal.returns-clause-after
returns-clause-after g c =
    let m = c.self.inside in
    let book = generation_in c.in_ok-book.book in
    let Below : NatMachine → Type 0 = λ x. x.state.book.number < g.V.RuleView.number c.args.view.now in
    let newer : m.book.generation < book.number = rw c.in_ok-book.ensures.generation (subst Below (sym c.self.view_is) c.requires.newer) in
    let stay = c.deref-2.ensures.value ∙ c.in_ok-bindings.ensures ∙ staying-same _ _ _ _ _ _ c.edge_of-old.ensures c.edge_of-new.ensures c.deref.ensures.value in
    let step = moves-newer m.prefix book (state_in m) c.args.now c.later-clock.result m.steps c.args.ask.now c.deref-2.result.now _ newer (omega arith) stay c.in_ok-bindings-2.ensures.moved in
    let seen : Generation = record { rules = g.V.RuleView.rules c.args.view.now; dmr = g.V.RuleView.default_rule c.args.view.now; number = g.V.RuleView.number c.args.view.now } in
    let same : book ≡ seen = generation-is c.in_ok-book.book seen c.in_ok-book.ensures.rules c.in_ok-book.ensures.dmr c.in_ok-book.ensures.generation in
    let after : NatState = state_at book c.later-clock.result c.in_ok-bindings-2.field-0.bindings.items c.moved.new.notes.notes in
    let G : Generation → Type 0 = λ b. after ≡ (timed m.prefix (renewed m.prefix b (state_in m)) c.args.now m.steps c.args.ask.now).after in
    let P : NatMachine → Type 0 = λ x. after ≡ (timed x.prefix (renewed x.prefix seen x.state) c.args.now x.steps c.args.ask.now).after in
    subst P c.self.view_is (subst G same (ap (λ x. x.after) (sym step)))
