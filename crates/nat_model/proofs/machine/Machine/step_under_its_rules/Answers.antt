use Rattle.std.proofs.Common.{◌≡◌, sym, ap, subst, arith}
use Rattle.nat_model.specs.State.{NatState, NatMachine, generation_in, state_at}
use Rattle.nat_model.specs.Inside.{state_in}
use Rattle.nat_model.specs.Machine.{timed}
use Rattle.nat_model.specs.Sound.{IsSound}
use Rattle.nat_model.proofs.EachStep.{moves, timed-sound}
use Rattle.nat_model.proofs.machine.Machine.step_under_its_rules.Goals as goal

pub invariant_of-self-2 : goal.invariant_of-self-2
invariant_of-self-2 c =
    let m = c.self.inside in
    let step = moves m.prefix (state_in m) c.args.now c.later-clock.result m.steps c.args.ask.now c.deref.result.now _ (omega arith) c.deref.ensures.value c.in_ok-bindings.ensures.moved in
    let P : NatState → Type 0 = λ s. IsSound m.prefix s in
    record {
      sound = subst P (ap (λ x. x.after) step) (timed-sound m.prefix (state_in m) c.args.now m.steps c.args.ask.now c.self.invariant.sound);
      early = omega arith;
      notes = c.in_ok-bindings.ensures.clock;
    }

pub returns-clause-answer : goal.returns-clause-answer
returns-clause-answer c =
    let m = c.self.inside in
    let step = moves m.prefix (state_in m) c.args.now c.later-clock.result m.steps c.args.ask.now c.deref.result.now _ (omega arith) c.deref.ensures.value c.in_ok-bindings.ensures.moved in
    let P : NatMachine → Type 0 = λ x. c.in_ok-bindings.field-0.answer ≡ (timed x.prefix x.state c.args.now x.steps c.args.ask.now).answer in
    subst P c.self.view_is (ap (λ x. x.answer) (sym step))

pub returns-clause-after : goal.returns-clause-after
returns-clause-after c =
    let m = c.self.inside in
    let step = moves m.prefix (state_in m) c.args.now c.later-clock.result m.steps c.args.ask.now c.deref.result.now _ (omega arith) c.deref.ensures.value c.in_ok-bindings.ensures.moved in
    let P : NatMachine → Type 0 = λ x. state_at (generation_in m.book) c.later-clock.result c.in_ok-bindings.field-0.bindings.items c.moved.new.notes.notes ≡ (timed x.prefix x.state c.args.now x.steps c.args.ask.now).after in
    subst P c.self.view_is (ap (λ x. x.after) (sym step))
