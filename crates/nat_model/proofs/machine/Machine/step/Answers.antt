use Rattle.std.proofs.Common.{subst}
use Rattle.nat_model.specs.State.{Generation, NatMachine}
use Rattle.nat_model.specs.Sound.{IsSound}
use Rattle.nat_model.proofs.EachStep.{sound-after, renewed-sound, timed-sound}
use Rattle.nat_model.proofs.machine.Machine.step.Goals as goal

pub returns-then-generation-clause-sound : goal.returns-then-generation-clause-sound
returns-then-generation-clause-sound g c =
    let old : NatMachine = c.args.self.now in
    let seen : Generation = record { rules = g.V.RuleView.rules c.args.view.now; dmr = g.V.RuleView.default_rule c.args.view.now; number = g.V.RuleView.number c.args.view.now } in
    let P : NatMachine → Type 0 = λ m. IsSound m.prefix m.state in
    let before : IsSound old.prefix old.state = subst P c.self.view_is c.self.invariant.sound in
    let step = c.step_under_new_rules.ensures in
    sound-after c.step_under_new_rules.result old c.step_under_new_rules.new.self _ before (timed-sound old.prefix _ c.args.now old.steps c.args.ask.now (renewed-sound old.prefix seen old.state before)) step.after step.prefix step.err

pub returns-else-generation-clause-sound : goal.returns-else-generation-clause-sound
returns-else-generation-clause-sound g c =
    let old : NatMachine = c.args.self.now in
    let P : NatMachine → Type 0 = λ m. IsSound m.prefix m.state in
    let before : IsSound old.prefix old.state = subst P c.self.view_is c.self.invariant.sound in
    let step = c.step_under_its_rules.ensures in
    sound-after c.step_under_its_rules.result old c.step_under_its_rules.new.self _ before (timed-sound old.prefix old.state c.args.now old.steps c.args.ask.now before) step.after step.prefix step.err
