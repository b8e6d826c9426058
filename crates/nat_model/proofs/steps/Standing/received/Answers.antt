use Rattle.std.proofs.Common.{sym, ◌∙◌, ap}
use Rattle.std.specs.List.{position}
use Rattle.nat_model.specs.Binding.{is_of_port}
use Rattle.nat_model.specs.Inside.{remote_in}
use Rattle.nat_model.specs.State.{generation_in, state_at}
use Rattle.nat_model.proofs.LastStep.{received-none, received-at}
use Rattle.nat_model.proofs.steps.Standing.received.Goals as goal

pub returns-in_default : goal.returns-in_default
returns-in_default c notes =
    let place = ap (λ xs. position (is_of_port c.args.inbound.proto c.args.inbound.ports.dst) xs) (sym c.deref.ensures.value) ∙ sym c.place_of_port.ensures ∙ c.in_default.is in
    rw c.refused.ensures (received-none (state_at (generation_in c.args.self.now.book.now) c.args.self.now.clock c.args.bindings.now.items notes) c.args.inbound.fault c.args.inbound.proto (record { ports = c.args.inbound.ports; freed = c.args.freed }) (remote_in c.args.remote) place)

pub returns : goal.returns
returns c notes =
    let place = ap (λ xs. position (is_of_port c.args.inbound.proto c.args.inbound.ports.dst) xs) (sym c.deref.ensures.value) ∙ sym c.place_of_port.ensures ∙ c.in-Some.is in
    rw c.entered.ensures (received-at (state_at (generation_in c.args.self.now.book.now) c.args.self.now.clock c.args.bindings.now.items notes) c.args.inbound.fault c.args.inbound.proto (record { ports = c.args.inbound.ports; freed = c.args.freed }) (remote_in c.args.remote) c.in-Some.at c.index-binding.result.now place c.index-binding.ensures)
