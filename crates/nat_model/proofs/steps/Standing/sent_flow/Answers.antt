use Rattle.std.proofs.Common.{sym, ◌∙◌, ap, set}
use Rattle.rule_book.specs.Holder.{holder_in}
use Rattle.nat_model.specs.Binding.{refreshed}
use Rattle.nat_model.specs.Inside.{wish_in}
use Rattle.nat_model.specs.State.{generation_in, state_at}
use Rattle.nat_model.specs.Machine.{ends, with_bindings, sent_from}
use Rattle.nat_model.proofs.LastStep.{sent_flow-some}
use Rattle.nat_model.proofs.steps.Standing.sent_flow.Goals as goal

pub returns : goal.returns
returns c notes =
    let s = state_at (generation_in c.args.self.now.book.now) c.args.self.now.clock c.args.bindings.now.items notes in
    let some = c.in-Some.ensures.some (refreshed c.args.self.now.clock) in
    let h = holder_in c.args.self.now.edge in
    let after = set c.placed.new.bindings.items c.in-Some.placed.at (refreshed c.args.self.now.clock c.in-Some.placed.binding) in
    let sent = c.sent_from.ensures c.args.bindings.now.items notes ∙ ap (λ b. sent_from h s b c.args.far c.args.freed) c.refreshed-binding.ensures in
    rw c.refreshed-binding.ensures (sent_flow-some h s (wish_in c.args.wish) c.args.far c.args.freed _ some ∙ ap (λ answer. ends (with_bindings s after) answer) (sym sent))
