use Rattle.std.proofs.Common.{sym, ◌∙◌, ap}
use Rattle.rule_book.specs.Holder.{holder_in}
use Rattle.nat_model.specs.Inside.{wish_in}
use Rattle.nat_model.specs.State.{generation_in, state_at}
use Rattle.nat_model.specs.Machine.{ends}
use Rattle.nat_model.proofs.LastStep.{sent_error-none, sent_error-at}
use Rattle.nat_model.proofs.steps.Standing.sent_error.Goals as goal

pub returns-in_default : goal.returns-in_default
returns-in_default c notes =
    rw c.refused.ensures (sent_error-none (holder_in c.args.self.now.edge) (state_at (generation_in c.args.self.now.book.now) c.args.self.now.clock c.args.bindings.now notes) (wish_in c.args.wish) c.args.far c.args.freed (sym c.place_of_host.ensures ∙ c.in_default.is))

pub returns : goal.returns
returns c notes =
    let h = holder_in c.args.self.now.edge in
    let s = state_at (generation_in c.args.self.now.book.now) c.args.self.now.clock c.args.bindings.now notes in
    sent_error-at h s (wish_in c.args.wish) c.args.far c.args.freed c.in-Some.at _ (sym c.place_of_host.ensures ∙ c.in-Some.is) ∙ ap (λ answer. ends s answer) (sym (c.sent_from.ensures c.args.bindings.now notes))
