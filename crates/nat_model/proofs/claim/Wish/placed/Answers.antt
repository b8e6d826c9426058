use Rattle.std.proofs.Common.{sym, ◌∙◌, ap, ◌++◌, ◌∷◌, [], rules}
use Rattle.std.specs.List.{position}
use Rattle.rule_book.specs.Holder.{holder_in}
use Rattle.nat_model.specs.Binding.{is_of_host}
use Rattle.nat_model.specs.Claim.{claimed_port}
use Rattle.nat_model.specs.Inside.{wish_in}
use Rattle.nat_model.proofs.LastStep.{bound-at, bound-claimed, bound-none}
use Rattle.nat_model.proofs.claim.Wish.placed.Goals as goal

pub returns-in-Some-clause-some : goal.returns-in-Some-clause-some
returns-in-Some-clause-some c change =
    let place = ap (λ xs. position (is_of_host c.args.self.proto c.args.self.near) xs) (sym c.deref.ensures.value) ∙ sym c.place_of_host.ensures ∙ c.in-Some.is in
    bound-at (holder_in c.args.edge.now) c.args.clock (wish_in c.args.self) change c.args.bindings.now.items c.in-Some.at c.index-binding.result.now place c.index-binding.ensures

pub returns-in_default-claimed_port-clause-none : goal.returns-in_default-claimed_port-clause-none
returns-in_default-claimed_port-clause-none c change =
    let place = ap (λ xs. position (is_of_host c.args.self.proto c.args.self.near) xs) (sym c.deref.ensures.value) ∙ sym c.place_of_host.ensures ∙ c.in_default.is in
    let port = ap (λ xs. claimed_port (holder_in c.args.edge.now) (wish_in c.args.self) xs) (sym c.deref-2.ensures.value) ∙ sym c.claimed_port.ensures ∙ c.in_default-claimed_port.is in
    bound-none (holder_in c.args.edge.now) c.args.clock (wish_in c.args.self) change c.args.bindings.now.items place port

pub returns-clause-some : goal.returns-clause-some
returns-clause-some c change =
    let bs = c.args.bindings.now.items in
    let place = ap (λ xs. position (is_of_host c.args.self.proto c.args.self.near) xs) (sym c.deref.ensures.value) ∙ sym c.place_of_host.ensures ∙ c.in_default.is in
    let port = ap (λ xs. claimed_port (holder_in c.args.edge.now) (wish_in c.args.self) xs) (sym c.deref-2.ensures.value) ∙ sym c.claimed_port.ensures ∙ c.in-Some-claimed_port.is in
    rw c.claimed-binding.ensures (bound-claimed (holder_in c.args.edge.now) c.args.clock (wish_in c.args.self) change bs c.push_reserved.new.self.items c.in-Some-claimed_port.port c.len-at.result place port (c.push_reserved.ensures.items ∙ ap (λ b. bs ++ b ∷ []) c.claimed-binding.ensures) (search rules))
