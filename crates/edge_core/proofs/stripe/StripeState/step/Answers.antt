use Rattle.std.proofs.Common.{◌≡◌, length, sym, ap, ◌∙◌, arith}
use Rattle.frag_table.specs.Frag.{frag}
use Rattle.frag_table.specs.declared.ask.FragAsk.{FragAsk}
use Rattle.nat_model.specs.declared.stripe.StripeEntry.{StripeEntry}
use Rattle.edge_core.proofs.Stripes.{stripe-more}
use Rattle.edge_core.proofs.stripe.StripeState.step.Goals as goal

pub invariant_of-self-2 : goal.invariant_of-self-2
invariant_of-self-2 c =
    let old = c.self.inside in
    let entry : StripeEntry = record { who = c.args.who; now = c.args.now; ask = c.in_ok-asked.asked; answer = c.noted.result } in
    let place : c.len-place.result ≡ length old.entries.items = omega (arith, c.len-place.ensures, c.reserve.ensures.len, old.entries.ok.0) in
    let same_ask = sym c.in_ok-asked.ensures.same in
    let answered = c.noted.ensures ∙ c.in_ok-answer.ensures.answer ∙ ap (λ (a : FragAsk). (frag old.table c.args.now c.len-place.result a).answer) same_ask in
    let left = c.in_ok-answer.ensures.after ∙ ap (λ (a : FragAsk). (frag old.table c.args.now c.len-place.result a).after) same_ask in
    let both = stripe-more old.entries.items entry old.table c.step.new.self c.len-place.result c.self.invariant.good c.self.invariant.replays place answered left in
    rw (c.push_reserved.ensures.items, c.reserve.ensures.items) (record { good = both.0; replays = both.1 })

pub returns-clause-keeps : goal.returns-clause-keeps
returns-clause-keeps c = invariant_of-self-2 c
