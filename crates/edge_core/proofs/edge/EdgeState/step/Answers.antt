use Rattle.std.proofs.Common.{◌≡◌, ◌∷◌, ◌++◌, [], length, max, sym, ap, ◌∙◌, subst, arith, length-append}
use Rattle.std.specs.Option.{option_to_list, option_map}
use Rattle.octets.specs.declared.prefix.Prefix6.{Prefix6}
use Rattle.nat_model.specs.declared.entry.Entry.{Entry}
use Rattle.nat_model.specs.State.{Generation, NatState, NatStep, generation_in}
use Rattle.nat_model.proofs.NextGeneration.{nat-number}
use Rattle.nat_model.specs.Machine.{nat}
use Rattle.nat_model.specs.Sound.{IsSound}
use Rattle.edge_core.specs.Edge.{edge_in}
use Rattle.edge_core.specs.Used.{started, used_books}
use Rattle.edge_core.proofs.Entries.{IsKept, kept-more, kept-as, edge-kept, kept-edge, used_books-more, newer-in}
use Rattle.edge_core.proofs.edge.EdgeState.step.Goals as goal

pub invariant_of-self-2 : goal.invariant_of-self-2
invariant_of-self-2 g c =
    let view : Generation = record { rules = g.V.RuleView.rules c.args.view.now; dmr = g.V.RuleView.default_rule c.args.view.now; number = g.V.RuleView.number c.args.view.now } in
    let old = c.self.inside in
    let is = c.self.invariant in
    let entries = old.entries.items in
    let start = started old.prefix old.first old.kept in
    let books = used_books old.first old.later.items in
    let newer = c.in_ok-newer.newer in
    let entry : Entry = record { mark = record { who = c.args.who; seen = c.generation-seen.result; used = c.max-used.result }; now = c.args.now; ask = c.in_ok-asked.asked; answer = c.noted.result } in
    let kept : IsKept start books old.used old.machine.state entries = kept-edge (edge_in old) old.used is.keeps is.used in
    let uses : c.max-used.result ≡ max view.number old.used = omega (arith, c.max-used.ensures, c.generation-seen.ensures) in
    let step : nat old.machine.prefix old.machine.state (record { seen = view; now = c.args.now; place = old.machine.steps }) c.args.ask.now ≡ nat old.prefix old.machine.state (record { seen = view; now = c.args.now; place = length entries }) c.in_ok-asked.asked =
    λ i. nat (is.prefix i) old.machine.state (record { seen = view; now = c.args.now; place = is.counted i }) (sym c.in_ok-asked.ensures.same i) in
    let answered = c.noted.ensures ∙ c.in_ok-answer.ensures.answer ∙ ap (λ (s : NatStep). s.answer) step in
    let left = c.in_ok-answer.ensures.after ∙ ap (λ (s : NatStep). s.after) step in
    let grown = kept-more start books old.used old.machine.state c.step.new.self.state entries entry view (option_map generation_in newer) kept is.used c.generation-seen.ensures uses (newer-in newer view old.used c.in_ok-newer.ensures) answered left in
    let books_now = ap (used_books old.first) (c.keep.ensures ∙ ap (λ bs. bs ++ option_to_list newer) c.reserve.ensures.items) ∙ used_books-more old.first old.later.items newer in
    let entries_now = c.push_reserved.ensures.items ∙ ap (λ es. es ++ entry ∷ []) c.reserve-2.ensures.items in
    let all = kept-as start _ (used_books old.first c.keep.new.books.items) c.max-used.result c.step.new.self.state _ c.push_reserved.new.self.items books_now entries_now grown in
    let number = ap (λ (t : NatState). t.book.number) c.in_ok-answer.ensures.after ∙ nat-number old.machine.prefix old.machine.state (record { seen = view; now = c.args.now; place = old.machine.steps }) c.args.ask.now in
    let prefix = c.in_ok-answer.ensures.prefix ∙ is.prefix in
    let P : Prefix6 → Type 0 = λ p. IsSound p c.step.new.self.state in
    let generation : c.step.new.self.state.book.number ≡ c.max-used.result = omega (arith, number, is.used, c.max-used.ensures, c.generation-seen.ensures) in
    record {
      keeps = edge-kept start (used_books old.first c.keep.new.books.items) c.max-used.result c.step.new.self.state c.push_reserved.new.self.items all (subst P prefix c.step.ensures.sound) generation;
      used = generation;
      prefix = prefix;
      counted = omega (arith, c.in_ok-answer.ensures.steps, is.counted, ap length entries_now, length-append entries (entry ∷ []));
    }

pub returns-clause-keeps : goal.returns-clause-keeps
returns-clause-keeps g c = (invariant_of-self-2 g c).keeps
