use Rattle.std.proofs.Common.{sym, ◌∙◌, ap, subst, ◌≤◌}
use Rattle.std.specs.Option.{option_map}
use Rattle.rule_book.specs.Holder.{holder_in}
use Rattle.frag_table.specs.Fragment.{frag_ask}
use Rattle.frag_table.specs.State.{FragState}
use Rattle.frag_table.specs.Frag.{frag}
use Rattle.nat_model.specs.State.{generation_in, state_at}
use Rattle.nat_model.specs.Machine.{gathered, told}
use Rattle.nat_model.proofs.Notes.{gathered-told, frag-clock}
use Rattle.nat_model.proofs.steps.Standing.gathered.Goals as goal

pub returns-clause-gathered : goal.returns-clause-gathered
returns-clause-gathered c =
    let h = holder_in c.args.self.now.edge in
    let book = generation_in c.args.self.now.book.now in
    let clock = c.args.self.now.clock in
    let bs = c.args.bindings.now.items in
    let t = c.args.notes.now in
    let ask = c.args.ask.now in
    let f = frag_ask c.in-Some.fragment in
    let step = frag t clock c.args.place f in
    ap (λ o. gathered h (state_at book clock bs t.notes) c.args.place ask o) (sym c.fragment_of.ensures ∙ ap (option_map frag_ask) c.in-Some.is)
    ∙ gathered-told h book clock bs c.args.place ask t f c.requires.notes
    ∙ ap (λ (after : FragState). told h (state_at book clock bs after.notes) ask step.answer) (sym c.in_ok-answer.ensures.after)
    ∙ ap (λ answer. told h (state_at book clock bs c.take.new.self.notes) ask answer) (sym c.in_ok-answer.ensures.answer)
    ∙ c.told.ensures c.take.new.self.notes

pub returns-clause-clock : goal.returns-clause-clock
returns-clause-clock c =
    let P : FragState → Type 0 = λ s. s.clock ≤ c.args.self.now.clock in
    subst P (sym c.in_ok-answer.ensures.after) (frag-clock c.args.notes.now c.args.self.now.clock c.args.place (frag_ask c.in-Some.fragment) c.requires.notes)
