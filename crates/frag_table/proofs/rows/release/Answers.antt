use Rattle.std.proofs.Common.{length, sym, ap, ◌∙◌}
use Rattle.std.specs.Prelude.{◌==◌}
use Rattle.frag_table.specs.declared.answer.FragAnswer.TheVariants.{Noted, Released}
use Rattle.frag_table.proofs.EachRow.{release_is, released_none, released_some}
use Rattle.frag_table.proofs.rows.release.Goals as goal

pub returns-then-is_empty : goal.returns-then-is_empty
returns-then-is_empty c =
    let none = ap (λ held. length held == 0) (sym c.as_slice.ensures) ∙ sym c.is_empty.ensures ∙ c.if-is_empty.true in
    release_is c.args.arrival.clock c.args.key.now c.args.notes.now c.args.at c.args.ports _ c.set_ports-held.result Noted c.requires c.set_ports-held.ensures.held c.set_ports-held.ensures.after (released_none c.set_ports-held.result none)

pub returns-else-is_empty : goal.returns-else-is_empty
returns-else-is_empty c =
    let some = ap (λ held. length held == 0) (sym c.as_slice.ensures) ∙ sym c.is_empty.ensures ∙ c.if-is_empty.false in
    release_is c.args.arrival.clock c.args.key.now c.args.notes.now c.args.at c.args.ports _ c.set_ports-held.result (Released c.set_ports-held.result) c.requires c.set_ports-held.ensures.held c.set_ports-held.ensures.after (released_some c.set_ports-held.result some)
