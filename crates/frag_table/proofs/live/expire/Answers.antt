use Rattle.std.proofs.Common.{[], ◌∷◌, ◌++◌, cond, take, sym, ap, ◌∙◌, arith}
use Rattle.std.specs.List.{filter}
use Rattle.std.proofs.lemmas.Bool.{lt-ltb, le-ltb}
use Rattle.std.proofs.lemmas.List.{take_more}
use Rattle.std.proofs.lemmas.List.Edits.{length-remove}
use Rattle.std.proofs.lemmas.Option.{get_or_from_slice_get}
use Rattle.frag_table.specs.Frag.{is_live}
use Rattle.frag_table.proofs.LiveNotes.{filter_take_more, filter_remove, take_remove}
use Rattle.frag_table.proofs.live.expire.Goals as goal

pub loop-at-preserved-then-get-clock : goal.loop-at-preserved-then-get-clock
loop-at-preserved-then-get-clock c =
    let note = c.get.result.now in
    let notes = c.loop-at.notes in
    let at = c.loop-at.at in
    let clock = c.args.clock in
    let more = filter_take_more (is_live clock) notes at note c.get.ensures in
    let whole = take_more notes at note (omega (arith, c.len.ensures)) in
    let same = get_or_from_slice_get notes at note note c.get.ensures in (
      omega (arith, c.len.ensures),
      more ∙ ap (λ b. filter (is_live clock) (take at notes) ++ cond b (note ∷ []) []) (lt-ltb clock note.deadline c.if-get-clock.true) ∙ ap (λ ns. ns ++ note ∷ []) c.loop-at.invariant.1 ∙ sym (whole ∙ ap (λ n. take at notes ++ n ∷ []) same),
      c.loop-at.invariant.2,
    )

pub loop-at-preserved : goal.loop-at-preserved
loop-at-preserved c =
    let note = c.get.result.now in
    let notes = c.loop-at.notes in
    let at = c.loop-at.at in
    let clock = c.args.clock in
    let shorter = length-remove notes at (omega (arith, c.len.ensures)) in
    let passes = le-ltb clock note.deadline c.if-get-clock.false in
    rw c.remove.ensures (
      omega (arith, shorter, c.len.ensures),
      ap (filter (is_live clock)) (take_remove notes at) ∙ c.loop-at.invariant.1 ∙ sym (take_remove notes at),
      filter_remove (is_live clock) notes at note c.get.ensures passes ∙ c.loop-at.invariant.2,
    )
