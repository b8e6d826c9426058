use Rattle.std.proofs.Common.{[], ◌∷◌, ◌++◌, cond, length, take, ap, ◌∙◌, arith, length-append}
use Rattle.std.specs.List.{filter}
use Rattle.std.proofs.lemmas.Bool.{lt-ltb, le-ltb}
use Rattle.frag_table.specs.Frag.{is_live}
use Rattle.frag_table.proofs.LiveNotes.{filter_take_more}
use Rattle.frag_table.proofs.live.count.Goals as goal
use Rattle.frag_table.proofs.live.count.Goals.{then-get-clock, else-get-clock}

pub loop-at-preserved : goal.loop-at-preserved
loop-at-preserved c =
    let note = c.get.result.now in
    let clock = c.args.clock in
    let earlier = filter (is_live clock) (take c.loop-at.at c.args.notes.now) in
    let more = filter_take_more (is_live clock) c.args.notes.now c.loop-at.at note c.get.ensures in
    elim c.if-get-clock.branch [
      | then-get-clock w ↦
          let sum = ap length (more ∙ ap (λ b. earlier ++ cond b (note ∷ []) []) (lt-ltb clock note.deadline w.if-get-clock.true)) ∙ length-append earlier (note ∷ []) in
          (omega (arith, w.count-is), omega (arith, sum, w.count-is, c.loop-at.invariant.1))
      | else-get-clock w ↦
          let sum = ap length (more ∙ ap (λ b. earlier ++ cond b (note ∷ []) []) (le-ltb clock note.deadline w.if-get-clock.false)) ∙ length-append earlier [] in
          (omega (arith, w.count-is), omega (arith, sum, w.count-is, c.loop-at.invariant.1))
    ]
