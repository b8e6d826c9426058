use Rattle.std.proofs.lemmas.Result.{err_from_is_err_and}
use Rattle.rule_book.specs.Book.{rules_of, dmr_of}
use Rattle.mapt_setup.specs.declared.moves.MoveLine.{MoveLine}
use Rattle.mapt_setup.specs.Moves.{IsMove}
use Rattle.mapt_setup.proofs.Moving.{stands_bad, stands_next, stands_end, stands_refused, no_change, accepted_move}
use Rattle.mapt_setup.proofs.moves.moved.Goals as goal

pub returns-in_default : goal.returns-in_default
returns-in_default c =
    stands_bad _ _ c.args.texts.now c.loop-i.i c.loop-i.last c.loop-i.changes c.index-texts-i.result c.loop-i-test.true c.index-texts-i.is c.loop-i.invariant (no_change _ _ c.index-texts-i.result c.in_default.ensures.none)

pub returns-in_err-next : goal.returns-in_err-next
returns-in_err-next c =
    let p = err_from_is_err_and c.from_residual-in_err-next.result c.from_residual-in_err-next.ensures.1 in
    rw (p.1, p.2) (stands_refused _ _ c.args.texts.now c.loop-i.i c.loop-i.last c.loop-i.changes c.index-texts-i.result c.in-Some.change _ c.loop-i-test.true c.index-texts-i.is c.loop-i.invariant c.in-Some.ensures.found c.in_err-next.ensures.refused)

pub loop-i-preserved : goal.loop-i-preserved
loop-i-preserved c =
    let move : MoveLine = record { at = c.index-texts-i.result.at; live = c.index-texts-i.result.live; change = c.in-Some.change } in
    let is : IsMove (rules_of c.loop-i.last) (dmr_of c.args.book.now) c.index-texts-i.result move = accepted_move _ _ c.args.texts.now c.loop-i.i c.loop-i.last c.loop-i.changes c.index-texts-i.result c.in-Some.change c.loop-i.invariant c.in-Some.ensures.found c.in_ok-next.ensures.accepted in
    rw c.in_ok-push.ensures.ok (stands_next _ _ c.args.texts.now c.loop-i.i c.loop-i.last c.in_ok-next.next c.loop-i.changes c.index-texts-i.result move c.loop-i-test.true c.index-texts-i.is c.loop-i.invariant is c.in_ok-next.ensures.rules c.in_ok-next.ensures.dmr c.in_ok-next.ensures.generation)

pub returns : goal.returns
returns c = stands_end _ _ c.args.texts.now c.loop-i.i c.loop-i.last c.loop-i.changes c.loop-i-test.false c.loop-i.invariant
