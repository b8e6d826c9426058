use Rattle.rule_book.specs.Book.{rules_of, dmr_of}
use Rattle.mapt_setup.proofs.Moving.{Stands}
use Rattle.mapt_setup.proofs.moves.moved.Given as goal

abbrev pub invariant-loop-i : goal.invariant-loop-i
invariant-loop-i l = Stands (dmr_of l.book) (rules_of l.book) l.texts l.i l.last l.changes
