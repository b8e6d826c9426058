use Rattle.rule_book.specs.Book.{rules_of, dmr_of}
use Rattle.mapt_setup.proofs.Moving.{Follows}
use Rattle.mapt_setup.proofs.moves.book_after_all.Given as goal

abbrev pub invariant-loop-i : goal.invariant-loop-i
invariant-loop-i l = Follows (dmr_of l.book) (rules_of l.book) l.changes l.i l.last
