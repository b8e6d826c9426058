use Rattle.rule_book.specs.Book.{rules_of, dmr_of}
use Rattle.mapt_setup.proofs.Moving.{accepted_take}
use Rattle.mapt_setup.proofs.setup.Setup.book.Goals as goal

pub book_after_all-requires-clause-accepted : goal.book_after_all-requires-clause-accepted
book_after_all-requires-clause-accepted c =
    let book = c.args.self.now.book in
    rw c.as_slice-changes.ensures (accepted_take (dmr_of book) (rules_of book) c.args.self.now.changes c.args.generation c.requires.changes.accepted)
