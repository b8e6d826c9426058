-- What is kept of fragments.
use Rattle.std.specs.Prelude.{ℕ, List}
use Rattle.frag_table.specs.declared.note.Note.{Note}

-- the greatest time that was seen, in microseconds, and the notes in the order in which they were made
pub record FragState : Type 0 where
  pub clock : ℕ
  pub notes : List Note
