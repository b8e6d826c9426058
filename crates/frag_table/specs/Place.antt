-- Where the note of a key stands among all notes, those whose deadline has come among them.
use Rattle.std.specs.Prelude.{◌≡◌, ℕ, ◌<◌, ◌&&◌, Bool, true, false, List, length}
use Rattle.std.specs.List.{AllWithin, HoldsAt}
use Rattle.frag_table.specs.declared.key.FragKey.{FragKey}
use Rattle.frag_table.specs.declared.note.Note.{Note}
use Rattle.frag_table.specs.Frag.{is_live, same_key}

-- the note is the key's, and its deadline is still to come
abbrev pub is_note : ℕ → FragKey → Note → Bool
is_note clock key note = is_live clock note && same_key note.key key

-- none of the notes is the key's
abbrev pub NoNote : ℕ → FragKey → List Note → Type 0
NoNote clock key notes = AllWithin (λ note. is_note clock key note ≡ false) notes 0 (length notes)

-- the first note of the key stands there
pub record IsPlace (clock : ℕ) (key : FragKey) (notes : List Note) (at : ℕ) : Type 0 where
  pub within : at < length notes
  pub found : HoldsAt (λ note. is_note clock key note ≡ true) notes at
  pub first : AllWithin (λ note. is_note clock key note ≡ false) notes 0 at
