-- The rules that an edge used, a book for each generation.
use Rattle.std.specs.Prelude.{ℕ, ◌<◌, ◌≤◌, List, ◌∷◌, map, IsSome}
use Rattle.std.specs.List.{All, AllPairs}
use Rattle.octets.specs.declared.prefix.Prefix6.{Prefix6}
use Rattle.rule_book.specs.declared.book.Book.{Book}
use Rattle.nat_model.specs.declared.binding.Binding.{Binding}
use Rattle.nat_model.specs.State.{Generation, generation_in}
use Rattle.nat_model.specs.History.{EdgeStart, book_of}

-- where the edge began
abbrev pub started : Prefix6 → Book → List Binding → EdgeStart
started prefix first kept = record { prefix = prefix; book = generation_in first; kept = kept }

-- the rules that were used: the first ones, and those of the later generations
abbrev pub used_books : Book → List Book → List Generation
used_books first later = generation_in first ∷ map generation_in later

-- there is one book for each generation, their numbers rise, and the greatest of them is this one
pub record AreUsed (books : List Generation) (used : ℕ) : Type 0 where
  pub rising : AllPairs (λ a b. a.number < b.number) books
  pub greatest : All (λ b. b.number ≤ used) books
  pub there : IsSome (book_of used books)
