-- What a book shows.
use Rattle.std.specs.Prelude.{ℕ, List}
use Rattle.map_rules.specs.declared.rule.Rule.{Rule}
use Rattle.map_rules.specs.declared.dmr.Dmr.{Dmr}
use Rattle.rule_book.specs.declared.book.Book.{Book}

-- the rules in their order
abbrev pub rules_of : Book → List Rule
rules_of book = book.rules

-- the default mapping rule
abbrev pub dmr_of : Book → Dmr
dmr_of book = book.dmr

-- the number of the generation, from 0
abbrev pub generation_of : Book → ℕ
generation_of book = book.generation
