-- The rules of each generation of a configuration: those of generation 0 after its first changes. A live change
-- is counted like any other.
use Rattle.std.specs.Prelude.{◌≡◌, ℕ, nat_le, List, [], ◌∷◌, take, length, if◌then◌else◌, Result, Ok, Err}
use Rattle.map_rules.specs.declared.rule.Rule.{Rule}
use Rattle.rule_book.specs.declared.book.Book.{Book}
use Rattle.rule_book.specs.Book.{rules_of, dmr_of, generation_of}
use Rattle.rule_book.specs.Change.{rules_after}
use Rattle.mapt_setup.specs.declared.moves.MoveLine.{MoveLine}
use Rattle.mapt_setup.specs.declared.setup.Setup.{Setup}
use Rattle.setup_tables.specs.declared.fault.SetupCause.TheVariants.{NoGeneration}
use Rattle.setup_tables.specs.declared.fault.SetupFault.{SetupFault}
use Rattle.setup_tables.specs.declared.fault.SetupFault.TheVariants.{Refused}
use Rattle.setup_tables.specs.Answer.{such, exactly}

-- rules after changes, one after the other
abbrev pub rules_after_all : List MoveLine → List Rule → List Rule
rules_after_all [] rules = rules
rules_after_all (move ∷ moves) rules = rules_after_all moves (rules_after move.change rules)

-- the rules of a generation: those after so many changes
abbrev pub rules_in : Setup → ℕ → List Rule
rules_in setup generation = rules_after_all (take generation setup.changes) (rules_of setup.book)

-- the rules of a generation; there is none above the number of changes
abbrev pub rules_at : Setup → ℕ → Result (List Rule) SetupFault
rules_at setup generation =
    if nat_le generation (length setup.changes) then Ok (rules_in setup generation) else Err (Refused NoGeneration generation)

-- the book of a generation has its rules and its number, and the one default mapping rule
pub record IsGeneration (setup : Setup) (generation : ℕ) (book : Book) : Type 0 where
  pub rules_are : rules_of book ≡ rules_in setup generation
  pub dmr_is : dmr_of book ≡ dmr_of setup.book
  pub number : generation_of book ≡ generation

-- the book of a generation, with these rules if it has any
abbrev pub with_rules : Setup → ℕ → Result (List Rule) SetupFault → Result Book SetupFault → Type 0
with_rules setup generation (Ok rules) = such (IsGeneration setup generation)
with_rules setup generation (Err fault) = exactly (Err fault)

abbrev pub book_at : Setup → ℕ → Result Book SetupFault → Type 0
book_at setup generation = with_rules setup generation (rules_at setup generation)
