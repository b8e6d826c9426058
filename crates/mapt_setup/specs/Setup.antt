-- What the octets of a configuration set up, or why they are refused: the stages in the order in which
-- their causes are tested.
use Rattle.std.specs.Prelude.{ℕ, List, Result, Ok}
use Rattle.rule_book.specs.declared.book.Book.{Book}
use Rattle.rule_book.specs.Book.{rules_of, dmr_of}
use Rattle.setup_tables.specs.declared.origin.Given.{Given}
use Rattle.setup_tables.specs.declared.tables.Tables.{Tables}
use Rattle.mapt_setup.specs.declared.setup.Setup.{Setup}
use Rattle.setup_tables.specs.declared.fault.SetupCause.TheVariants.{RuleShape}
use Rattle.setup_tables.specs.declared.fault.SetupFault.{SetupFault}
use Rattle.setup_tables.specs.Answer.{◌>>=◌, each, barring, exactly}
use Rattle.setup_tables.specs.Origin.{given_by}
use Rattle.setup_tables.specs.Tables.{octets_tables}
use Rattle.mapt_setup.specs.Shapes.{HasParts, BreaksShape, book_of}
use Rattle.mapt_setup.specs.Crowd.{edge_fault}
use Rattle.mapt_setup.specs.Claims.{forwards_of}
use Rattle.mapt_setup.specs.Moves.{changes_of}

-- the book of generation 0, by the default mapping rule and the lines of the rules
unfoldable pub first_book : Given → Result Book SetupFault → Type 0
first_book given = do
  rules ← each RuleShape HasParts BreaksShape given.lines
  book_of rules given.dmr

-- what tables set up
unfoldable pub tables_setup : Tables → Result Setup SetupFault → Type 0
tables_setup tables = do
  given ← exactly (given_by tables.domain.origin tables.lines)
  book ← first_book given
  forwards ← barring (edge_fault tables.edges given.dmr) (forwards_of (rules_of book) tables.edges tables.forwards)
  changes ← changes_of (dmr_of book) (rules_of book) tables.changes
  exactly (Ok (record {
    book = book;
    relay = tables.domain.required.relay;
    mtus = tables.domain.required.mtus;
    access = tables.domain.access;
    core = tables.domain.core;
    edges = tables.edges;
    forwards = forwards;
    changes = changes;
  }))

-- what octets set up
unfoldable pub setup_of : List ℕ → Result Setup SetupFault → Type 0
setup_of octets = do
  tables ← octets_tables octets
  tables_setup tables
