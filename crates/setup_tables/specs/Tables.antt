-- What the tables of a configuration say, before any two of them are compared.
use Rattle.std.specs.Prelude.{◌≡◌, ℕ, List, codes, Bool, false, ◌||◌, nat_lt, length, if◌then◌else◌, Option, Some, None, Result, Ok, Err, IsUtf8}
use Rattle.toml.specs.Data.{Data, Members}
use Rattle.toml.specs.Parse.{parse_document}
use Rattle.setup_tables.specs.declared.tables.Tables.{Tables}
use Rattle.setup_tables.specs.declared.fault.SetupCause.{SetupCause}
use Rattle.setup_tables.specs.declared.fault.SetupCause.TheVariants.{NotToml, TooMany, BadDomain, BadRule, BadEdge, BadForward, BadChange}
use Rattle.setup_tables.specs.declared.fault.SetupFault.{SetupFault}
use Rattle.setup_tables.specs.declared.fault.SetupFault.TheVariants.{Refused}
use Rattle.setup_tables.specs.Keys.{tables_at}
use Rattle.setup_tables.specs.Answer.{◌>>=◌, the, each, HasNone, barring, exactly}
use Rattle.setup_tables.specs.Domain.{IsDomain}
use Rattle.setup_tables.specs.Rule.{IsRule}
use Rattle.setup_tables.specs.Edge.{IsEdge}
use Rattle.setup_tables.specs.Forward.{IsForward}
use Rattle.setup_tables.specs.Change.{IsChange}

-- the octets are a TOML document of these members
abbrev pub IsDocument : List ℕ → Members → Type 0
IsDocument octets document = IsUtf8 octets × (parse_document octets ≡ Some document)

-- a list of tables has more than so many
abbrev pub is_long : ℕ → Option (List Data) → Bool
is_long most None = false
is_long most (Some tables) = nat_lt most (length tables)

-- more than 256 rules, edges or forwards, or more than 64 changes
abbrev pub has_too_many : Members → Bool
has_too_many document =
    is_long 256 (tables_at (codes "rule") document)
    || (is_long 256 (tables_at (codes "edge") document)
    || (is_long 256 (tables_at (codes "forward") document)
    || is_long 64 (tables_at (codes "change") document)))

-- what is told before any table is read
abbrev pub early_fault : Members → Option SetupFault
early_fault document = if has_too_many document then Some (Refused TooMany 0) else None

-- what each table says, where there is a list of tables
abbrev pub listed : {A : Type 0} → SetupCause → (Data → A → Type 0) → Option (List Data) → Result (List A) SetupFault → Type 0
listed cause Is None = exactly (Err (Refused cause 0))
listed cause Is (Some tables) = each cause Is (HasNone Is) tables

-- what the tables of a document say
unfoldable pub tables_of : Members → Result Tables SetupFault → Type 0
tables_of document = do
  domain ← the (IsDomain document) (Refused BadDomain 0)
  lines ← listed BadRule IsRule (tables_at (codes "rule") document)
  edges ← listed BadEdge IsEdge (tables_at (codes "edge") document)
  forwards ← listed BadForward IsForward (tables_at (codes "forward") document)
  changes ← listed BadChange IsChange (tables_at (codes "change") document)
  exactly (Ok (record {
    domain = domain;
    lines = lines;
    edges = edges;
    forwards = forwards;
    changes = changes;
  }))

-- what the tables of octets say
unfoldable pub octets_tables : List ℕ → Result Tables SetupFault → Type 0
octets_tables octets = do
  document ← the (IsDocument octets) (Refused NotToml 0)
  barring (early_fault document) (tables_of document)
