-- How what each list of tables says makes what the octets say.
use Rattle.std.proofs.Common.{◌≡◌, ℕ, List, codes, Some, None, Result, Ok, Err, refl}
use Rattle.toml.specs.Data.{Members}
use Rattle.toml.specs.View.{table_view}
use Rattle.setup_tables.specs.declared.domain.Domain.{Domain}
use Rattle.setup_tables.specs.declared.rule.RuleLine.{RuleLine}
use Rattle.setup_tables.specs.declared.edge.EdgeLine.{EdgeLine}
use Rattle.setup_tables.specs.declared.forward.ForwardText.{ForwardText}
use Rattle.setup_tables.specs.declared.change.ChangeText.{ChangeText}
use Rattle.setup_tables.specs.declared.tables.Tables.{Tables}
use Rattle.setup_tables.specs.declared.fault.SetupCause.TheVariants.{NotToml, BadDomain, BadRule, BadEdge, BadForward, BadChange}
use Rattle.setup_tables.specs.declared.fault.SetupFault.{SetupFault}
use Rattle.setup_tables.specs.declared.fault.SetupFault.TheVariants.{Refused}
use Rattle.setup_tables.specs.Answer.{Gives, the}
use Rattle.setup_tables.specs.Keys.{tables_at}
use Rattle.setup_tables.specs.Domain.{IsDomain}
use Rattle.setup_tables.specs.Rule.{IsRule}
use Rattle.setup_tables.specs.Edge.{IsEdge}
use Rattle.setup_tables.specs.Forward.{IsForward}
use Rattle.setup_tables.specs.Change.{IsChange}
use Rattle.setup_tables.specs.Tables.{IsDocument, early_fault, listed, tables_of}
use Rattle.setup_tables.proofs.Stages.{stops, goes_on, passes, bars, same_of}
use Rattle.setup_tables.specs.Tables.{octets_tables}

abbrev domain_is : Members → Result Domain SetupFault → Type 0
domain_is document = the (IsDomain document) (Refused BadDomain 0)

abbrev lines_are : Members → Result (List RuleLine) SetupFault → Type 0
lines_are document = listed BadRule IsRule (tables_at (codes "rule") document)

abbrev edges_are : Members → Result (List EdgeLine) SetupFault → Type 0
edges_are document = listed BadEdge IsEdge (tables_at (codes "edge") document)

abbrev forwards_are : Members → Result (List ForwardText) SetupFault → Type 0
forwards_are document = listed BadForward IsForward (tables_at (codes "forward") document)

abbrev changes_are : Members → Result (List ChangeText) SetupFault → Type 0
changes_are document = listed BadChange IsChange (tables_at (codes "change") document)

pub bad_domain : (document : Members) (e : SetupFault) → Gives (same_of Domain) (Err e) (domain_is document) → Gives (same_of Tables) (Err e) (tables_of document)
unfolding tables_of
bad_domain document e h = stops (same_of Domain) (same_of Tables) _ _ e h

pub bad_rule : (document : Members) (domain : Domain) (e : SetupFault) → domain_is document (Ok domain) → Gives (same_of (List RuleLine)) (Err e) (lines_are document)
    → Gives (same_of Tables) (Err e) (tables_of document)
unfolding tables_of
bad_rule document domain e d h = goes_on (same_of Tables) _ _ domain (Err e) d (stops (same_of (List RuleLine)) (same_of Tables) _ _ e h)

-- what the tables of a document say
pub record Said (document : Members) (tables : Tables) : Type 0 where
  pub domain : domain_is document (Ok tables.domain)
  pub lines : lines_are document (Ok tables.lines)
  pub edges : edges_are document (Ok tables.edges)
  pub forwards : forwards_are document (Ok tables.forwards)
  pub changes : changes_are document (Ok tables.changes)

pub bad_edge : (document : Members) (domain : Domain) (lines : List RuleLine) (e : SetupFault) → domain_is document (Ok domain) → lines_are document (Ok lines)
    → Gives (same_of (List EdgeLine)) (Err e) (edges_are document) → Gives (same_of Tables) (Err e) (tables_of document)
unfolding tables_of
bad_edge document domain lines e d l h =
    goes_on (same_of Tables) _ _ domain (Err e) d (goes_on (same_of Tables) _ _ lines (Err e) l (stops (same_of (List EdgeLine)) (same_of Tables) _ _ e h))

pub bad_forward : (document : Members) (domain : Domain) (lines : List RuleLine) (edges : List EdgeLine) (e : SetupFault) → domain_is document (Ok domain) → lines_are document (Ok lines) → edges_are document (Ok edges)
    → Gives (same_of (List ForwardText)) (Err e) (forwards_are document) → Gives (same_of Tables) (Err e) (tables_of document)
unfolding tables_of
bad_forward document domain lines edges e d l g h =
    goes_on (same_of Tables) _ _ domain (Err e) d (goes_on (same_of Tables) _ _ lines (Err e) l (goes_on (same_of Tables) _ _ edges (Err e) g (stops (same_of (List ForwardText)) (same_of Tables) _ _ e h)))

pub bad_change : (document : Members) (domain : Domain) (lines : List RuleLine) (edges : List EdgeLine) (forwards : List ForwardText) (e : SetupFault) → domain_is document (Ok domain) → lines_are document (Ok lines) → edges_are document (Ok edges) → forwards_are document (Ok forwards)
    → Gives (same_of (List ChangeText)) (Err e) (changes_are document) → Gives (same_of Tables) (Err e) (tables_of document)
unfolding tables_of
bad_change document domain lines edges forwards e d l g f h =
    goes_on (same_of Tables) _ _ domain (Err e) d (goes_on (same_of Tables) _ _ lines (Err e) l (goes_on (same_of Tables) _ _ edges (Err e) g (goes_on (same_of Tables) _ _ forwards (Err e) f (stops (same_of (List ChangeText)) (same_of Tables) _ _ e h))))

pub all_said : (document : Members) (tables : Tables) → Said document tables → tables_of document (Ok tables)
unfolding tables_of
all_said document tables s =
    goes_on (same_of Tables) _ _ tables.domain (Ok tables) s.domain (goes_on (same_of Tables) _ _ tables.lines (Ok tables) s.lines (goes_on (same_of Tables) _ _ tables.edges (Ok tables) s.edges (goes_on (same_of Tables) _ _ tables.forwards (Ok tables) s.forwards (goes_on (same_of Tables) _ _ tables.changes (Ok tables) s.changes refl))))

-- ---- the octets

pub no_document : (octets : List ℕ) (e : SetupFault) → Gives table_view (Err e) (the (IsDocument octets) (Refused NotToml 0)) → Gives (same_of Tables) (Err e) (octets_tables octets)
unfolding octets_tables
no_document octets e h = stops table_view (same_of Tables) _ _ e h

pub early : (octets : List ℕ) (document : Members) (e : SetupFault) → IsDocument octets document → early_fault document ≡ Some e → Gives (same_of Tables) (Err e) (octets_tables octets)
unfolding octets_tables
early octets document e d h = goes_on (same_of Tables) _ _ document (Err e) d (bars (same_of Tables) _ _ e h)

pub whole : (octets : List ℕ) (document : Members) (r : Result Tables SetupFault) → IsDocument octets document → early_fault document ≡ None
    → Gives (same_of Tables) r (tables_of document) → Gives (same_of Tables) r (octets_tables octets)
unfolding octets_tables
whole octets document r d none h = goes_on (same_of Tables) _ _ document r d (passes (same_of Tables) _ _ r none h)
