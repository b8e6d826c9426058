-- How the stages of a setup make the whole.
use Rattle.std.proofs.Common.{◌≡◌, ℕ, List, Vec, Global, Some, None, Result, Ok, Err, refl}
use Rattle.map_rules.specs.declared.rule.Rule.{Rule}
use Rattle.map_rules.specs.declared.dmr.Dmr.{Dmr}
use Rattle.rule_book.specs.declared.book.Book.{Book}
use Rattle.rule_book.specs.Book.{rules_of, dmr_of}
use Rattle.setup_tables.specs.declared.edge.EdgeLine.{EdgeLine}
use Rattle.setup_tables.specs.declared.forward.ForwardText.{ForwardText}
use Rattle.mapt_setup.specs.declared.forward.ForwardLine.{ForwardLine}
use Rattle.setup_tables.specs.declared.change.ChangeText.{ChangeText}
use Rattle.mapt_setup.specs.declared.moves.MoveLine.{MoveLine}
use Rattle.setup_tables.specs.declared.origin.Given.{Given}
use Rattle.setup_tables.specs.declared.tables.Tables.{Tables}
use Rattle.mapt_setup.specs.declared.setup.Setup.{Setup}
use Rattle.setup_tables.specs.declared.fault.SetupCause.TheVariants.{RuleShape, ForwardEdge}
use Rattle.setup_tables.specs.declared.fault.SetupFault.{SetupFault}
use Rattle.setup_tables.specs.Answer.{Gives, HasNone, exactly, each}
use Rattle.setup_tables.specs.Origin.{given_by}
use Rattle.mapt_setup.specs.Shapes.{HasParts, BreaksShape, book_of}
use Rattle.mapt_setup.specs.Crowd.{edge_fault}
use Rattle.mapt_setup.specs.Claims.{IsAtEdge, forward_fault, forwards_of}
use Rattle.mapt_setup.specs.Moves.{order_fault, moves_from, changes_of}
use Rattle.mapt_setup.specs.Setup.{first_book, tables_setup, setup_of}
use Rattle.setup_tables.proofs.Stages.{stops, goes_on, passes, bars, same_of}
use Rattle.setup_tables.specs.Tables.{octets_tables}

abbrev pub rules_in : Vec Rule Global → List Rule
rules_in v = v.items

-- ---- the book of generation 0

pub bad_shape : (given : Given) (e : SetupFault) → Gives rules_in (Err e) (each RuleShape HasParts BreaksShape given.lines) → Gives (same_of Book) (Err e) (first_book given)
unfolding first_book
bad_shape given e h = stops rules_in (same_of Book) _ _ e h

pub shaped_book : (given : Given) (rules : List Rule) (r : Result Book SetupFault) → each RuleShape HasParts BreaksShape given.lines (Ok rules) → Gives (same_of Book) r (book_of rules given.dmr) → Gives (same_of Book) r (first_book given)
unfolding first_book
shaped_book given rules r rs h = goes_on (same_of Book) _ _ rules r rs h

-- ---- forwards and changes

pub bad_place : (rules : List Rule) (edges : List EdgeLine) (texts : List ForwardText) (e : SetupFault)
    → Gives (same_of (List ForwardLine)) (Err e) (each ForwardEdge (IsAtEdge edges) (HasNone (IsAtEdge edges)) texts)
    → Gives (same_of (List ForwardLine)) (Err e) (forwards_of rules edges texts)
unfolding forwards_of
bad_place rules edges texts e h = stops (same_of (List ForwardLine)) (same_of (List ForwardLine)) _ _ e h

pub bad_claim : (rules : List Rule) (edges : List EdgeLine) (texts : List ForwardText) (forwards : List ForwardLine) (e : SetupFault)
    → each ForwardEdge (IsAtEdge edges) (HasNone (IsAtEdge edges)) texts (Ok forwards) → forward_fault rules edges forwards ≡ Some e
    → Gives (same_of (List ForwardLine)) (Err e) (forwards_of rules edges texts)
unfolding forwards_of
bad_claim rules edges texts forwards e f h = goes_on (same_of (List ForwardLine)) _ _ forwards (Err e) f (bars (same_of (List ForwardLine)) _ _ e h)

pub good_forwards : (rules : List Rule) (edges : List EdgeLine) (texts : List ForwardText) (forwards : List ForwardLine)
    → each ForwardEdge (IsAtEdge edges) (HasNone (IsAtEdge edges)) texts (Ok forwards) → forward_fault rules edges forwards ≡ None
    → forwards_of rules edges texts (Ok forwards)
unfolding forwards_of
good_forwards rules edges texts forwards f none = goes_on (same_of (List ForwardLine)) _ _ forwards (Ok forwards) f (passes (same_of (List ForwardLine)) _ _ (Ok forwards) none refl)

pub bad_order : (dmr : Dmr) (rules : List Rule) (texts : List ChangeText) (e : SetupFault) → order_fault texts ≡ Some e → Gives (same_of (List MoveLine)) (Err e) (changes_of dmr rules texts)
unfolding changes_of
bad_order dmr rules texts e h = bars (same_of (List MoveLine)) _ _ e h

pub ordered : (dmr : Dmr) (rules : List Rule) (texts : List ChangeText) (r : Result (List MoveLine) SetupFault) → order_fault texts ≡ None → Gives (same_of (List MoveLine)) r (moves_from 0 dmr rules texts) → Gives (same_of (List MoveLine)) r (changes_of dmr rules texts)
unfolding changes_of
ordered dmr rules texts r none h = passes (same_of (List MoveLine)) _ _ r none h

-- ---- what tables set up

pub bad_origin : (tables : Tables) (e : SetupFault) → Gives (same_of Given) (Err e) (exactly (given_by tables.domain.origin tables.lines)) → Gives (same_of Setup) (Err e) (tables_setup tables)
unfolding tables_setup
bad_origin tables e h = stops (same_of Given) (same_of Setup) _ _ e h

-- the default mapping rule and the rules, and their book
pub record Whence (tables : Tables) : Type 0 where
  pub given : Given
  pub given_is : exactly (given_by tables.domain.origin tables.lines) (Ok given)

pub bad_book : (tables : Tables) (w : Whence tables) (e : SetupFault) → Gives (same_of Book) (Err e) (first_book w.given) → Gives (same_of Setup) (Err e) (tables_setup tables)
unfolding tables_setup
bad_book tables w e h = goes_on (same_of Setup) _ _ w.given (Err e) w.given_is (stops (same_of Book) (same_of Setup) _ _ e h)

pub bad_edges : (tables : Tables) (w : Whence tables) (book : Book) (e : SetupFault) → first_book w.given (Ok book) → edge_fault tables.edges w.given.dmr ≡ Some e → Gives (same_of Setup) (Err e) (tables_setup tables)
unfolding tables_setup
bad_edges tables w book e b h =
    goes_on (same_of Setup) _ _ w.given (Err e) w.given_is (goes_on (same_of Setup) _ _ book (Err e) b (stops (same_of (List ForwardLine)) (same_of Setup) _ _ e (bars (same_of (List ForwardLine)) _ _ e h)))

pub bad_forwards : (tables : Tables) (w : Whence tables) (book : Book) (e : SetupFault) → first_book w.given (Ok book) → edge_fault tables.edges w.given.dmr ≡ None
    → Gives (same_of (List ForwardLine)) (Err e) (forwards_of (rules_of book) tables.edges tables.forwards) → Gives (same_of Setup) (Err e) (tables_setup tables)
unfolding tables_setup
bad_forwards tables w book e b none h =
    goes_on (same_of Setup) _ _ w.given (Err e) w.given_is (goes_on (same_of Setup) _ _ book (Err e) b (stops (same_of (List ForwardLine)) (same_of Setup) _ _ e (passes (same_of (List ForwardLine)) _ _ (Err e) none h)))

-- the book, and the forwards at their edges
pub record Claimed (tables : Tables) (w : Whence tables) : Type 0 where
  pub book : Book
  pub book_is : first_book w.given (Ok book)
  pub apart : edge_fault tables.edges w.given.dmr ≡ None
  pub forwards : List ForwardLine
  pub forwards_are : forwards_of (rules_of book) tables.edges tables.forwards (Ok forwards)

pub bad_changes : (tables : Tables) (w : Whence tables) (k : Claimed tables w) (e : SetupFault)
    → Gives (same_of (List MoveLine)) (Err e) (changes_of (dmr_of k.book) (rules_of k.book) tables.changes) → Gives (same_of Setup) (Err e) (tables_setup tables)
unfolding tables_setup
bad_changes tables w k e h =
    goes_on (same_of Setup) _ _ w.given (Err e) w.given_is (goes_on (same_of Setup) _ _ k.book (Err e) k.book_is (goes_on (same_of Setup) _ _ k.forwards (Err e) (passes (same_of (List ForwardLine)) _ _ (Ok k.forwards) k.apart k.forwards_are) (stops (same_of (List MoveLine)) (same_of Setup) _ _ e h)))

pub good : (tables : Tables) (w : Whence tables) (k : Claimed tables w) (changes : List MoveLine) → changes_of (dmr_of k.book) (rules_of k.book) tables.changes (Ok changes)
    → tables_setup tables (Ok (record { book = k.book; relay = tables.domain.required.relay; mtus = tables.domain.required.mtus; access = tables.domain.access; core = tables.domain.core; edges = tables.edges; forwards = k.forwards; changes = changes }))
unfolding tables_setup
good tables w k changes h =
    goes_on (same_of Setup) _ _ w.given (Ok _) w.given_is (goes_on (same_of Setup) _ _ k.book (Ok _) k.book_is (goes_on (same_of Setup) _ _ k.forwards (Ok _) (passes (same_of (List ForwardLine)) _ _ (Ok k.forwards) k.apart k.forwards_are) (goes_on (same_of Setup) _ _ changes (Ok _) h refl)))

-- ---- the octets

pub bad_tables : (octets : List ℕ) (e : SetupFault) → Gives (same_of Tables) (Err e) (octets_tables octets) → Gives (same_of Setup) (Err e) (setup_of octets)
unfolding setup_of
bad_tables octets e h = stops (same_of Tables) (same_of Setup) _ _ e h

pub by_tables : (octets : List ℕ) (tables : Tables) (r : Result Setup SetupFault) → octets_tables octets (Ok tables) → Gives (same_of Setup) r (tables_setup tables) → Gives (same_of Setup) r (setup_of octets)
unfolding setup_of
by_tables octets tables r t h = goes_on (same_of Setup) _ _ tables r t h
