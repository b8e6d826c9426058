-- What a configuration sets up is valid.
use Rattle.std.proofs.Common.{◌≡◌, ℕ, ◌≤◌, List, length, sym, subst, arith}
use Rattle.std.specs.Prelude.{Result, Ok, Err, IfOk, option_map}
use Rattle.std.specs.List.{All}
use Rattle.map_rules.specs.declared.rule.Rule.{Rule}
use Rattle.map_rules.specs.declared.dmr.Dmr.{Dmr}
use Rattle.rule_book.specs.declared.book.Book.{Book}
use Rattle.rule_book.specs.Book.{rules_of, dmr_of, generation_of}
use Rattle.setup_tables.specs.declared.edge.EdgeLine.{EdgeLine}
use Rattle.setup_tables.specs.declared.forward.ForwardText.{ForwardText}
use Rattle.mapt_setup.specs.declared.forward.ForwardLine.{ForwardLine}
use Rattle.setup_tables.specs.declared.change.ChangeText.{ChangeText}
use Rattle.mapt_setup.specs.declared.moves.MoveLine.{MoveLine}
use Rattle.setup_tables.specs.declared.origin.Given.{Given}
use Rattle.setup_tables.specs.declared.tables.Tables.{Tables}
use Rattle.mapt_setup.specs.declared.setup.Setup.{Setup}
use Rattle.setup_tables.specs.declared.fault.SetupFault.{SetupFault}
use Rattle.setup_tables.specs.Answer.{Gives, exactly, such}
use Rattle.setup_tables.specs.Change.{most_at}
use Rattle.mapt_setup.specs.Claims.{IsAtEdge, forward_fault, forwards_of}
use Rattle.mapt_setup.specs.Crowd.{edge_fault, AreApart}
use Rattle.mapt_setup.specs.Moves.{order_fault, moves_from, changes_of}
use Rattle.mapt_setup.specs.Shapes.{IsFirstBook, refused_by}
use Rattle.rule_book.specs.Refusal.{refusal_of}
use Rattle.mapt_setup.specs.Setup.{first_book, tables_setup, setup_of}
use Rattle.mapt_setup.specs.Valid.{AreValidEdges, AreValidForwards, AreValidChanges, IsValidSetup}
use Rattle.mapt_setup.proofs.FirstEdges.{apart-exactly}
use Rattle.setup_tables.proofs.ListReads.{length-AllZip}
use Rattle.mapt_setup.proofs.Moving.{valid_changes}
use Rattle.setup_tables.proofs.Stages.{same_of}
use Rattle.mapt_setup.proofs.ValidForwards.{valid_forwards}
use Rattle.setup_tables.proofs.TablesInRange.{passed, the_same, IsKept, InRange, octets_in_range}

pub book_first : (given : Given) (book : Book) → first_book given (Ok book) → (generation_of book ≡ 0) × (dmr_of book ≡ given.dmr)
unfolding first_book
book_first given book h =
    let made : IsFirstBook h.value given.dmr book = (passed (option_map refused_by (refusal_of h.value given.dmr)) (such (IsFirstBook h.value given.dmr)) book h.rest).1 in
    (made.generation, made.dmr_is)

claimed : (rules : List Rule) (edges : List EdgeLine) (texts : List ForwardText) (forwards : List ForwardLine) → length texts ≤ 256 → All (λ t. IsKept t.binding) texts → forwards_of rules edges texts (Ok forwards) → AreValidForwards rules edges forwards
unfolding forwards_of
claimed rules edges texts forwards few kept h =
    let last = passed (forward_fault rules edges h.value) (exactly (Ok h.value)) forwards h.rest in
    let same : h.value ≡ forwards = the_same h.value forwards last.1 in
    let valid : AreValidForwards rules edges h.value = valid_forwards rules edges texts h.value (omega (arith, few, length-AllZip (IsAtEdge edges) texts h.value h.stage)) kept h.stage last.0 in
    subst (λ (fs : List ForwardLine). AreValidForwards rules edges fs) same valid

moved : (dmr : Dmr) (rules : List Rule) (texts : List ChangeText) (moves : List MoveLine) → length texts ≤ 64 → All (λ t. t.at ≤ most_at) texts → changes_of dmr rules texts (Ok moves) → AreValidChanges dmr rules moves
unfolding changes_of
moved dmr rules texts moves few times h =
    let last = passed (order_fault texts) (moves_from 0 dmr rules texts) moves h in
    valid_changes dmr rules texts moves few times last.0 last.1

setup_valid : (tables : Tables) (setup : Setup) → InRange tables → tables_setup tables (Ok setup) → IsValidSetup setup
unfolding tables_setup
setup_valid tables setup range h =
    let given = h.value in
    let book = h.rest.value in
    let first = book_first given book h.rest.stage in
    let claims = passed (edge_fault tables.edges given.dmr) (forwards_of (rules_of book) tables.edges tables.forwards) h.rest.rest.value h.rest.rest.stage in
    let changes = h.rest.rest.rest in
    let edges : AreValidEdges tables.edges (dmr_of book) = record {
      few = range.edges_few;
      names = range.names;
      apart = subst (λ (d : Dmr). AreApart tables.edges d) (sym first.1) ((apart-exactly tables.edges given.dmr).0 claims.0);
    } in
    let all = the_same _ setup changes.rest in
    subst IsValidSetup all record {
      generation = first.0;
      edges = edges;
      forwards = claimed (rules_of book) tables.edges tables.forwards h.rest.rest.value range.forwards_few range.forwards claims.1;
      changes = moved (dmr_of book) (rules_of book) tables.changes changes.value range.changes_few range.changes changes.stage;
    }

pub valid : (octets : List ℕ) (setup : Setup) → setup_of octets (Ok setup) → IsValidSetup setup
unfolding setup_of
valid octets setup h = setup_valid h.value setup (octets_in_range octets h.value h.stage) h.rest

pub valid_read : (octets : List ℕ) (r : Result Setup SetupFault) → Gives (same_of Setup) r (setup_of octets) → IfOk r IsValidSetup
valid_read octets (Ok setup) h = valid octets setup h
valid_read octets (Err e) h = tt
