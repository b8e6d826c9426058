-- What a configuration sets up is one.
use Rattle.std.proofs.Common.{◌≡◌, ◌+◌, ◌-◌, ℕ, suc, List, [], ◌∷◌, None, refl, sym, ◌∙◌}
use mathlib.Core.HLevel.{is_prop→PathP}
use Rattle.std.proofs.lemmas.Bool.{false≢true, le-leb}
use Rattle.map_rules.proofs.Same.{same_rule}
use Rattle.map_rules.specs.Shape.{first_broken}
use Rattle.map_rules.specs.declared.dmr.Dmr.{Dmr}
use Rattle.map_rules.specs.declared.rule.Rule.{Rule}
use Rattle.rule_book.specs.declared.book.Book.{Book}
use Rattle.rule_book.specs.Valid.{IsValid}
use Rattle.mapt_setup.specs.Shapes.{HasParts, BreaksShape, IsFirstBook, book_of}
use Rattle.mapt_setup.specs.Crowd.{edge_fault}
use Rattle.mapt_setup.specs.Setup.{first_book, tables_setup, setup_of}
use Rattle.setup_tables.specs.declared.change.ChangeText.{ChangeText}
use Rattle.setup_tables.specs.declared.forward.ForwardText.{ForwardText}
use Rattle.mapt_setup.specs.declared.forward.ForwardLine.{ForwardLine}
use Rattle.setup_tables.specs.declared.tables.Tables.{Tables}
use Rattle.rule_book.specs.Book.{rules_of, dmr_of}
use Rattle.rule_book.specs.Change.{rules_after}
use Rattle.mapt_setup.specs.Claims.{edge_place, IsAtEdge, forward_fault, forwards_of}
use Rattle.mapt_setup.specs.Moves.{order_fault, IsMove, moves_from, changes_of}
use Rattle.mapt_setup.proofs.Moving.{one_move}
use Rattle.setup_tables.specs.declared.fault.SetupCause.TheVariants.{RuleShape, ForwardEdge, ChangeRefused}
use Rattle.setup_tables.specs.declared.fault.SetupFault.TheVariants.{Refused}
use Rattle.std.proofs.Props.{props}
use Rattle.setup_tables.specs.declared.rule.RuleLine.{RuleLine}
use Rattle.setup_tables.specs.declared.edge.EdgeLine.{EdgeLine}
use Rattle.setup_tables.specs.Answer.{HasNone, such}
use Rattle.setup_tables.specs.declared.origin.Given.{Given}
use Rattle.setup_tables.specs.Origin.{given_by}
use Rattle.setup_tables.proofs.OneAnswer.{IsOne, AreOne, then_one, barring_one, exactly_one, such_one, the_one, each_one}
use Rattle.setup_tables.proofs.OneReading.{once, one_octets}

-- ---- the rules' shapes and their book

one_shape : (line : RuleLine) (r s : Rule) → HasParts line r → HasParts line s → r ≡ s
one_shape line r s h g = same_rule r s (h.prefix6 ∙ sym g.prefix6) (h.prefix4 ∙ sym g.prefix4) (h.ea ∙ sym g.ea) (h.offset ∙ sym g.offset) (h.forward ∙ sym g.forward)

-- a rule breaks no shape rule
none_broken : (r : Rule) → first_broken r.prefix6.len r.prefix4.len r.ea r.offset ≡ None
none_broken r = rw (le-leb r.ea 32 r.ea_most, le-leb 32 (r.ea + r.prefix4.len) r.ea_least, le-leb (r.prefix6.len + r.ea) 64 r.edge_length, le-leb r.offset 15 r.offset_most, le-leb (r.ea + r.prefix4.len - 32) (16 - r.offset) r.psid_most) refl

-- and neither does a line whose parts it has
unbroken : (line : RuleLine) (r : Rule) → HasParts line r → BreaksShape line → ⊥
unbroken line r h broken =
    let none : first_broken line.prefix6.len line.prefix4.len line.ea line.offset ≡ None = rw (← h.prefix6, ← h.prefix4, ← h.ea, ← h.offset) (none_broken r) in
    false≢true (rw none at broken)

pub one_shaped : AreOne HasParts BreaksShape
one_shaped = record { one = one_shape; none = unbroken }

valid_once : (rules : List Rule) (dmr : Dmr) → IsProp (IsValid rules dmr)
valid_once rules dmr = hlevel props

one_book : (rules : List Rule) (dmr : Dmr) (b c : Book) → IsFirstBook rules dmr b → IsFirstBook rules dmr c → b ≡ c
one_book rules dmr b c h g =
    let same_rules : b.rules ≡ c.rules = h.rules_are ∙ sym g.rules_are in
    let same_dmr : b.dmr ≡ c.dmr = h.dmr_is ∙ sym g.dmr_is in
    let same_number : b.generation ≡ c.generation = h.generation ∙ sym g.generation in
    λ i. record {
      rules = same_rules i;
      dmr = same_dmr i;
      generation = same_number i;
      valid = is_prop→PathP (λ j. IsValid (same_rules j) (same_dmr j)) (λ j. valid_once (same_rules j) (same_dmr j)) b.valid c.valid i;
    }

pub one_book_of : (rules : List Rule) (dmr : Dmr) → IsOne (book_of rules dmr)
one_book_of rules dmr = barring_one _ (such (IsFirstBook rules dmr)) (such_one (IsFirstBook rules dmr) (one_book rules dmr))

-- ---- forwards and changes

one_place : (edges : List EdgeLine) (text : ForwardText) (x y : ForwardLine) → IsAtEdge edges text x → IsAtEdge edges text y → x ≡ y
one_place edges text x y h g =
    let edge = once (edge_place text.edge edges) x.edge y.edge h.edge g.edge in
    let binding = h.binding ∙ sym g.binding in
    λ i. record { edge = edge i; binding = binding i }

one_placed : (edges : List EdgeLine) → AreOne (IsAtEdge edges) (HasNone (IsAtEdge edges))
one_placed edges = record { one = one_place edges; none = λ d x is no. no x is }

pub one_forwards : (rules : List Rule) (edges : List EdgeLine) (texts : List ForwardText) → IsOne (forwards_of rules edges texts)
unfolding forwards_of
one_forwards rules edges texts =
    then_one _ _ (each_one ForwardEdge (IsAtEdge edges) (HasNone (IsAtEdge edges)) (one_placed edges) texts) (λ forwards.
    barring_one (forward_fault rules edges forwards) _ (exactly_one _))

one_moves : (place : ℕ) (dmr : Dmr) (rules : List Rule) (texts : List ChangeText) → IsOne (moves_from place dmr rules texts)
one_moves place dmr rules [] = exactly_one _
one_moves place dmr rules (text ∷ texts) =
    then_one _ _ (the_one (IsMove rules dmr text) (Refused ChangeRefused place) (one_move rules dmr text)) (λ move.
    then_one _ _ (one_moves (suc place) dmr (rules_after move.change rules) texts) (λ moves.
    exactly_one _))

pub one_changes : (dmr : Dmr) (rules : List Rule) (texts : List ChangeText) → IsOne (changes_of dmr rules texts)
unfolding changes_of
one_changes dmr rules texts = barring_one (order_fault texts) _ (one_moves 0 dmr rules texts)

-- ---- the whole

one_first_book : (given : Given) → IsOne (first_book given)
unfolding first_book
one_first_book given =
    then_one _ _ (each_one RuleShape HasParts BreaksShape one_shaped given.lines) (λ rules.
    one_book_of rules given.dmr)

one_tables_setup : (tables : Tables) → IsOne (tables_setup tables)
unfolding tables_setup
one_tables_setup tables =
    then_one _ _ (exactly_one (given_by tables.domain.origin tables.lines)) (λ given.
    then_one _ _ (one_first_book given) (λ book.
    then_one _ _ (barring_one (edge_fault tables.edges given.dmr) _ (one_forwards (rules_of book) tables.edges tables.forwards)) (λ forwards.
    then_one _ _ (one_changes (dmr_of book) (rules_of book) tables.changes) (λ changes.
    exactly_one _))))

pub one_setup : (octets : List ℕ) → IsOne (setup_of octets)
unfolding setup_of
one_setup octets = then_one _ _ (one_octets octets) one_tables_setup
