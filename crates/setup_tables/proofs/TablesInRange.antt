-- What tables say is in its range, and no more than there may be.
use Rattle.std.proofs.Common.{◌≡◌, ℕ, ◌≤◌, Bool, true, false, cond, List, length, codes, refl, sym, subst, arith, Option, Some, None, ◌⊎◌, inl, inr}
use Rattle.std.specs.Prelude.{Result, Ok, IsTrue, ◌||◌, ◌&&◌, nat_le, nat_lt, pos, option_and_then}
use Rattle.std.specs.List.{All}
use Rattle.std.proofs.lemmas.Option.{none-some, same_Some}
use Rattle.std.proofs.lemmas.Bool.{and_parts, leb-true}
use Rattle.toml.specs.Data.{Data, string, integer, float, boolean, datetime, array, table, Members, get_member}
use Rattle.setup_tables.specs.declared.edge.EdgeLine.{EdgeLine}
use Rattle.setup_tables.specs.declared.forward.ForwardText.{ForwardText}
use Rattle.setup_tables.specs.declared.change.ChangeText.{ChangeText}
use Rattle.setup_tables.specs.declared.tables.Tables.{Tables}
use Rattle.setup_tables.specs.declared.fault.SetupCause.{SetupCause}
use Rattle.setup_tables.specs.declared.fault.SetupCause.TheVariants.{TooMany}
use Rattle.setup_tables.specs.declared.fault.SetupFault.{SetupFault}
use Rattle.setup_tables.specs.declared.fault.SetupFault.TheVariants.{Refused}
use Rattle.setup_tables.specs.Answer.{OfTable, barring, exactly}
use Rattle.setup_tables.specs.Keys.{tables_at, text_at, number_in, within, or_default}
use Rattle.setup_tables.specs.EdgeName.{is_edge_name, named}
use Rattle.setup_tables.specs.Edge.{IsEdge, IsEdgeTable}
use Rattle.setup_tables.specs.Forward.{IsForward, IsForwardTable, most_until, never}
use Rattle.setup_tables.specs.Change.{IsChange, IsChangeTable, most_at}
use Rattle.setup_tables.specs.Tables.{is_long, has_too_many, early_fault, listed, tables_of}
use Rattle.setup_tables.proofs.ListReads.{length-AllZip}
use Rattle.nat_model.specs.declared.binding.Binding.{Binding}
use Rattle.setup_tables.proofs.ListReads.{all_read}
use Rattle.setup_tables.specs.Tables.{octets_tables}

-- ---- what a stage that gave a value had

pub passed : {A : Type 0} (o : Option SetupFault) (next : Result A SetupFault → Type 0) (x : A) → barring o next (Ok x) → (o ≡ None) × next (Ok x)
passed None next x h = (refl, h)
passed (Some fault) next x h = absurd (cc)

pub the_same : {A : Type 0} (x y : A) → exactly (Ok x) (Ok y) → x ≡ y
the_same x y e = cc

-- ---- no more tables than there may be

untold : (b : Bool) → cond b (Some (Refused TooMany 0)) None ≡ None → b ≡ false
untold true e = cc
untold false e = refl

neither : (a b : Bool) → (a || b) ≡ false → (a ≡ false) × (b ≡ false)
neither true b e = cc
neither false b e = (refl, e)

pub record NoneLong (document : Members) : Type 0 where
  pub edges : is_long 256 (tables_at (codes "edge") document) ≡ false
  pub forwards : is_long 256 (tables_at (codes "forward") document) ≡ false
  pub changes : is_long 64 (tables_at (codes "change") document) ≡ false

none_long : (document : Members) → early_fault document ≡ None → NoneLong document
none_long document e =
    let a = neither _ _ (untold (has_too_many document) e) in
    let b = neither _ _ a.1 in
    let d = neither _ _ b.1 in
    record { edges = b.0; forwards = d.0; changes = d.1 }

not_long : (most n : ℕ) → nat_lt most n ≡ false → n ≤ most
not_long most n e = grind arith

listed_few : {A : Type 0} (cause : SetupCause) (Is : Data → A → Type 0) (most : ℕ) (o : Option (List Data)) (xs : List A) → is_long most o ≡ false → listed cause Is o (Ok xs) → length xs ≤ most
listed_few cause Is most None xs few h = absurd (cc)
listed_few cause Is most (Some ds) xs few h = omega (arith, not_long most (length ds) few, length-AllZip Is ds xs h)

listed_all : {A : Type 0} (cause : SetupCause) (Is : Data → A → Type 0) (P : A → Type 0) → ((d : Data) (x : A) → Is d x → P x) → (o : Option (List Data)) (xs : List A) → listed cause Is o (Ok xs) → All P xs
listed_all cause Is P gives None xs h = absurd (cc)
listed_all cause Is P gives (Some ds) xs h = all_read Is P gives ds xs h

of_table : {A : Type 0} (Says : Members → A → Type 0) (P : A → Type 0) → ((ms : Members) (x : A) → Says ms x → P x) → (d : Data) (x : A) → OfTable Says d x → P x
of_table Says P gives (table ms) x h = gives ms x h
of_table Says P gives (string _) x h = absurd h
of_table Says P gives (integer _) x h = absurd h
of_table Says P gives (float _) x h = absurd h
of_table Says P gives (boolean _) x h = absurd h
of_table Says P gives (datetime _) x h = absurd h
of_table Says P gives (array _) x h = absurd h

-- ---- names and numbers in their ranges

-- what a text says of its binding
pub record IsKept (b : Binding) : Type 0 where
  pub kept : b.kept ≡ true
  pub live : b.live ≡ false
  pub deadline : (b.deadline ≤ most_until) ⊎ (b.deadline ≡ never)

either_test : (b : Bool) → (b ≡ true) ⊎ (b ≡ false)
either_test true = inl refl
either_test false = inr refl

taken : {A : Type 0} (b : Bool) (x y : A) → cond b (Some x) None ≡ Some y → (b ≡ true) × (x ≡ y)
taken true x y e = (refl, same_Some x y e)
taken false x y e = absurd (none-some y e)

name_is : (o : Option (List ℕ)) (name : List ℕ) → option_and_then named o ≡ Some name → is_edge_name name ≡ true
name_is None name e = absurd (none-some name e)
name_is (Some text) name e =
    let t = taken (is_edge_name text) text name e in
    subst (λ (n : List ℕ). is_edge_name n ≡ true) t.1 t.0

within_most : (most n m : ℕ) → within 0 most n ≡ Some m → m ≤ most
within_most most n m e =
    let t = taken (nat_le 0 n && nat_le n most) n m e in
    let p = and_parts (nat_le 0 n) (nat_le n most) t.0 in
    subst (λ (x : ℕ). x ≤ most) t.1 (leb-true n most p.1)

number_most : (most : ℕ) (d : Data) (m : ℕ) → number_in 0 most d ≡ Some m → m ≤ most
number_most most (integer (pos n)) m e = within_most most n m e
number_most most _ m e = absurd (none-some m e)

given_most : (most : ℕ) (o : Option Data) (m : ℕ) → option_and_then (number_in 0 most) o ≡ Some m → m ≤ most
given_most most None m e = absurd (none-some m e)
given_most most (Some d) m e = number_most most d m e

default_most : (default most : ℕ) (o : Option Data) (m : ℕ) → or_default default (number_in 0 most) o ≡ Some m → (m ≤ most) ⊎ (m ≡ default)
default_most default most None m e = inr (sym (same_Some default m e))
default_most default most (Some d) m e = inl (number_most most d m e)

named_edge : (ms : Members) (edge : EdgeLine) → IsEdgeTable ms edge → IsTrue (is_edge_name edge.name)
named_edge ms edge h = name_is (text_at (codes "name") ms) edge.name h.name

kept_forward : (ms : Members) (forward : ForwardText) → IsForwardTable ms forward → IsKept forward.binding
kept_forward ms forward h =
    record { kept = h.binding.kept; live = h.binding.live; deadline = default_most never most_until (get_member (codes "until") ms) forward.binding.deadline h.binding.deadline }

timely_change : (ms : Members) (change : ChangeText) → IsChangeTable ms change → change.at ≤ most_at
timely_change ms change h = given_most most_at (get_member (codes "at") ms) change.at h.at

-- ---- the tables

pub record InRange (tables : Tables) : Type 0 where
  pub edges_few : length tables.edges ≤ 256
  pub names : All (λ edge. IsTrue (is_edge_name edge.name)) tables.edges
  pub forwards_few : length tables.forwards ≤ 256
  pub forwards : All (λ t. IsKept t.binding) tables.forwards
  pub changes_few : length tables.changes ≤ 64
  pub changes : All (λ t. t.at ≤ most_at) tables.changes

tables_in_range : (document : Members) (tables : Tables) → NoneLong document → tables_of document (Ok tables) → InRange tables
unfolding tables_of
tables_in_range document tables few h =
    let lines = h.rest in
    let edges = lines.rest in
    let forwards = edges.rest in
    let changes = forwards.rest in
    let all : record { domain = h.value; lines = lines.value; edges = edges.value; forwards = forwards.value; changes = changes.value } ≡ tables = the_same _ tables changes.rest in
    let range : InRange (record { domain = h.value; lines = lines.value; edges = edges.value; forwards = forwards.value; changes = changes.value }) = record {
      edges_few = listed_few _ IsEdge 256 _ edges.value few.edges edges.stage;
      names = listed_all _ IsEdge (λ edge. IsTrue (is_edge_name edge.name)) (of_table IsEdgeTable (λ edge. IsTrue (is_edge_name edge.name)) named_edge) _ edges.value edges.stage;
      forwards_few = listed_few _ IsForward 256 _ forwards.value few.forwards forwards.stage;
      forwards = listed_all _ IsForward (λ t. IsKept t.binding) (of_table IsForwardTable (λ t. IsKept t.binding) kept_forward) _ forwards.value forwards.stage;
      changes_few = listed_few _ IsChange 64 _ changes.value few.changes changes.stage;
      changes = listed_all _ IsChange (λ t. t.at ≤ most_at) (of_table IsChangeTable (λ t. t.at ≤ most_at) timely_change) _ changes.value changes.stage;
    } in
    subst InRange all range

pub octets_in_range : (octets : List ℕ) (tables : Tables) → octets_tables octets (Ok tables) → InRange tables
unfolding octets_tables
octets_in_range octets tables h =
    let late = passed (early_fault h.value) (tables_of h.value) tables h.rest in
    tables_in_range h.value tables (none_long h.value late.0) late.1
