-- A valid setup: what the rules of a configuration say of its fields. That prefixes and MTUs are in their
-- ranges, that each rule has the shape of one, and that the rules of generation 0 don't overlap, is kept by
-- their types.
use Rattle.std.specs.Prelude.{◌≡◌, ◌≤◌, ◌<◌, ◌⊎◌, IsTrue, true, false, List, [], ◌∷◌, length, None}
use Rattle.std.specs.List.{All, AllPairs}
use Rattle.std.specs.List.Sorted.{IsNonDecreasingBy}
use Rattle.map_rules.specs.declared.rule.Rule.{Rule}
use Rattle.map_rules.specs.declared.dmr.Dmr.{Dmr}
use Rattle.rule_book.specs.Book.{rules_of, dmr_of, generation_of}
use Rattle.rule_book.specs.Change.{rules_after, change_refusal}
use Rattle.nat_model.specs.Sound.{AreApart as AreApartBindings}
use Rattle.setup_tables.specs.declared.edge.EdgeLine.{EdgeLine}
use Rattle.mapt_setup.specs.declared.forward.ForwardLine.{ForwardLine}
use Rattle.mapt_setup.specs.declared.moves.MoveLine.{MoveLine}
use Rattle.mapt_setup.specs.declared.setup.Setup.{Setup}
use Rattle.setup_tables.specs.EdgeName.{is_edge_name}
use Rattle.mapt_setup.specs.Crowd.{AreApart}
use Rattle.setup_tables.specs.Forward.{most_until, never}
use Rattle.setup_tables.specs.Change.{most_at}
use Rattle.mapt_setup.specs.Claims.{holder_of_edge, may_claim}

-- at most 256 edges, each with a name of its own, whose prefixes have at most 64 bits and overlap neither one
-- another nor that of the default mapping rule
pub record AreValidEdges (edges : List EdgeLine) (dmr : Dmr) : Type 0 where
  pub few : length edges ≤ 256
  pub names : All (λ edge. IsTrue (is_edge_name edge.name)) edges
  pub apart : AreApart edges dmr

-- a forward is at an edge that may claim its port in generation 0. Its binding is kept and not live, and ends
-- before 2^62 microseconds or never
pub record IsValidForward (rules : List Rule) (edges : List EdgeLine) (forward : ForwardLine) : Type 0 where
  pub edge : forward.edge < length edges
  pub port : IsTrue (may_claim (holder_of_edge rules edges forward.edge) forward.binding.port)
  pub kept : forward.binding.kept ≡ true
  pub live : forward.binding.live ≡ false
  pub deadline : (forward.binding.deadline ≤ most_until) ⊎ (forward.binding.deadline ≡ never)

-- at most 256 forwards. Two of one edge and protocol have different outside ports and different hosts' ends
pub record AreValidForwards (rules : List Rule) (edges : List EdgeLine) (forwards : List ForwardLine) : Type 0 where
  pub few : length forwards ≤ 256
  pub each : All (IsValidForward rules edges) forwards
  pub apart : AllPairs (λ f g. f.edge ≡ g.edge → AreApartBindings f.binding g.binding) forwards

-- each change is accepted by the rules after those before it
abbrev pub AreAccepted : Dmr → List Rule → List MoveLine → Type 0
AreAccepted dmr rules [] = Unit {0}
AreAccepted dmr rules (move ∷ moves) = (change_refusal move.change rules dmr ≡ None) × AreAccepted dmr (rules_after move.change rules) moves

-- at most 64 changes, before 2^52 microseconds and in the order of their times, each of which is accepted
pub record AreValidChanges (dmr : Dmr) (rules : List Rule) (changes : List MoveLine) : Type 0 where
  pub few : length changes ≤ 64
  pub times : All (λ move. move.at ≤ most_at) changes
  pub ordered : IsNonDecreasingBy (λ move. move.at) changes
  pub accepted : AreAccepted dmr rules changes

pub record IsValidSetup (setup : Setup) : Type 0 where
  pub generation : generation_of setup.book ≡ 0
  pub edges : AreValidEdges setup.edges (dmr_of setup.book)
  pub forwards : AreValidForwards (rules_of setup.book) setup.edges setup.forwards
  pub changes : AreValidChanges (dmr_of setup.book) (rules_of setup.book) setup.changes
