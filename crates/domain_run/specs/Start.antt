-- Edges and stripes before the first hop.
use Rattle.std.specs.Prelude.{◌≡◌, ℕ, List, [], ◌∷◌, length, slice_get, Some}
use Rattle.edge_core.specs.Shown.{EdgeShown, KeepsEdge, StripeShown, KeepsStripe}
use Rattle.setup_tables.specs.declared.edge.EdgeLine.{EdgeLine}
use Rattle.mapt_setup.specs.declared.setup.Setup.{Setup}
use Rattle.journeys.specs.OneThread.{generation, edge_start}

-- an edge began as the setup says, used the rules of generation 0, and has no entry
pub record IsFirstEdge (setup : Setup) (number : ℕ) (line : EdgeLine) (edge : EdgeShown) : Type 0 where
  pub start : edge.start ≡ edge_start setup number line
  pub books : edge.books ≡ generation setup 0 ∷ []
  pub history : edge.history ≡ []
  pub keeps : KeepsEdge edge

-- it is the edge of this number
abbrev pub IsFirstEdgeAt : Setup → ℕ → EdgeShown → Type 0
IsFirstEdgeAt setup number edge = (line : EdgeLine) → slice_get setup.edges number ≡ Some line → IsFirstEdge setup number line edge

-- they are the setup's edges, in their order
pub record AreFirstEdges (setup : Setup) (edges : List EdgeShown) : Type 0 where
  pub count : length edges ≡ length setup.edges
  pub each : (number : ℕ) (edge : EdgeShown) → slice_get edges number ≡ Some edge → IsFirstEdgeAt setup number edge

-- a stripe has no entry
pub record IsFirstStripe (stripe : StripeShown) : Type 0 where
  pub history : stripe.history ≡ []
  pub keeps : KeepsStripe stripe
