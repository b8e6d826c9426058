use Rattle.std.specs.Prelude.{◌≡◌, ℕ, length, slice_get, Some}
use Rattle.edge_core.specs.Shown.{EdgeShown}
use Rattle.domain_run.specs.Start.{IsFirstEdgeAt}
use Rattle.domain_run.proofs.start.first_edges.Given as goal

abbrev pub invariant-loop-number : goal.invariant-loop-number
invariant-loop-number l =
    (length l.edges.items ≡ l.number)
    × ((number : ℕ) (edge : EdgeShown) → slice_get l.edges.items number ≡ Some edge → IsFirstEdgeAt l.setup number edge)
