-- Forwards at the edges that they name.
use Rattle.std.proofs.Common.{◌≡◌, List, None, sym, ◌∙◌}
use Rattle.std.proofs.lemmas.Option.{none-some}
use Rattle.setup_tables.specs.declared.edge.EdgeLine.{EdgeLine}
use Rattle.setup_tables.specs.declared.forward.ForwardText.{ForwardText}
use Rattle.mapt_setup.specs.declared.forward.ForwardLine.{ForwardLine}
use Rattle.mapt_setup.specs.Claims.{IsAtEdge, edge_place}

-- a text that names no edge has no place
pub no_edge : (edges : List EdgeLine) (text : ForwardText) → edge_place text.edge edges ≡ None → (forward : ForwardLine) → IsAtEdge edges text forward → ⊥
no_edge edges text none forward is = none-some forward.edge (sym none ∙ is.edge)
