-- What `[[edge]]` says.
use Rattle.std.specs.Prelude.{◌≡◌, ℕ, List, [], ◌∷◌, codes, true, Some}
use Rattle.toml.specs.Data.{Data, Members}
use Rattle.setup_tables.specs.declared.edge.EdgeLine.{EdgeLine}
use Rattle.setup_tables.specs.EdgeName.{edge_name_at}
use Rattle.setup_tables.specs.Answer.{OfTable}
use Rattle.setup_tables.specs.Keys.{has_only, optional_text_at}
use Rattle.setup_tables.specs.Spelled.{HasAddr4, HasPrefix6}

abbrev pub edge_keys : List (List ℕ)
edge_keys = codes "name" ∷ codes "prefix" ∷ codes "lan" ∷ codes "capture" ∷ []

-- the table says this: the name, the IPv6 prefix, the address of the edge on its LAN, and the name of the
-- LAN's capture, which may be missing
pub record IsEdgeTable (ms : Members) (edge : EdgeLine) : Type 0 where
  pub keys : has_only edge_keys ms ≡ true
  pub name : edge_name_at (codes "name") ms ≡ Some edge.name
  pub prefix : HasPrefix6 (codes "prefix") ms edge.prefix
  pub lan : HasAddr4 (codes "lan") ms edge.lan
  pub capture : optional_text_at (codes "capture") ms ≡ Some edge.capture

abbrev pub IsEdge : Data → EdgeLine → Type 0
IsEdge = OfTable IsEdgeTable
