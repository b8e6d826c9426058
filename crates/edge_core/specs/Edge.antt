-- An edge by its fields.
use Rattle.std.specs.Prelude.{◌≡◌, length}
use Rattle.edge_core.specs.declared.edge.EdgeState.TheInside.{Inside}
use Rattle.edge_core.specs.Shown.{EdgeShown, KeepsEdge}
use Rattle.edge_core.specs.Used.{started, used_books}

-- what it shows
abbrev pub edge_in : Inside → EdgeShown
edge_in s = record {
  start = started s.prefix s.first s.kept;
  books = used_books s.first s.later.items;
  state = s.machine.state;
  history = s.entries.items;
}

-- this holds of it. The generation that is kept is the state's, and the machine is this edge's, with a step for each entry
pub record IsEdge (s : Inside) : Type 0 where
  pub keeps : KeepsEdge (edge_in s)
  pub used : s.machine.state.book.number ≡ s.used
  pub prefix : s.machine.prefix ≡ s.prefix
  pub counted : s.machine.steps ≡ length s.entries.items
