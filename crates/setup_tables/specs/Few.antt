-- Tables that are no more than a configuration may have.
use Rattle.std.specs.Prelude.{◌≤◌, length}
use Rattle.setup_tables.specs.declared.tables.Tables.{Tables}
use Rattle.setup_tables.specs.Origin.{HasFew}

pub record AreFew (tables : Tables) : Type 0 where
  pub origin : HasFew tables.domain.origin
  pub lines : length tables.lines ≤ 256
  pub edges : length tables.edges ≤ 256
  pub forwards : length tables.forwards ≤ 256
  pub changes : length tables.changes ≤ 64
