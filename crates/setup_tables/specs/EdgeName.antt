-- The names of edges.
use Rattle.std.specs.Prelude.{ℕ, List, Bool, ◌&&◌, ◌||◌, ◌==◌, nat_le, length, if◌then◌else◌, Option, Some, None, option_and_then}
use Rattle.std.specs.List.{list_all}
use Rattle.toml.specs.Data.{Members}
use Rattle.setup_tables.specs.Keys.{text_at}

-- a lower-case letter, a digit or a hyphen
abbrev pub is_name_octet : ℕ → Bool
is_name_octet c = (nat_le 97 c && nat_le c 122) || ((nat_le 48 c && nat_le c 57) || (c == 45))

-- 1 to 32 of these
abbrev pub is_edge_name : List ℕ → Bool
is_edge_name text = nat_le 1 (length text) && (nat_le (length text) 32 && list_all is_name_octet text)

-- the text, where it is such a name
abbrev pub named : List ℕ → Option (List ℕ)
named text = if is_edge_name text then Some text else None

-- the edge's name at a key
abbrev pub edge_name_at : List ℕ → Members → Option (List ℕ)
edge_name_at key ms = option_and_then named (text_at key ms)
