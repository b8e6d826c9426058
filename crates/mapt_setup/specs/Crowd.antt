-- What edges that stand beside one another may not have.
use Rattle.std.specs.Prelude.{Bool, IsTrue, ◌||◌, nat_eq, nat_lt, List, length, Option, option_map}
use Rattle.std.specs.Option.{option_or}
use Rattle.std.specs.List.{All, list_any, position}
use Rattle.std.specs.Cmp.Lexicographic.{pointwise}
use Rattle.map_rules.specs.declared.dmr.Dmr.{Dmr}
use Rattle.rule_book.specs.Overlap.{overlaps6}
use Rattle.setup_tables.specs.declared.edge.EdgeLine.{EdgeLine}
use Rattle.setup_tables.specs.declared.fault.SetupCause.TheVariants.{EdgeName, EdgeOverlap, EdgeOverDmr}
use Rattle.setup_tables.specs.declared.fault.SetupFault.{SetupFault}
use Rattle.setup_tables.specs.declared.fault.SetupFault.TheVariants.{Refused}
use Rattle.mapt_setup.specs.Beside.{first_after, FailsBefore}

-- an earlier edge has its name
abbrev pub has_name_of : List EdgeLine → EdgeLine → Bool
has_name_of earlier edge = list_any (λ other. pointwise nat_eq other.name edge.name) earlier

-- its prefix is longer than 64 bits, or overlaps that of an earlier edge
abbrev pub is_crowded : List EdgeLine → EdgeLine → Bool
is_crowded earlier edge = nat_lt 64 edge.prefix.len || list_any (λ other. overlaps6 other.prefix edge.prefix) earlier

-- its prefix overlaps that of the default mapping rule
abbrev pub is_over : Dmr → EdgeLine → Bool
is_over dmr edge = overlaps6 edge.prefix dmr.prefix

-- the first thing that is wrong with edges beside one another and beside the default mapping rule
abbrev pub edge_fault : List EdgeLine → Dmr → Option SetupFault
edge_fault edges dmr =
    option_or (option_map (Refused EdgeName) (first_after has_name_of edges))
    (option_or (option_map (Refused EdgeOverlap) (first_after is_crowded edges))
    (option_map (Refused EdgeOverDmr) (position (is_over dmr) edges)))

-- no edge has the name of an earlier one; none has too long a prefix or one that overlaps an earlier
-- edge's; and no prefix overlaps that of the default mapping rule
pub record AreApart (edges : List EdgeLine) (dmr : Dmr) : Type 0 where
  pub names : FailsBefore has_name_of edges (length edges)
  pub prefixes : FailsBefore is_crowded edges (length edges)
  pub outside : All (λ edge. ¬ IsTrue (is_over dmr edge)) edges
