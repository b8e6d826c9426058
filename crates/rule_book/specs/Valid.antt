-- What the rules of one generation keep to (RFC 7597, section 5, and the limits of this project).
use Rattle.std.specs.Prelude.{ℕ, ◌<◌, ◌≤◌, ◌^◌, Bool, List, length}
use Rattle.std.specs.List.{All, AllPairs}
use Rattle.map_rules.specs.declared.rule.Rule.{Rule}
use Rattle.map_rules.specs.declared.dmr.Dmr.{Dmr}
use Rattle.rule_book.specs.Overlap.{overlaps4, overlaps6, Overlaps4, Overlaps6}

-- the most rules of a generation
abbrev pub most_rules : ℕ
most_rules = 256

-- two rules share an IPv4 address
abbrev pub clash4 : Rule → Rule → Bool
clash4 r s = overlaps4 r.prefix4 s.prefix4

-- two rules share an IPv6 address
abbrev pub clash6 : Rule → Rule → Bool
clash6 r s = overlaps6 r.prefix6 s.prefix6

-- a rule shares an IPv6 address with the default mapping rule
abbrev pub clash_dmr : Dmr → Rule → Bool
clash_dmr dmr r = overlaps6 r.prefix6 dmr.prefix

-- there are at most 256 rules, their IPv4 prefixes are pairwise disjoint and so are their IPv6 prefixes,
-- and none of these overlaps that of the default mapping rule. The shape of each rule is its type's
pub record IsValid (rules : List Rule) (dmr : Dmr) : Type 0 where
  pub few : length rules ≤ most_rules
  pub apart4 : AllPairs (λ r s. ¬ Overlaps4 r.prefix4 s.prefix4) rules
  pub apart6 : AllPairs (λ r s. ¬ Overlaps6 r.prefix6 s.prefix6) rules
  pub apart_dmr : All (λ r. ¬ Overlaps6 r.prefix6 dmr.prefix) rules

-- the prefixes of a rule are numbers of 32 and of 128 bits, as their types keep them
pub record FitsRule (r : Rule) : Type 0 where
  pub prefix4 : r.prefix4.bits < 2 ^ 32
  pub prefix6 : r.prefix6.bits < 2 ^ 128

-- so are those of rules and of the default mapping rule
pub record FitBook (rules : List Rule) (dmr : Dmr) : Type 0 where
  pub each : All FitsRule rules
  pub default : dmr.prefix.bits < 2 ^ 128
