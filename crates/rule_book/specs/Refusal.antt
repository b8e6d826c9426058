-- Why rules are refused: the first of the reasons in their order, with the least places that show it.
use Rattle.std.specs.Prelude.{ℕ, Bool, List, [], ◌∷◌, ◌++◌, length, nat_lt, if◌then◌else◌, Option, Some, None}
use Rattle.std.specs.Option.{option_or, option_map}
use Rattle.std.specs.List.{position}
use Rattle.map_rules.specs.declared.rule.Rule.{Rule}
use Rattle.map_rules.specs.declared.dmr.Dmr.{Dmr}
use Rattle.rule_book.specs.declared.fault.BookFault.{BookFault}
use Rattle.rule_book.specs.declared.fault.BookFault.TheVariants.{TooManyRules, Overlap4, Overlap6, OverlapDmr}
use Rattle.rule_book.specs.Valid.{most_rules, clash4, clash6, clash_dmr}

-- among the rules that follow those before, the first that clashes with an earlier one, and the first of
-- those that it clashes with: their places, the earlier first
abbrev pub pair_after : (Rule → Rule → Bool) → List Rule → List Rule → Option (ℕ × ℕ)
pair_after clash before [] = None
pair_after clash before (r ∷ rules) =
    option_or (option_map (λ i. (i, length before)) (position (λ s. clash s r) before)) (pair_after clash (before ++ r ∷ []) rules)

-- the least pair of rules that clash, by the later one and then by the earlier
abbrev pub first_pair : (Rule → Rule → Bool) → List Rule → Option (ℕ × ℕ)
first_pair clash rules = pair_after clash [] rules

-- there are more rules than a generation may have
abbrev pub too_many : List Rule → Option BookFault
too_many rules = if nat_lt most_rules (length rules) then Some TooManyRules else None

-- the first reason for which rules overlap: in IPv4, in IPv6, or with the default mapping rule
abbrev pub overlap_of : List Rule → Dmr → Option BookFault
overlap_of rules dmr =
    option_or (option_map (λ p. Overlap4 p.0 p.1) (first_pair clash4 rules))
    (option_or (option_map (λ p. Overlap6 p.0 p.1) (first_pair clash6 rules))
    (option_map OverlapDmr (position (clash_dmr dmr) rules)))

-- why these rules are no book, if they aren't
abbrev pub refusal_of : List Rule → Dmr → Option BookFault
refusal_of rules dmr = option_or (too_many rules) (overlap_of rules dmr)
