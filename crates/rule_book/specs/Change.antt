-- One change of the rules.
use Rattle.std.specs.Prelude.{ℕ, ◌==◌, ◌&&◌, Bool, List, [], ◌∷◌, ◌++◌, is_some, if◌then◌else◌, Option, Some, None, slice_set}
use Rattle.std.specs.Bool.{beq}
use Rattle.std.specs.Option.{option_or, option_map, option_map_or}
use Rattle.std.specs.List.{position, remove}
use Rattle.octets.specs.declared.prefix.Prefix4.{Prefix4}
use Rattle.octets.specs.declared.prefix.Prefix6.{Prefix6}
use Rattle.map_rules.specs.declared.rule.Rule.{Rule}
use Rattle.map_rules.specs.declared.dmr.Dmr.{Dmr}
use Rattle.rule_book.specs.declared.fault.BookFault.{BookFault}
use Rattle.rule_book.specs.declared.fault.BookFault.TheVariants.{NoSuchRule, RuleThere}
use Rattle.rule_book.specs.declared.change.Change.{Change}
use Rattle.rule_book.specs.declared.change.Change.TheVariants.{Add, Remove, Replace}
use Rattle.rule_book.specs.Refusal.{too_many, overlap_of}

-- two prefixes are the same
abbrev pub same4 : Prefix4 → Prefix4 → Bool
same4 a b = (a.bits == b.bits) && (a.len == b.len)

abbrev pub same6 : Prefix6 → Prefix6 → Bool
same6 a b = (a.bits == b.bits) && (a.len == b.len)

-- two rules are the same in each of their parts
abbrev pub same_rule : Rule → Rule → Bool
same_rule r s =
    same6 r.prefix6 s.prefix6
    && (same4 r.prefix4 s.prefix4 && ((r.ea == s.ea) && ((r.offset == s.offset) && beq r.forward s.forward)))

-- the place of the rule with this IPv6 prefix
abbrev pub place_of : Prefix6 → List Rule → Option ℕ
place_of prefix rules = position (λ r. same6 r.prefix6 prefix) rules

-- the rules after a change: an added rule goes last, and one that is put for another stays in its place.
-- Where no rule has the prefix, nothing changes
abbrev pub rules_after : Change → List Rule → List Rule
rules_after (Add rule) rules = rules ++ rule ∷ []
rules_after (Remove prefix) rules = option_map_or (λ i. remove rules i) (place_of prefix rules) rules
rules_after (Replace prefix rule) rules = option_map_or (λ i. slice_set rules i rule) (place_of prefix rules) rules

-- no rule has this IPv6 prefix
abbrev pub missing_of : Prefix6 → List Rule → Option BookFault
missing_of prefix rules = if is_some (place_of prefix rules) then None else Some NoSuchRule

-- the change names an IPv6 prefix that no rule has
abbrev pub no_such : Change → List Rule → Option BookFault
no_such (Add rule) rules = None
no_such (Remove prefix) rules = missing_of prefix rules
no_such (Replace prefix rule) rules = missing_of prefix rules

-- the change adds a rule that stands already
abbrev pub already : Change → List Rule → Option BookFault
already (Add rule) rules = option_map RuleThere (position (λ r. same_rule r rule) rules)
already (Remove prefix) rules = None
already (Replace prefix rule) rules = None

-- why the change is refused before prefixes are compared
abbrev pub misfit_of : Change → List Rule → Option BookFault
misfit_of change rules = option_or (too_many (rules_after change rules)) (option_or (no_such change rules) (already change rules))

-- why the change is refused, if it is: the first of the reasons in their order
abbrev pub change_refusal : Change → List Rule → Dmr → Option BookFault
change_refusal change rules dmr = option_or (misfit_of change rules) (overlap_of (rules_after change rules) dmr)
