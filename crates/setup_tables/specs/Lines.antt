-- The default mapping rule and the rules of a container's items.
use Rattle.std.specs.Prelude.{List, [], ◌∷◌, Option, Some, None}
use Rattle.std.specs.List.{flat_map}
use Rattle.octets.specs.declared.prefix.Prefix6.{Prefix6}
use Rattle.s46_options.specs.declared.item.Item.{Item}
use Rattle.s46_options.specs.declared.item.Item.TheVariants as item
use Rattle.s46_options.specs.Text.{offset_in}
use Rattle.setup_tables.specs.declared.rule.RuleLine.{RuleLine}

-- the line of an item that is a rule, with the offset of its port parameters, and 6 without any
abbrev pub line_of : Item → List RuleLine
line_of (item.Rule flag ea prefix4 prefix6 subs) =
    record { prefix6 = prefix6; prefix4 = prefix4; ea = ea; offset = offset_in subs; forward = flag } ∷ []
line_of (item.Dmr prefix) = []
line_of (item.Other code octets) = []

abbrev pub lines_in : List Item → List RuleLine
lines_in items = flat_map line_of items

-- the prefix of the default mapping rule
abbrev pub dmr_in : List Item → Option Prefix6
dmr_in [] = None
dmr_in (item.Rule flag ea prefix4 prefix6 subs ∷ items) = dmr_in items
dmr_in (item.Dmr prefix ∷ items) = Some prefix
dmr_in (item.Other code octets ∷ items) = dmr_in items
