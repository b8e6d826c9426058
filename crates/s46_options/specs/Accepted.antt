-- Which lists of items are a container (RFC 7598, and the limits of this project).
use Rattle.std.specs.Prelude.{◌^◌, ◌&&◌, ◌==◌, nat_le, nat_lt, not, Bool, true, false, List, length}
use Rattle.std.specs.List.{list_all, count_by}
use Rattle.s46_options.specs.declared.subs.Sub.{Sub}
use Rattle.s46_options.specs.declared.subs.Sub.TheVariants as sub
use Rattle.s46_options.specs.declared.item.Item.{Item}
use Rattle.s46_options.specs.declared.item.Item.TheVariants as item
use Rattle.s46_options.specs.Items.{rule_code, dmr_code, params_code, inside_octets}

abbrev pub is_params : Sub → Bool
is_params (sub.Params offset psid_len psid) = true
is_params (sub.Other code octets) = false

abbrev pub is_rule : Item → Bool
is_rule (item.Rule flag ea prefix4 prefix6 subs) = true
is_rule (item.Dmr prefix) = false
is_rule (item.Other code octets) = false

abbrev pub is_dmr : Item → Bool
is_dmr (item.Rule flag ea prefix4 prefix6 subs) = false
is_dmr (item.Dmr prefix) = true
is_dmr (item.Other code octets) = false

-- no number of it is over its bound, and its code isn't that of port parameters
abbrev pub sub_fits : Sub → Bool
sub_fits (sub.Params offset psid_len psid) = nat_le offset 15 && (nat_le psid_len 16 && nat_lt psid (2 ^ psid_len))
sub_fits (sub.Other code octets) = not (code == params_code)

-- no number of it is over its bound, a rule has port parameters once at most, and the code of another
-- option isn't that of a rule or of the default mapping rule
abbrev pub item_fits : Item → Bool
item_fits (item.Rule flag ea prefix4 prefix6 subs) = nat_le ea 48 && (list_all sub_fits subs && nat_le (count_by is_params subs) 1)
item_fits (item.Dmr prefix) = true
item_fits (item.Other code octets) = not (code == rule_code) && not (code == dmr_code)

-- 1 to 256 rules, exactly one default mapping rule, and at most 65,535 octets inside
abbrev pub is_accepted : List Item → Bool
is_accepted items =
    list_all item_fits items
    && (nat_le 1 (count_by is_rule items) && (nat_le (count_by is_rule items) 256
    && (count_by is_dmr items == 1 && nat_le (length (inside_octets items)) 65535)))
