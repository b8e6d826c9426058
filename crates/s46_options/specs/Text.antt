-- A container as text.
use Rattle.std.specs.Prelude.{ℕ, List, [], ◌∷◌, ◌++◌, codes}
use Rattle.std.specs.List.{flat_map}
use Rattle.hex.specs.Hex.{encode_lower}
use Rattle.rule_book.specs.Text.{newline, parts_line, dmr_prefix_line}
use Rattle.s46_options.specs.declared.subs.Sub.{Sub}
use Rattle.s46_options.specs.declared.subs.Sub.TheVariants as sub
use Rattle.s46_options.specs.declared.item.Item.{Item}
use Rattle.s46_options.specs.declared.item.Item.TheVariants as item
use Rattle.s46_options.specs.Items.{container_octets}

-- the offset of the first port parameters, and 6 without any (RFC 7597, section 5.1)
abbrev pub offset_in : List Sub → ℕ
offset_in [] = 6
offset_in (sub.Params offset psid_len psid ∷ subs) = offset
offset_in (sub.Other code octets ∷ subs) = offset_in subs

-- the line of a default mapping rule, and those of rules
abbrev pub dmr_lines : Item → List ℕ
dmr_lines (item.Rule flag ea prefix4 prefix6 subs) = []
dmr_lines (item.Dmr prefix) = dmr_prefix_line prefix
dmr_lines (item.Other code octets) = []

abbrev pub rule_lines : Item → List ℕ
rule_lines (item.Rule flag ea prefix4 prefix6 subs) =
    parts_line (record { prefix6 = prefix6; prefix4 = prefix4; ea = ea; offset = offset_in subs; forward = flag })
rule_lines (item.Dmr prefix) = []
rule_lines (item.Other code octets) = []

-- the octets of the container in hexadecimal digits
abbrev pub octets_line : List ℕ → List ℕ
octets_line octets = codes "octets " ++ (encode_lower octets ++ newline)

-- the line of the default mapping rule, one line a rule in their order, and the octets
unfoldable pub container_text : List Item → List ℕ
container_text items = flat_map dmr_lines items ++ (flat_map rule_lines items ++ octets_line (container_octets items))
