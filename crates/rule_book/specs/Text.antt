-- Books and owners as text.
use Rattle.std.specs.Prelude.{ℕ, ◌==◌, Bool, false, List, [], ◌∷◌, ◌++◌, codes, if◌then◌else◌}
use Rattle.std.specs.Option.{option_map_or}
use Rattle.std.specs.List.{flat_map}
use Rattle.std.specs.Fmt.{decimal}
use Rattle.octets.specs.declared.prefix.Prefix6.{Prefix6}
use Rattle.octets.specs.Text6.{text6}
use Rattle.octets.specs.PrefixText.{prefix_text4, prefix_text6}
use Rattle.map_rules.specs.declared.rule.Rule.{Rule}
use Rattle.map_rules.specs.declared.dmr.Dmr.{Dmr}
use Rattle.map_rules.specs.Address.{carried_psid}
use Rattle.rule_book.specs.declared.lines.RuleParts.{RuleParts}
use Rattle.rule_book.specs.Owner.{owner_of}
use Rattle.rule_book.specs.Holder.{holder_of}

-- the end of a line
abbrev pub newline : List ℕ
newline = 10 ∷ []

-- a flag as 0 or 1
abbrev pub flag_text : Bool → List ℕ
flag_text flag = if flag then codes "1" else codes "0"

-- the line of these parts of a rule: its prefixes, its EA length, its offset and whether it forwards
unfoldable pub parts_line : RuleParts → List ℕ
parts_line r =
    codes "rule " ++ prefix_text6 r.prefix6.bits r.prefix6.len ++ codes " " ++ prefix_text4 r.prefix4.bits r.prefix4.len
    ++ codes " ea " ++ decimal r.ea ++ codes " offset " ++ decimal r.offset ++ codes " forward " ++ flag_text r.forward ++ newline

-- the line of a rule
abbrev pub rule_line : Rule → List ℕ
rule_line r = parts_line (record { prefix6 = r.prefix6; prefix4 = r.prefix4; ea = r.ea; offset = r.offset; forward = r.forward })

-- the line of a default mapping rule with this prefix
unfoldable pub dmr_prefix_line : Prefix6 → List ℕ
dmr_prefix_line prefix = codes "dmr " ++ prefix_text6 prefix.bits prefix.len ++ newline

-- the line of the default mapping rule
abbrev pub dmr_line : Dmr → List ℕ
dmr_line dmr = dmr_prefix_line dmr.prefix

-- the default mapping rule, and then one line a rule in their order
abbrev pub book_text : List Rule → Dmr → List ℕ
book_text rules dmr = dmr_line dmr ++ flat_map rule_line rules

-- the edge with this prefix has this own address
abbrev pub has_own : List Rule → ℕ → Prefix6 → Bool
has_own rules own prefix = option_map_or (λ h. h.own6 == own) (holder_of rules prefix) false

-- the name beside the first prefix whose edge has this own address, and `-` where none has
abbrev pub edge_name : List Rule → List Prefix6 → List (List ℕ) → ℕ → List ℕ
edge_name rules [] names own = codes "-"
edge_name rules prefixes [] own = codes "-"
edge_name rules (p ∷ prefixes) (n ∷ names) own = if has_own rules own p then n else edge_name rules prefixes names own

-- the line of an own address: the address, the PSID that it carries, and the edge's name
unfoldable pub own_line : ℕ → List ℕ → List ℕ
own_line own name = text6 own ++ codes " psid " ++ decimal (carried_psid own) ++ codes " edge " ++ name ++ newline

-- who has an IPv4 address and port
abbrev pub owner_text : List Rule → List Prefix6 → List (List ℕ) → ℕ → ℕ → List ℕ
owner_text rules prefixes names addr port =
    option_map_or (λ own. own_line own (edge_name rules prefixes names own)) (owner_of rules addr port) (codes "none" ++ newline)
