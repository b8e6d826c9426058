-- What the octets of options read as, field by field and by place (RFC 7598, sections 4.1, 4.3 and 4.5).
use Rattle.std.specs.Prelude.{◌≡◌, ℕ, ◌-◌, ◌/◌, ◌^◌, false, List, drop}
use Rattle.std.specs.List.{AllZip}
use Rattle.octets.specs.Bits.{bit_of}
use Rattle.octets.specs.Field.{octet, word, quad, part}
use Rattle.s46_options.specs.declared.subs.Sub.{Sub}
use Rattle.s46_options.specs.declared.subs.Sub.TheVariants as sub
use Rattle.s46_options.specs.declared.item.Item.{Item}
use Rattle.s46_options.specs.declared.item.Item.TheVariants as item
use Rattle.s46_options.specs.Options.{DhcpOption, cut}
use Rattle.s46_options.specs.Items.{rule_code, dmr_code, params_code, octets_for}
use Rattle.s46_options.specs.Faults.{has_code, prefix_number, subs_of}

-- an option inside of a rule
abbrev pub ReadsSub : DhcpOption → Sub → Type 0
ReadsSub o (sub.Params offset psid_len psid) =
    (o.code ≡ params_code) × (offset ≡ octet o.octets 0)
    × (psid_len ≡ octet o.octets 1)
    × (psid ≡ word o.octets 2 / 2 ^ (16 - octet o.octets 1))
ReadsSub o (sub.Other code octets) = (has_code params_code o ≡ false) × (code ≡ o.code) × (octets ≡ o.octets)

-- an option inside of the container
abbrev pub ReadsItem : DhcpOption → Item → Type 0
ReadsItem o (item.Rule flag ea prefix4 prefix6 subs) =
    (o.code ≡ rule_code) × (bit_of flag ≡ octet o.octets 0)
    × (ea ≡ octet o.octets 1)
    × (prefix4.len ≡ octet o.octets 2)
    × (prefix4.bits ≡ quad o.octets 3)
    × (prefix6.len ≡ octet o.octets 7)
    × (prefix6.bits ≡ prefix_number (part o.octets 8 (octets_for (octet o.octets 7))))
    × AllZip ReadsSub (subs_of o.octets).options subs
ReadsItem o (item.Dmr prefix) =
    (o.code ≡ dmr_code) × (prefix.len ≡ octet o.octets 0) × (prefix.bits ≡ prefix_number (drop 1 o.octets))
ReadsItem o (item.Other code octets) =
    (has_code rule_code o ≡ false) × (has_code dmr_code o ≡ false) × (code ≡ o.code) × (octets ≡ o.octets)

-- the container's octets read as these items: one for each option inside
abbrev pub ReadsContainer : List ℕ → List Item → Type 0
ReadsContainer octets items = AllZip ReadsItem (cut (drop 4 octets)).options items
