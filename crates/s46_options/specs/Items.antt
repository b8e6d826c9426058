-- The options of MAP as pictures of octets (RFC 7598, sections 4.1, 4.3, 4.5 and 5.2).
use Rattle.std.specs.Prelude.{ℕ, ◌+◌, ◌-◌, ◌*◌, ◌/◌, ◌^◌, ◌&&◌, nat_lt, Bool, true, List, ◌∷◌, ◌++◌, take, map}
use Rattle.std.specs.List.{list_all}
use Rattle.octets.specs.Bits.{bit_of}
use Rattle.octets.specs.Field.{in_word, in_quad, in_sixteen}
use Rattle.octets.specs.declared.prefix.Prefix4.{Prefix4}
use Rattle.octets.specs.declared.prefix.Prefix6.{Prefix6}
use Rattle.s46_options.specs.declared.subs.Sub.{Sub}
use Rattle.s46_options.specs.declared.subs.Sub.TheVariants as sub
use Rattle.s46_options.specs.declared.item.Item.{Item}
use Rattle.s46_options.specs.declared.item.Item.TheVariants as item
use Rattle.s46_options.specs.Options.{DhcpOption, spelled, spelled_all}

-- the codes of OPTION_S46_RULE, OPTION_S46_DMR, OPTION_S46_PORTPARAMS and OPTION_S46_CONT_MAPT
abbrev pub rule_code : ℕ
rule_code = 89

abbrev pub dmr_code : ℕ
dmr_code = 91

abbrev pub params_code : ℕ
params_code = 93

abbrev pub mapt_code : ℕ
mapt_code = 95

-- the least number of whole octets that hold so many bits
abbrev pub octets_for : ℕ → ℕ
octets_for len = (len + 7) / 8

-- the bits of an IPv6 prefix in that number of octets
abbrev pub prefix_octets : Prefix6 → List ℕ
prefix_octets prefix = take (octets_for prefix.len) (in_sixteen prefix.bits)

-- S46_PORTPARAMS
-- |    offset     |   PSID-len    |     PSID, from the left       |
abbrev pub params_octets : ℕ → ℕ → ℕ → List ℕ
params_octets offset psid_len psid = offset ∷ psid_len ∷ in_word (psid * 2 ^ (16 - psid_len))

-- an option inside of a rule
abbrev pub sub_option : Sub → DhcpOption
sub_option (sub.Params offset psid_len psid) = record { code = params_code; octets = params_octets offset psid_len psid }
sub_option (sub.Other code octets) = record { code = code; octets = octets }

-- S46_RULE
-- |0 0 0 0 0 0 0 F|    ea-len     |  prefix4-len  |  ipv4-prefix, four octets ..
-- |  prefix6-len  |  ipv6-prefix ..               |  options ..
abbrev pub rule_octets : Bool → ℕ → Prefix4 → Prefix6 → List Sub → List ℕ
rule_octets flag ea prefix4 prefix6 subs =
    (bit_of flag ∷ ea ∷ prefix4.len ∷ in_quad prefix4.bits) ++ (prefix6.len ∷ prefix_octets prefix6) ++ spelled_all (map sub_option subs)

-- S46_DMR
-- |  dmr-pref-len |  dmr-ipv6-prefix ..
abbrev pub dmr_octets : Prefix6 → List ℕ
dmr_octets prefix = prefix.len ∷ prefix_octets prefix

-- an option inside of the container
abbrev pub item_option : Item → DhcpOption
item_option (item.Rule flag ea prefix4 prefix6 subs) = record { code = rule_code; octets = rule_octets flag ea prefix4 prefix6 subs }
item_option (item.Dmr prefix) = record { code = dmr_code; octets = dmr_octets prefix }
item_option (item.Other code octets) = record { code = code; octets = octets }

-- what stands inside of the container
abbrev pub inside_octets : List Item → List ℕ
inside_octets items = spelled_all (map item_option items)

-- the container: one option
abbrev pub container_octets : List Item → List ℕ
container_octets items = spelled (record { code = mapt_code; octets = inside_octets items })

-- the numbers of it that fill a field are no wider than the field: a code has 16 bits, and the bits of a
-- prefix are 32 or 128
abbrev pub sub_in_fields : Sub → Bool
sub_in_fields (sub.Params offset psid_len psid) = true
sub_in_fields (sub.Other code octets) = nat_lt code (2 ^ 16)

abbrev pub item_in_fields : Item → Bool
item_in_fields (item.Rule flag ea prefix4 prefix6 subs) =
    nat_lt prefix4.bits (2 ^ 32) && (nat_lt prefix6.bits (2 ^ 128) && list_all sub_in_fields subs)
item_in_fields (item.Dmr prefix) = nat_lt prefix.bits (2 ^ 128)
item_in_fields (item.Other code octets) = nat_lt code (2 ^ 16)
