-- What is wrong with octets that are no container (RFC 7598): all faults that the octets show, each by the
-- octets at its place, in order of their places. Places are counted from the first octet of the text.
use Rattle.std.specs.Prelude.{ℕ, zero, suc, ◌+◌, ◌-◌, ◌*◌, ◌/◌, ◌%◌, ◌^◌, ◌&&◌, ◌==◌, nat_le, nat_lt, not, Bool, List, [], ◌∷◌, ◌++◌, length, drop, replicate, if◌then◌else◌, Option, Some, None}
use Rattle.std.specs.List.{count_by, list_any}
use Rattle.octets.specs.Field.{octet, word, quad, sixteen, part}
use Rattle.s46_options.specs.declared.fault.OptionFault.{OptionFault}
use Rattle.s46_options.specs.declared.fault.OptionFault.TheVariants.{Short, NotMapt, BadLength, Reserved, BadPrefixLen, Padding, SecondParams, SecondDmr, TooManyRules, NoRule, NoDmr}
use Rattle.s46_options.specs.Options.{DhcpOption, spelled_all, Cut, cut}
use Rattle.s46_options.specs.Items.{rule_code, dmr_code, params_code, mapt_code, octets_for}

abbrev pub when : Bool → OptionFault → List OptionFault
when shown fault = if shown then fault ∷ [] else []

abbrev pub first : List OptionFault → Option OptionFault
first [] = None
first (fault ∷ faults) = Some fault

-- how many octets stand before the first that isn't 0, of a number's so many octets
abbrev pub zero_octets : ℕ → ℕ → ℕ
zero_octets zero number = 0
zero_octets (suc count) number = if number / 2 ^ (8 * count) == 0 then 1 + zero_octets count number else 0

-- a number of so many octets stands at the place and holds a prefix of so many bits: the first octet that
-- has a bit set past these
abbrev pub padding : ℕ → ℕ → ℕ → ℕ → List OptionFault
padding at count number len =
    let past = number % 2 ^ (8 * count - len) in when (nat_lt 0 past) (Padding (at + zero_octets count past))

-- a length at the place is over its bound
abbrev pub over : ℕ → ℕ → ℕ → List OptionFault
over at most len = when (nat_lt most len) (BadPrefixLen at)

-- a prefix in the least number of whole octets, as a number of 128 bits
unfoldable pub prefix_number : List ℕ → ℕ
prefix_number octets = sixteen (octets ++ replicate (16 - length octets) 0) 0

-- ---- options that stand one after another

-- the code's own octet
abbrev pub has_code : ℕ → DhcpOption → Bool
has_code code option = option.code == code

-- the place behind these options, of which the first stands at a place
abbrev pub place_behind : ℕ → List DhcpOption → ℕ
place_behind at earlier = at + length (spelled_all earlier)

-- one to three octets are left
abbrev pub leaves_over : Cut → Bool
leaves_over parts = nat_le 1 (length parts.left) && nat_lt (length parts.left) 4

-- so the enclosing length field at the place is wrong
abbrev pub left_over : ℕ → Cut → List OptionFault
left_over at parts = when (leaves_over parts) (BadLength at)

-- what is said of options, each by its place and those before it: of one that is whole, and of one that passes the enclosing end, of
-- which there is the code
pub record Judge : Type 0 where
  pub whole : ℕ → List DhcpOption → DhcpOption → List OptionFault
  pub begun : ℕ → List DhcpOption → ℕ → List OptionFault

-- an option at the place passes the enclosing end: its code may be wrong there, and its own length field is
abbrev pub too_long : Judge → ℕ → List DhcpOption → List ℕ → List OptionFault
too_long judge at earlier left = if nat_le 4 (length left) then judge.begun at earlier (word left 0) ++ BadLength (at + 2) ∷ [] else []

-- what is said of each of these options
abbrev pub each_faults : (ℕ → List DhcpOption → DhcpOption → List OptionFault) → ℕ → List DhcpOption → List DhcpOption → List OptionFault
each_faults judge at earlier [] = []
each_faults judge at earlier (option ∷ options) =
    judge (place_behind at earlier) earlier option ++ each_faults judge at (earlier ++ option ∷ []) options

-- all options from the place on
abbrev pub all_faults : Judge → ℕ → Cut → List OptionFault
all_faults judge at parts =
    each_faults judge.whole at [] parts.options ++ too_long judge (place_behind at parts.options) parts.options parts.left

-- ---- an option inside of a rule, which stands at a place with its code

-- offset, PSID length, and the bits past the PSID
abbrev pub params_faults : ℕ → List ℕ → List OptionFault
params_faults at octets =
    if length octets == 4 then over (at + 4) 15 (octet octets 0)
    ++ (over (at + 5) 16 (octet octets 1) ++ padding (at + 6) 2 (word octets 2) (octet octets 1))
    else BadLength (at + 2) ∷ []

-- where port parameters stand before it, or don't
unfoldable pub sub_faults_beside : Bool → ℕ → DhcpOption → List OptionFault
sub_faults_beside second at option =
    if option.code == params_code then when second (SecondParams at) ++ params_faults at option.octets else []

abbrev pub sub_faults : ℕ → List DhcpOption → DhcpOption → List OptionFault
sub_faults at earlier option = sub_faults_beside (list_any (has_code params_code) earlier) at option

-- the same of one that passes the rule's end, by its code
abbrev pub begun_sub_faults : Bool → ℕ → ℕ → List OptionFault
begun_sub_faults second at code = when (code == params_code && second) (SecondParams at)

abbrev pub sub_judge : Judge
sub_judge = record {
  whole = sub_faults;
  begun = λ at earlier code. begun_sub_faults (list_any (has_code params_code) earlier) at code;
}

-- ---- an option inside of the container

-- flags, EA length, length and bits of the IPv4 prefix
unfoldable pub field_faults : ℕ → List ℕ → List OptionFault
field_faults at octets =
    when (nat_lt 1 (octet octets 0)) (Reserved (at + 4))
    ++ (over (at + 5) 48 (octet octets 1)
    ++ (over (at + 6) 32 (octet octets 2) ++ padding (at + 7) 4 (quad octets 3) (octet octets 2)))

-- the place in a rule behind its IPv6 prefix, and the options from there on
abbrev pub rule_end : List ℕ → ℕ
rule_end octets = 8 + octets_for (octet octets 7)

abbrev pub subs_of : List ℕ → Cut
subs_of octets = cut (drop (rule_end octets) octets)

-- the fields, the bits past the IPv6 prefix, and the options
unfoldable pub body_faults : ℕ → List ℕ → List OptionFault
body_faults at octets =
    field_faults at octets
    ++ (padding (at + 12) 16 (prefix_number (part octets 8 (octets_for (octet octets 7)))) (octet octets 7)
    ++ all_faults sub_judge (at + (4 + rule_end octets)) (subs_of octets))

-- a prefix length over its bound says nothing of what stands behind it
abbrev pub rule_faults : ℕ → List ℕ → List OptionFault
rule_faults at octets =
    if nat_lt (length octets) 8 then BadLength (at + 2) ∷ []
    else (if nat_lt 128 (octet octets 7) then field_faults at octets ++ BadPrefixLen (at + 11) ∷ []
    else (if nat_lt (length octets) (rule_end octets) then BadLength (at + 2) ∷ []
    else left_over (at + 2) (subs_of octets) ++ body_faults at octets))

abbrev pub dmr_faults : ℕ → List ℕ → List OptionFault
dmr_faults at octets =
    if length octets == 0 then BadLength (at + 2) ∷ []
    else (if nat_lt 128 (octet octets 0) then BadPrefixLen (at + 4) ∷ []
    else (if length octets == 1 + octets_for (octet octets 0) then padding (at + 5) 16 (prefix_number (drop 1 octets)) (octet octets 0)
    else BadLength (at + 2) ∷ []))

-- where so many rules stand before it, and a default mapping rule, or none
unfoldable pub item_faults_beside : ℕ → Bool → ℕ → DhcpOption → List OptionFault
item_faults_beside rules second at option =
    if option.code == rule_code then when (nat_le 256 rules) (TooManyRules at) ++ rule_faults at option.octets
    else (if option.code == dmr_code then when second (SecondDmr at) ++ dmr_faults at option.octets
    else [])

abbrev pub item_faults : ℕ → List DhcpOption → DhcpOption → List OptionFault
item_faults at earlier option =
    item_faults_beside (count_by (has_code rule_code) earlier) (list_any (has_code dmr_code) earlier) at option

-- the same of one that passes the container's end, by its code
abbrev pub begun_item_faults : ℕ → Bool → ℕ → ℕ → List OptionFault
begun_item_faults rules second at code =
    when (code == rule_code && nat_le 256 rules) (TooManyRules at) ++ when (code == dmr_code && second) (SecondDmr at)

abbrev pub item_judge : Judge
item_judge = record {
  whole = item_faults;
  begun = λ at earlier code. begun_item_faults (count_by (has_code rule_code) earlier) (list_any (has_code dmr_code) earlier) at code;
}

-- ---- the text

-- at the end: no rule, no default mapping rule
abbrev pub missing : List DhcpOption → List OptionFault
missing options = when (not (list_any (has_code rule_code) options)) NoRule ++ when (not (list_any (has_code dmr_code) options)) NoDmr

-- the container's own length field stands at place 2, and its options from place 4 on
unfoldable pub inside_faults : Cut → List OptionFault
inside_faults parts = left_over 2 parts ++ (all_faults item_judge 4 parts ++ missing parts.options)

-- the text is one container and nothing else
unfoldable pub faults : List ℕ → List OptionFault
faults octets =
    if nat_lt (length octets) 4 then Short (length octets) ∷ []
    else (if not (word octets 0 == mapt_code) then NotMapt (word octets 0) ∷ []
    else (if nat_lt (length octets) (4 + word octets 2) then Short (length octets) ∷ []
    else (if nat_lt (4 + word octets 2) (length octets) then BadLength 2 ∷ []
    else inside_faults (cut (drop 4 octets)))))

-- the first fault from the left, where there is one
abbrev pub fault_of : List ℕ → Option OptionFault
fault_of octets = first (faults octets)
