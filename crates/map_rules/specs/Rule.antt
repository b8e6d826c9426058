-- The addresses, ports and edges of one mapping rule (RFC 7597, sections 5 and 6).
use Rattle.std.specs.Prelude.{◌≡◌, ℕ, ◌+◌, ◌-◌, ◌/◌, ◌%◌, ◌^◌, ◌<◌, ◌==◌, ◌&&◌, nat_lt, Bool, if◌then◌else◌, Option, Some, None}
use Rattle.octets.specs.Bits.{bits_at, SameFirst, same_first}
use Rattle.port_set.specs.PortSet.{in_set}
use Rattle.map_rules.specs.Address.{map_address, psid_of, carried_addr, carried_psid}
use Rattle.map_rules.specs.declared.rule.Rule.{Rule}

-- the length of the PSIDs: what the EA bits have beside the suffix of the IPv4 address
abbrev pub psid_len : Rule → ℕ
psid_len rule = rule.ea + rule.prefix4.len - 32

-- the bits of an IPv4 address past the rule's prefix
abbrev pub suffix_of : Rule → ℕ → ℕ
suffix_of rule addr = addr % 2 ^ (32 - rule.prefix4.len)

-- the IPv4 address is one of the rule
abbrev pub HasAddress : Rule → ℕ → Type 0
HasAddress rule addr = SameFirst 32 rule.prefix4.len rule.prefix4.bits addr

-- the same as a test
abbrev pub has_address : Rule → ℕ → Bool
has_address rule addr = same_first 32 rule.prefix4.len rule.prefix4.bits addr

-- the MAP address of an IPv4 address of the rule and a PSID
unfoldable pub rule_address : Rule → ℕ → ℕ → ℕ
rule_address rule addr v = map_address rule.prefix6.bits rule.prefix6.len rule.ea (psid_len rule) (suffix_of rule addr) addr v

-- the MAP address of an IPv4 address and a port, where the address is of the rule and the port in one
-- of its port sets
unfoldable pub ce6_of : Rule → ℕ → ℕ → Option ℕ
ce6_of rule addr x =
    let v = psid_of rule.offset (psid_len rule) x in
    if has_address rule addr && in_set rule.offset (psid_len rule) v x then Some (rule_address rule addr v) else None

-- the IPv6 address is, as a whole, the MAP address of this IPv4 address and PSID under the rule
pub record IsSource (rule : Rule) (s addr v : ℕ) : Type 0 where
  pub four : addr < 2 ^ 32
  pub has : HasAddress rule addr
  pub psid : v < 2 ^ psid_len rule
  pub whole : rule_address rule addr v ≡ s

-- the IPv4 address and PSID of which that is true: what the MAP address carries, where its other bits are
-- those of the rule's MAP address for it
unfoldable pub source_of : Rule → ℕ → Option (ℕ × ℕ)
source_of rule s =
    let addr = carried_addr s in
    let v = carried_psid s in
    if has_address rule addr && (nat_lt v (2 ^ psid_len rule) && (rule_address rule addr v == s)) then Some (addr, v) else None

-- an edge of the rule has this IPv6 prefix: the rule's begins it, and it ends with the EA bits
abbrev pub HasEdge : Rule → ℕ → ℕ → Type 0
HasEdge rule bits len = (len ≡ rule.prefix6.len + rule.ea) × SameFirst 128 rule.prefix6.len rule.prefix6.bits bits

-- the EA bits of an edge's prefix
abbrev pub ea_bits : Rule → ℕ → ℕ
ea_bits rule bits = bits_at 128 bits rule.prefix6.len rule.ea

-- the IPv4 address and the PSID that its EA bits give an edge
abbrev pub edge_address : Rule → ℕ → ℕ
edge_address rule bits = rule.prefix4.bits + ea_bits rule bits / 2 ^ psid_len rule

abbrev pub edge_psid : Rule → ℕ → ℕ
edge_psid rule bits = ea_bits rule bits % 2 ^ psid_len rule
