-- What an edge holds by its IPv6 prefix (RFC 7597, section 5.2).
use Rattle.std.specs.Prelude.{◌≡◌, ℕ, ◌+◌, ◌==◌, ◌&&◌, Bool, IsTrue, if◌then◌else◌, List, [], ◌∷◌, Option, Some, None, IsSomeAnd}
use Rattle.octets.specs.Bits.{same_first}
use Rattle.octets.specs.declared.prefix.Prefix6.{Prefix6}
use Rattle.port_set.specs.PortSet.{in_set}
use Rattle.map_rules.specs.declared.rule.Rule.{Rule}
use Rattle.map_rules.specs.declared.rule.EdgeId.{EdgeId}
use Rattle.map_rules.specs.Rule.{psid_len, rule_address, edge_address, edge_psid}

-- an IPv4 address, a port set by its offset, PSID length and PSID, and the edge's own MAP address
pub record Holder : Type 0 where
  pub addr : ℕ
  pub offset : ℕ
  pub psid_length : ℕ
  pub psid : ℕ
  pub own6 : ℕ

-- what stands in an `EdgeId`
abbrev pub holder_in : EdgeId → Holder
holder_in e = record { addr = e.addr.0; offset = e.ports.a; psid_length = e.ports.k; psid = e.ports.psid; own6 = e.own6.0 }

-- the rule's IPv6 prefix begins the edge's, which ends with the EA bits
abbrev pub has_edge : Prefix6 → Rule → Bool
has_edge prefix rule = (prefix.len == rule.prefix6.len + rule.ea) && same_first 128 rule.prefix6.len rule.prefix6.bits prefix.bits

-- what the edge's EA bits give under the rule
abbrev pub holder_under : Rule → Prefix6 → Holder
holder_under rule prefix = record {
  addr = edge_address rule prefix.bits;
  offset = rule.offset;
  psid_length = psid_len rule;
  psid = edge_psid rule prefix.bits;
  own6 = rule_address rule (edge_address rule prefix.bits) (edge_psid rule prefix.bits);
}

-- what the edge holds: by the rule whose IPv6 prefix begins its own and whose EA bits end it
abbrev pub holder_of : List Rule → Prefix6 → Option Holder
holder_of [] prefix = None
holder_of (r ∷ rules) prefix = if has_edge prefix r then Some (holder_under r prefix) else holder_of rules prefix

-- the edge with this prefix holds the address and port
abbrev pub Holds : List Rule → Prefix6 → ℕ → ℕ → Type 0
Holds rules prefix addr port =
    IsSomeAnd (holder_of rules prefix) (λ h. (h.addr ≡ addr) × IsTrue (in_set h.offset h.psid_length h.psid port))
