-- Which MAP address an IPv4 address and port have under the rules of one generation (RFC 7597, section 5).
use Rattle.std.specs.Prelude.{ℕ, Bool, List, [], ◌∷◌, Option, None}
use Rattle.std.specs.Option.{option_or}
use Rattle.std.specs.List.{filter, list_any}
use Rattle.map_rules.specs.declared.rule.Rule.{Rule}
use Rattle.map_rules.specs.Rule.{has_address, ce6_of}

-- the MAP address of an IPv4 address and port, under the first rule that gives one
abbrev pub owner_of : List Rule → ℕ → ℕ → Option ℕ
owner_of [] addr port = None
owner_of (r ∷ rules) addr port = option_or (ce6_of r addr port) (owner_of rules addr port)

-- the same among the forwarding mapping rules
abbrev pub forward_of : List Rule → ℕ → ℕ → Option ℕ
forward_of rules addr port = owner_of (filter (λ r. r.forward) rules) addr port

-- the IPv4 address is inside the rule's prefix
abbrev pub has_addr4 : ℕ → Rule → Bool
has_addr4 addr r = has_address r addr

-- some rule's IPv4 prefix has the address
abbrev pub covers_of : List Rule → ℕ → Bool
covers_of rules addr = list_any (has_addr4 addr) rules
