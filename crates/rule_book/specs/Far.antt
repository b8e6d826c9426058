-- Which IPv4 address stands behind an IPv6 source address and a port (RFC 7597, section 8.1; RFC 7599,
-- sections 8.2 and 8.3).
use Rattle.std.specs.Prelude.{ℕ, Bool, if◌then◌else◌, List, [], ◌∷◌}
use Rattle.std.specs.Option.{option_map_or}
use Rattle.octets.specs.Bits.{same_first}
use Rattle.octets.specs.declared.prefix.Prefix6.{Prefix6}
use Rattle.port_set.specs.PortSet.{in_set}
use Rattle.map_rules.specs.declared.rule.Rule.{Rule}
use Rattle.map_rules.specs.declared.dmr.Dmr.{Dmr}
use Rattle.map_rules.specs.Embedding.{extract_of}
use Rattle.map_rules.specs.Rule.{psid_len, source_of}
use Rattle.rule_book.specs.declared.view.FarOf.{FarOf}
use Rattle.rule_book.specs.declared.view.FarOf.TheVariants.{Addr, Spoofed, NotDefault}

-- the IPv6 address is inside the prefix
abbrev pub has_addr6 : Prefix6 → ℕ → Bool
has_addr6 prefix s = same_first 128 prefix.len prefix.bits s

-- a source's IPv4 address, where the port is in the port set of its PSID
abbrev pub far_with : Rule → ℕ → ℕ × ℕ → FarOf
far_with rule port source = if in_set rule.offset (psid_len rule) source.1 port then Addr (record { 0 = source.0 }) else Spoofed

-- under one rule: that of the source whose MAP address it is
abbrev pub far_under : Rule → ℕ → ℕ → FarOf
far_under rule s port = option_map_or (far_with rule port) (source_of rule s) Spoofed

-- inside the default mapping rule: the address that is embedded in it
abbrev pub far_embedded : Dmr → ℕ → FarOf
far_embedded dmr s = option_map_or (λ a. Addr (record { 0 = a })) (extract_of dmr.prefix.bits dmr.prefix.len s) NotDefault

-- under the first rule whose IPv6 prefix has the address, and none where no rule's has
abbrev pub far_by_rule : List Rule → ℕ → ℕ → FarOf
far_by_rule [] s port = NotDefault
far_by_rule (r ∷ rules) s port = if has_addr6 r.prefix6 s then far_under r s port else far_by_rule rules s port

-- inside the default mapping rule, the embedded address, and else the source under the rules
abbrev pub far_of : List Rule → Dmr → ℕ → ℕ → FarOf
far_of rules dmr s port = if has_addr6 dmr.prefix s then far_embedded dmr s else far_by_rule rules s port
