-- The definitions, computed: two generations of rules, in which the prefix of the edges has another IPv4 prefix.
use Rattle.std.proofs.Common.{◌≡◌, ℕ, false, [], ◌∷◌, Some, refl, arith}
use Rattle.octets.specs.declared.prefix.Prefix6.{Prefix6}
use Rattle.map_rules.specs.declared.dmr.Dmr.{Dmr}
use Rattle.map_rules.specs.declared.rule.Rule.{Rule}
use Rattle.map_rules.specs.Embedding.{extract_of, embedded}
use Rattle.map_rules.specs.Rule.{source_of, rule_address}
use Rattle.rule_book.specs.declared.view.FarOf.TheVariants.{Addr, Spoofed}
use Rattle.rule_book.specs.Far.{far_of}
use Rattle.trace_text.specs.Behind.{ipv4_behind}

-- 2001:db8::/40, 192.0.2.0/24 and then 203.0.113.0/24, 16 EA bits, offset 6; 2001:db8:ffff::/64
abbrev edges : Prefix6
edges = record { bits = 0x2001_0db8_0000_0000_0000_0000_0000_0000; len = 40; within = omega arith; clear = refl }

abbrev first : Rule
first = record {
  prefix6 = edges;
  prefix4 = record { bits = 0xc000_0200; len = 24; within = omega arith; clear = refl };
  ea = 16;
  offset = 6;
  forward = false;
  ea_most = omega arith;
  ea_least = omega arith;
  edge_length = omega arith;
  offset_most = omega arith;
  psid_most = omega arith;
}

abbrev second : Rule
second = record {
  prefix6 = edges;
  prefix4 = record { bits = 0xcb00_7100; len = 24; within = omega arith; clear = refl };
  ea = 16;
  offset = 6;
  forward = false;
  ea_most = omega arith;
  ea_least = omega arith;
  edge_length = omega arith;
  offset_most = omega arith;
  psid_most = omega arith;
}

abbrev default : Dmr
default = record { prefix = record { bits = 0x2001_0db8_ffff_0000_0000_0000_0000_0000; len = 64; within = omega arith; clear = refl }; valid = refl }

-- the MAP address of 192.0.2.18 and PSID 0x34
abbrev home : ℕ
home = 0x2001_0db8_0012_3400_0000_c000_0212_0034

-- it holds 192.0.2.18, which the rules of the first generation find behind it
pub the_address_is_held : ipv4_behind default home ≡ Some 0xc000_0212
the_address_is_held = refl

pub the_first_generation_accepts_it : far_of (first ∷ []) default home 1232 ≡ Addr (record { 0 = 0xc000_0212 })
unfolding source_of rule_address
the_first_generation_accepts_it = refl

-- under those of the second it is no MAP address, whatever its EA bits say: it isn't accepted, and not as another one
pub the_second_generation_refuses_it : far_of (second ∷ []) default home 1232 ≡ Spoofed
unfolding source_of rule_address
the_second_generation_refuses_it = refl

-- 198.51.100.7 embedded under the default mapping rule
pub an_embedded_address_is_held : ipv4_behind default 0x2001_0db8_ffff_0000_00c6_3364_0700_0000 ≡ Some 0xc633_6407
unfolding extract_of embedded
an_embedded_address_is_held = refl
