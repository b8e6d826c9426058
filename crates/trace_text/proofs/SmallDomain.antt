-- A domain in which the premises of laws are computed: under the forwarding rule of 2001:db8::/40 and 192.0.2.0/24 a home with PSID
-- 0x34, another edge with PSID 0x35, and the relay. The other hosts are behind 2001:db8:ffff::/64. The MTU of the access network is
-- 1280 octets.
use Rattle.std.proofs.Common.{◌≡◌, ℕ, ◌+◌, ◌^◌, ◌<◌, true, false, List, [], ◌∷◌, Option, Some, None, refl, arith}
use Rattle.std.proofs.lemmas.Bool.{false≢true}
use Rattle.std.proofs.lemmas.List.Elements.{All-cons, All-nil}
use Rattle.octets.specs.declared.address.Addr4.{Addr4}
use Rattle.octets.specs.declared.address.Addr6.{Addr6}
use Rattle.octets.specs.declared.mtus.Mtus.{Mtus}
use Rattle.octets.specs.declared.prefix.Prefix6.{Prefix6}
use Rattle.octets.specs.declared.proto.Proto.{Proto}
use Rattle.octets.specs.declared.proto.Proto.TheVariants.{Udp, Icmp}
use Rattle.map_rules.specs.declared.rule.Rule.{Rule}
use Rattle.map_rules.specs.declared.dmr.Dmr.{Dmr}
use Rattle.map_rules.specs.Embedding.{embedded, extract_of}
use Rattle.map_rules.specs.Rule.{rule_address, ce6_of, source_of}
use Rattle.rule_book.specs.Overlap.{Overlaps6}
use Rattle.rule_book.specs.Valid.{IsValid}
use Rattle.frag_table.specs.declared.note.Note.{Note}
use Rattle.ip4_packet.specs.declared.head.Head4.{Head4}
use Rattle.ip6_packet.specs.declared.head.Frag6.{Frag6}
use Rattle.ip6_packet.specs.declared.head.Head6.{Head6}
use Rattle.nat_model.specs.declared.binding.Binding.{Binding}
use Rattle.nat_model.specs.Machine.{renewed}
use Rattle.nat_model.specs.State.{Generation}
use Rattle.relay_node.specs.Relay.{Relay, own_of, extracted, source_addr}
use Rattle.trace_text.specs.Answered.{Step, AreRulesOf, rules_of_step}
use Rattle.rule_book.specs.Valid.{FitBook, FitsRule}
use Rattle.trace_text.specs.Crossings.{Setting, IsRelayOf}

abbrev pub rule : Rule
rule = record {
  prefix6 = record { bits = 0x2001_0db8_0000_0000_0000_0000_0000_0000; len = 40; within = omega arith; clear = refl };
  prefix4 = record { bits = 0xc000_0200; len = 24; within = omega arith; clear = refl };
  ea = 16;
  offset = 6;
  forward = true;
  ea_most = omega arith;
  ea_least = omega arith;
  edge_length = omega arith;
  offset_most = omega arith;
  psid_most = omega arith;
}

abbrev pub default : Dmr
default = record {
  prefix = record { bits = 0x2001_0db8_ffff_0000_0000_0000_0000_0000; len = 64; within = omega arith; clear = refl };
  valid = refl;
}

abbrev pub book : Generation
book = record { rules = rule ∷ []; dmr = default; number = 0 }

abbrev pub mtus : Mtus
mtus = record { mtu4 = 1500; mtu6 = 1280; least4 = omega arith; most4 = omega arith; least6 = omega arith; most6 = omega arith }

-- packets of record 7
abbrev pub setting : Setting
setting = record { dmr = default; mtus = mtus; number = 7 }

-- ---- addresses over IPv4 and over IPv6

abbrev pub shared : Addr4
shared = record { 0 = 0xc000_0212 }

abbrev pub host : Addr4
host = record { 0 = 0xc0a8_010a }

abbrev pub other_host : Addr4
other_host = record { 0 = 0xc0a8_0114 }

abbrev pub server : Addr4
server = record { 0 = 0xc633_6407 }

abbrev pub router : Addr4
router = record { 0 = 0xc633_6409 }

abbrev pub home6 : Addr6
home6 = record { 0 = 0x2001_0db8_0012_3400_0000_c000_0212_0034 }

abbrev pub other6 : Addr6
other6 = record { 0 = 0x2001_0db8_0012_3500_0000_c000_0212_0035 }

abbrev pub server6 : Addr6
server6 = record { 0 = 0x2001_0db8_ffff_0000_00c6_3364_0700_0000 }

abbrev pub router6 : Addr6
router6 = record { 0 = 0x2001_0db8_ffff_0000_00c6_3364_0900_0000 }

-- ---- headers: without options, of type of service 0

abbrev pub head4 : ℕ → Addr4 → Addr4 → ℕ → ℕ → Head4
head4 ttl src dst proto len = record {
  tos = 0;
  id = 0;
  df = false;
  mf = false;
  offset = 0;
  ttl = ttl;
  proto = proto;
  src = src;
  dst = dst;
  head_len = 20;
  total = 20 + len;
  routed = false;
}

abbrev pub start_of : Option Frag6 → ℕ
start_of None = 40
start_of (Some frag) = 48

abbrev pub head6 : ℕ → Addr6 → Addr6 → ℕ → ℕ → Option Frag6 → Head6
head6 hop src dst upper len frag =
    record { class = 0; hop = hop; src = src; dst = dst; upper = upper; start = start_of frag; length = len; frag = frag; left = None }

-- ---- the relay, in the hop of record 7, and in that of record 8, in which it sends what waited there

abbrev pub relay_in : ℕ → Relay
relay_in number = record {
  rules = rule ∷ [];
  dmr = default;
  params = record { relay4 = record { 0 = 0xc633_6401 }; mtus = mtus };
  id = number;
}

abbrev pub relay : Relay
relay = relay_in 7

pub relay_is : (number : ℕ) → IsRelayOf setting (relay_in number)
relay_is number = record { dmr = refl; mtus = refl }

pub relay_fits : FitBook (rule ∷ []) default
relay_fits = record {
  each = All-cons FitsRule rule [] (record { prefix4 = omega arith; prefix6 = omega arith }) (All-nil FitsRule);
  default = omega arith;
}

pub home_is_a_source : source_addr relay home6 1232 ≡ Some shared
unfolding source_of rule_address
home_is_a_source = refl

pub server_is_a_destination : extracted default server6 ≡ Some server.0
unfolding extract_of embedded
server_is_a_destination = refl

pub home_is_the_owner : own_of relay shared 1232 ≡ Some home6.0
unfolding ce6_of rule_address
home_is_the_owner = refl

-- ---- both edges: the home's host has port 1232 for its port 5000 and for its identifier 5000, and the host of the other edge has
-- port 1236 for its port 8080

abbrev pub binding : Proto → Addr4 → ℕ → ℕ → Binding
binding proto host host_port port =
    record { proto = proto; host = host; host_port = host_port; port = port; deadline = 300; live = false; kept = false }

abbrev pub home : Prefix6
home = record { bits = 0x2001_0db8_0012_3400_0000_0000_0000_0000; len = 56; within = omega arith; clear = refl }

abbrev pub other : Prefix6
other = record { bits = 0x2001_0db8_0012_3500_0000_0000_0000_0000; len = 56; within = omega arith; clear = refl }

abbrev pub bindings : List Binding
bindings = binding Udp host 5000 1232 ∷ binding Icmp host 5000 1232 ∷ []

abbrev pub other_bindings : List Binding
other_bindings = binding Udp other_host 8080 1236 ∷ []

-- a step of an edge with these notes on fragments
abbrev pub step_of : Prefix6 → List Binding → List Note → Step
step_of prefix bindings notes = record {
  prefix = prefix;
  state = record { book = book; clock = 10; bindings = bindings; notes = notes };
  moment = record { seen = book; now = 20; place = 3 };
}

abbrev pub at_home : List Note → Step
at_home notes = step_of home bindings notes

abbrev pub at_other : List Note → Step
at_other notes = step_of other other_bindings notes

valid : IsValid (rule ∷ []) default
valid = record {
  few = omega arith;
  apart4 = λ i j d before within. absurd (omega arith);
  apart6 = λ i j d before within. absurd (omega arith);
  apart_dmr = All-cons (λ r. ¬ Overlaps6 r.prefix6 default.prefix) rule [] (λ e. absurd (false≢true e)) (All-nil
      (λ r. ¬ Overlaps6 r.prefix6 default.prefix));
}

pub rules_are : (prefix : Prefix6) (bindings : List Binding) (notes : List Note)
    → AreRulesOf default (rules_of_step (step_of prefix bindings notes))
unfolding renewed
rules_are prefix bindings notes = record {
  fixed = refl;
  valid = valid;
  fit = All-cons (λ (r : Rule). r.prefix4.bits < 2 ^ 32) rule [] (omega arith) (All-nil (λ (r : Rule). r.prefix4.bits < 2 ^ 32));
}
