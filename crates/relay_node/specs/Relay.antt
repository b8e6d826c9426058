-- The relay as one hop finds it, and the addresses that its book gives (RFC 7597, section 8; RFC 7599, section 8).
use Rattle.std.specs.Prelude.{ℕ, Bool, if◌then◌else◌, List, Option, Some, None}
use Rattle.octets.specs.declared.address.Addr4.{Addr4}
use Rattle.octets.specs.declared.address.Addr6.{Addr6}
use Rattle.l4_headers.specs.declared.ports.Ports.{Ports}
use Rattle.map_rules.specs.declared.rule.Rule.{Rule}
use Rattle.map_rules.specs.declared.dmr.Dmr.{Dmr}
use Rattle.map_rules.specs.Embedding.{embedded, extract_of}
use Rattle.rule_book.specs.declared.view.FarOf.{FarOf}
use Rattle.rule_book.specs.declared.view.FarOf.TheVariants.{Addr, Spoofed, NotDefault}
use Rattle.rule_book.specs.Far.{has_addr6, far_of}
use Rattle.rule_book.specs.Owner.{owner_of, covers_of}
use Rattle.hops.specs.declared.exit.Exit.{Exit}
use Rattle.hops.specs.declared.exit.Exit.TheVariants.{ToCore, ToItself}
use Rattle.relay_node.specs.declared.params.RelayParams.{RelayParams}

-- the rules and the default mapping rule of one book, the relay's own address and MTUs, and the identification that packets
-- get which have none
pub record Relay : Type 0 where
  pub rules : List Rule
  pub dmr : Dmr
  pub params : RelayParams
  pub id : ℕ

abbrev pub relay_at : List Rule → Dmr → RelayParams → ℕ → Relay
relay_at rules dmr params id = record { rules = rules; dmr = dmr; params = params; id = id }

-- The port at a packet's near end, and the one at its far end, by whether it is an error. An error goes against the packet
-- that it embeds, whose ports these are.
abbrev pub source_port : Bool → Ports → ℕ
source_port fault ports = if fault then ports.dst else ports.src

abbrev pub destination_port : Bool → Ports → ℕ
destination_port fault ports = if fault then ports.src else ports.dst

-- an IPv4 address embedded under the default mapping rule
abbrev pub embedded_in : Dmr → Addr4 → Addr6
embedded_in dmr a = record { 0 = embedded dmr.prefix.bits dmr.prefix.len a.0 }

-- the address that is embedded in an IPv6 address
abbrev pub extracted : Dmr → Addr6 → Option ℕ
extracted dmr a = extract_of dmr.prefix.bits dmr.prefix.len a.0

-- the IPv4 address whose MAP address it is
abbrev pub address_in : FarOf → Option Addr4
address_in (Addr a) = Some a
address_in Spoofed = None
address_in NotDefault = None

-- The IPv4 address of a source: that whose MAP address under a rule it is, for this port. A source inside the default
-- mapping rule is in no rule, and has none.
abbrev pub source_addr : Relay → Addr6 → ℕ → Option Addr4
source_addr relay s port =
    if has_addr6 relay.dmr.prefix s.0 then None else address_in (far_of relay.rules relay.dmr s.0 port)

-- the MAP address of a destination
abbrev pub own_of : Relay → Addr4 → ℕ → Option ℕ
own_of relay d port = owner_of relay.rules d.0 port

-- where an IPv4 packet to this destination goes: once more to the relay where a rule's IPv4 prefix has it, and else out into
-- the core
abbrev pub exit_of : List Rule → Addr4 → Exit
exit_of rules d = if covers_of rules d.0 then ToItself else ToCore
