-- Where packets stand before a node takes them, where a record starts, and where what a node sends goes on (RFC 7599, section 6).
use Rattle.std.specs.Prelude.{ℕ, ◌<◌, true, false, if◌then◌else◌, List, length, Option, Some, None}
use Rattle.std.specs.Option.{option_map}
use Rattle.std.specs.List.{position}
use Rattle.ip6_packet.specs.Destination.{destination_in}
use Rattle.rule_book.specs.Far.{has_addr6}
use Rattle.rule_book.specs.Book.{dmr_of}
use Rattle.hops.specs.declared.hop.Out.{Out}
use Rattle.hops.specs.declared.hop.Out.TheVariants.{Lan as OnLan, Access as OnAccess, Core as IntoCore, Turn}
use Rattle.edge_node.specs.declared.way.Way.TheVariants.{Lan, Access, Turned}
use Rattle.setup_tables.specs.declared.edge.EdgeLine.{EdgeLine}
use Rattle.mapt_setup.specs.declared.capture.Side.{Side}
use Rattle.mapt_setup.specs.declared.capture.Side.TheVariants.{Lan as LanOf, Access as FromAccess, Core as FromCore}
use Rattle.mapt_setup.specs.declared.setup.Setup.{Setup}
use Rattle.journeys.specs.declared.stand.Stand.{Stand}
use Rattle.journeys.specs.declared.stand.Stand.TheVariants.{Edge, Relay}

-- a packet that a node is to take
pub record Waiting : Type 0 where
  pub stand : Stand
  pub octets : List ℕ

abbrev pub at_stand : List ℕ → Stand → Waiting
at_stand octets stand = record { stand = stand; octets = octets }

-- an edge where one stands is one of the setup's
abbrev pub StandsIn : Setup → Stand → Type 0
StandsIn setup (Edge number way) = number < length setup.edges
StandsIn setup (Relay six) = Unit {0}

-- the edge whose prefix has an address, by its number; prefixes of edges don't overlap
abbrev pub edge_with : List EdgeLine → ℕ → Option ℕ
edge_with edges addr = position (λ (line : EdgeLine). has_addr6 line.prefix addr) edges

-- an IPv6 destination is that of the edge whose prefix has it, of the relay inside the default mapping rule, and else of no node
abbrev pub node_by : Setup → ℕ → Option ℕ → Option Stand
node_by setup dst (Some number) = Some (Edge number Access)
node_by setup dst None = if has_addr6 (dmr_of setup.book).prefix dst then Some (Relay true) else None

abbrev pub node_of : Setup → ℕ → Option Stand
node_of setup dst = node_by setup dst (edge_with setup.edges dst)

-- Octets go over the access network to the node of their destination, and those that have none to no node.
abbrev pub over_access : Setup → Option ℕ → Option Stand
over_access setup None = None
over_access setup (Some dst) = node_of setup dst

-- what turns stands at its node once more
abbrev pub turned_at : Stand → Stand
turned_at (Edge number way) = Edge number Turned
turned_at (Relay six) = Relay false

-- Where a packet stands next that a node sends which took one here: at a node, or nowhere in the domain.
abbrev pub next_stand : Setup → Stand → Out → Option Stand
next_stand setup here (OnLan octets) = None
next_stand setup here (OnAccess octets) = over_access setup (destination_in octets)
next_stand setup here (IntoCore octets) = None
next_stand setup here (Turn octets) = Some (turned_at here)

abbrev pub octets_of : Out → List ℕ
octets_of (OnLan octets) = octets
octets_of (OnAccess octets) = octets
octets_of (IntoCore octets) = octets
octets_of (Turn octets) = octets

-- so it goes on
abbrev pub onward : Setup → Stand → Out → Option Waiting
onward setup here out = option_map (at_stand (octets_of out)) (next_stand setup here out)

-- Where a record starts: at the edge of its LAN, at the relay, or at the node of its destination. Octets of the access network
-- that are no header of IPv6 go to the relay, which says what is wrong with them.
abbrev pub arrives_by : Setup → Option ℕ → Option Stand
arrives_by setup None = Some (Relay true)
arrives_by setup (Some dst) = node_of setup dst

abbrev pub first_stand : Setup → Side → List ℕ → Option Stand
first_stand setup (LanOf number) octets = Some (Edge number Lan)
first_stand setup FromAccess octets = arrives_by setup (destination_in octets)
first_stand setup FromCore octets = Some (Relay false)

abbrev pub start_of : Setup → Side → List ℕ → Option Waiting
start_of setup side octets = option_map (at_stand octets) (first_stand setup side octets)
