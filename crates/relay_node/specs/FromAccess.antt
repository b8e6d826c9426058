-- What becomes of a packet from the access network.
use Rattle.std.specs.Prelude.{◌≡◌, ℕ, true, List, Option, Some, None}
use Rattle.octets.specs.declared.address.Addr4.{Addr4}
use Rattle.octets.specs.declared.address.Addr6.{Addr6}
use Rattle.octets.specs.declared.cause.Cause.{Cause}
use Rattle.octets.specs.declared.cause.Cause.TheVariants.{Spoofed, NotDefault}
use Rattle.octets.specs.declared.parcel.Parcel.{Parcel}
use Rattle.ip6_packet.specs.declared.head.Head6.{Head6}
use Rattle.ip6_packet.specs.Grammar.{payload_of6}
use Rattle.l4_headers.specs.declared.ports.Ports.{Ports}
use Rattle.l4_headers.specs.declared.ends.Ends.{Ends}
use Rattle.hops.specs.declared.hop.Hop.{Hop}
use Rattle.packets.specs.declared.packet6.Packet6.{Packet6}
use Rattle.packets.specs.Asked.{flow_of6, extent_of6}
use Rattle.packets.specs.Packet6.{IsPacket6}
use Rattle.hops.specs.declared.exit.Exit.TheVariants.{ToAccess}
use Rattle.transit.specs.declared.passage.Passage.{Passage}
use Rattle.hops.specs.declared.answering.Answering.{Answering}
use Rattle.hops.specs.Hop.{lost, IsRefused, IsCarried, IsLaterFragment, IsOne, AreFreed}
use Rattle.transit.specs.Passage64.{IsPassage64}
use Rattle.hops.specs.Reply.{IsReply6}
use Rattle.relay_node.specs.Relay.{Relay, source_port, embedded_in, extracted, source_addr, exit_of}

-- how it answers a packet from the access network: from its address embedded in the default mapping rule
abbrev pub answering6 : Relay → Answering Addr6
answering6 relay = record {
  mtus = relay.params.mtus;
  src = embedded_in relay.dmr relay.params.relay4;
  id = relay.id;
  exit = ToAccess;
}

-- dropped, and answered where an error may answer it
abbrev pub IsRefused6 : Relay → List ℕ → Head6 → Cause → Hop → Type 0
IsRefused6 relay octets h cause hop = IsRefused (IsReply6 (answering6 relay) h octets) ToAccess cause hop

-- the ends over IPv4; the packet that an error embeds went the other way
abbrev pub ends64 : Addr4 → Addr4 → Ports → Ends Addr4
ends64 src dst ports = record { src = src; dst = dst; inner_src = dst; inner_dst = src; ports = ports }

-- between these ends it is translated, and leaves for the core or for the relay itself
abbrev pub IsPassed6 : Relay → Packet6 → List ℕ → Ends Addr4 → Hop → Type 0
IsPassed6 relay p octets ends hop =
    (passage : Passage)
    × IsPassage64 (record { mtus = relay.params.mtus; ends = ends; id = relay.id }) p (payload_of6 p.head octets) passage
    × IsCarried (IsRefused6 relay octets p.head) (exit_of relay.rules ends.dst) passage hop

-- First its source has to be a rule's address for its port, and then its destination has to embed one.
abbrev pub IsSent6 : (Ends Addr4 → Hop → Type 0) → Ports → Option Addr4 → Option ℕ → Hop → Type 0
IsSent6 Passed ports None dst hop = hop ≡ lost Spoofed
IsSent6 Passed ports (Some src) None hop = hop ≡ lost NotDefault
IsSent6 Passed ports (Some src) (Some dst) hop = Passed (ends64 src (record { 0 = dst }) ports) hop

-- what becomes of the packet where its flow has these ports
abbrev pub Becomes6 : Relay → Packet6 → List ℕ → Ports → Hop → Type 0
Becomes6 relay p octets ports hop =
    IsSent6 (IsPassed6 relay p octets) ports
    (source_addr relay p.head.src (source_port (flow_of6 p.content).fault ports)) (extracted relay.dmr p.head.dst) hop

-- fragments that are freed: the later ones among them are taken as packets of the flow
abbrev pub IsLaterFragment6 : List ℕ → Type 0
IsLaterFragment6 octets = IsLaterFragment (IsPacket6 true) (λ p. extent_of6 p.head) octets

abbrev pub IsOne6 : Relay → Ports → List ℕ → Hop → Type 0
IsOne6 relay ports octets hop = IsOne (IsPacket6 true) (λ p octets hop. Becomes6 relay p octets ports hop) octets hop

abbrev pub AreFreed6 : Relay → Ports → List Parcel → Hop → Type 0
AreFreed6 relay ports parcels hop = AreFreed IsLaterFragment6 (IsOne6 relay ports) parcels hop
