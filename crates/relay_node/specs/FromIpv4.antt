-- What becomes of a packet from IPv4: from the core, or turned by the relay itself.
use Rattle.std.specs.Prelude.{◌≡◌, ℕ, List, Option, Some, None}
use Rattle.octets.specs.declared.address.Addr4.{Addr4}
use Rattle.octets.specs.declared.address.Addr6.{Addr6}
use Rattle.octets.specs.declared.cause.Cause.{Cause}
use Rattle.octets.specs.declared.cause.Cause.TheVariants.{NoOwner}
use Rattle.octets.specs.declared.parcel.Parcel.{Parcel}
use Rattle.ip4_packet.specs.declared.head.Head4.{Head4}
use Rattle.ip4_packet.specs.Grammar.{payload_of4}
use Rattle.l4_headers.specs.declared.ports.Ports.{Ports}
use Rattle.l4_headers.specs.declared.ends.Ends.{Ends}
use Rattle.hops.specs.declared.hop.Hop.{Hop}
use Rattle.packets.specs.declared.packet4.Content4.{Content4}
use Rattle.packets.specs.declared.packet4.Content4.TheVariants.{Segment, Later as LaterOf, Query, Error}
use Rattle.packets.specs.declared.packet4.Packet4.{Packet4}
use Rattle.packets.specs.Asked.{flow_of4, extent_of4}
use Rattle.packets.specs.Packet4.{IsPacket4}
use Rattle.hops.specs.declared.exit.Exit.TheVariants.{ToAccess}
use Rattle.transit.specs.declared.passage.Passage.{Passage}
use Rattle.hops.specs.declared.answering.Answering.{Answering}
use Rattle.hops.specs.Hop.{lost, IsRefused, IsCarried, IsLaterFragment, IsOne, AreFreed}
use Rattle.transit.specs.Passage46.{IsPassage46}
use Rattle.hops.specs.Reply.{IsReply4}
use Rattle.relay_node.specs.Relay.{Relay, destination_port, embedded_in, own_of, exit_of}

-- how it answers a packet from IPv4: from its own address; the answer goes as a packet to the source does
abbrev pub answering4 : Relay → Head4 → Answering Addr4
answering4 relay h = record {
  mtus = relay.params.mtus;
  src = relay.params.relay4;
  id = relay.id;
  exit = exit_of relay.rules h.src;
}

-- dropped, and answered where an error may answer it
abbrev pub IsRefused4 : Relay → List ℕ → Head4 → Cause → Hop → Type 0
IsRefused4 relay octets h cause hop = IsRefused (IsReply4 (answering4 relay h) h octets) (exit_of relay.rules h.src) cause hop

-- the far end of the flow: the packet's source, and of an error the destination of the packet that it embeds
abbrev pub far_end : Addr4 → Content4 → Addr4
far_end src (Segment proto l4) = src
far_end src (LaterOf proto) = src
far_end src (Query message row) = src
far_end src (Error message row inner) = inner.head.dst

-- The ends over IPv6, where the destination has this MAP address. The packet that an error embeds came from there.
abbrev pub ends46 : Relay → Packet4 → Addr6 → Ports → Ends Addr6
ends46 relay p own ports = record {
  src = embedded_in relay.dmr p.head.src;
  dst = own;
  inner_src = own;
  inner_dst = embedded_in relay.dmr (far_end p.head.src p.content);
  ports = ports;
}

-- between these ends it is translated, and leaves for the access network
abbrev pub IsPassed4 : Relay → Packet4 → List ℕ → Ends Addr6 → Hop → Type 0
IsPassed4 relay p octets ends hop =
    (passage : Passage)
    × IsPassage46 relay.params.mtus p (payload_of4 p.head octets) ends passage
    × IsCarried (IsRefused4 relay octets p.head) ToAccess passage hop

-- a rule has to give its destination
abbrev pub IsSent4 : (Addr6 → Hop → Type 0) → Option ℕ → Hop → Type 0
IsSent4 Passed None hop = hop ≡ lost NoOwner
IsSent4 Passed (Some own) hop = Passed (record { 0 = own }) hop

-- what becomes of the packet where its flow has these ports
abbrev pub Becomes4 : Relay → Packet4 → List ℕ → Ports → Hop → Type 0
Becomes4 relay p octets ports hop =
    IsSent4 (λ own. IsPassed4 relay p octets (ends46 relay p own ports))
    (own_of relay p.head.dst (destination_port (flow_of4 p.content).fault ports)) hop

-- fragments that are freed: the later ones among them are taken as packets of the flow
abbrev pub IsLaterFragment4 : List ℕ → Type 0
IsLaterFragment4 octets = IsLaterFragment IsPacket4 (λ p. extent_of4 p.head) octets

abbrev pub IsOne4 : Relay → Ports → List ℕ → Hop → Type 0
IsOne4 relay ports octets hop = IsOne IsPacket4 (λ p octets hop. Becomes4 relay p octets ports hop) octets hop

abbrev pub AreFreed4 : Relay → Ports → List Parcel → Hop → Type 0
AreFreed4 relay ports parcels hop = AreFreed IsLaterFragment4 (IsOne4 relay ports) parcels hop
