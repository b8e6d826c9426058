-- An IPv4 packet that an edge turns, because its destination is the edge's own address (hairpinning: RFC 4787, section 6;
-- of ICMP RFC 5508, section 5). It is sent with another source, and then received with another destination.
use Rattle.std.specs.Prelude.{ℕ, ◌+◌, ◌-◌, ◌*◌, ◌%◌, ◌^◌, List, length}
use Rattle.octets.specs.declared.address.Addr4.{Addr4}
use Rattle.ip4_packet.specs.declared.head.Head4.{Head4}
use Rattle.ip4_packet.specs.Grammar.{payload_of4}
use Rattle.ip4_packet.specs.Written.{written4}
use Rattle.icmp_messages.specs.declared.icmp4.Icmp4.{Icmp4}
use Rattle.icmp_messages.specs.declared.inner4.Inner4.{Inner4}
use Rattle.icmp_messages.specs.Message.{message4}
use Rattle.packets.specs.declared.packet4.Content4.{Content4}
use Rattle.packets.specs.declared.packet4.Content4.TheVariants.{Segment, Later, Query, Error}
use Rattle.packets.specs.declared.packet4.Packet4.{Packet4}
use Rattle.turned_packets.specs.Ends.{End, Source, Destination, NewEnd, with_address, embedded_end}
use Rattle.turned_packets.specs.Segment.{turned_segment}
use Rattle.turned_packets.specs.Embedded.{turned_embedded}

-- the TTL is lowered as the packet is sent, and stays as it is received (RFC 1812, section 5.3.1)
abbrev pub turned_ttl : End → ℕ → ℕ
turned_ttl Source ttl = ttl - 1
turned_ttl Destination ttl = ttl

-- the header of a packet with a payload of this length: no options, one address another
abbrev pub turned_head : NewEnd → Head4 → ℕ → Head4
turned_head new h len =
    record (with_address new.end new.addr h) { ttl = turned_ttl new.end h.ttl; head_len = 20; total = 20 + len }

-- a query: its identifier, the first two of the four octets behind its sum, becomes the port (RFC 5508, section 3)
abbrev pub turned_query : NewEnd → Icmp4 → Icmp4
turned_query new m = record m { rest = new.port * 2 ^ 16 + m.rest % 2 ^ 16 }

-- an error: the packet that it embeds shows the flow the other way
abbrev pub turned_error : NewEnd → Icmp4 → Inner4 → Icmp4
turned_error new m inner = record m { body = turned_embedded (embedded_end new) inner m.body }

-- what the packet carries; sums of ICMP messages are made anew, and a later fragment has no port to replace
abbrev pub turned_payload : NewEnd → Head4 → List ℕ → Content4 → List ℕ
turned_payload new h payload (Segment proto l4) = turned_segment new h proto l4 payload
turned_payload new h payload (Later proto) = payload
turned_payload new h payload (Query message row) = message4 (turned_query new message)
turned_payload new h payload (Error message row inner) = message4 (turned_error new message inner)

-- the packet in these octets, in the one form that is written
abbrev pub turned : NewEnd → Packet4 → List ℕ → List ℕ
turned new p octets =
    let payload = payload_of4 p.head octets in
    written4 (turned_head new p.head (length payload)) (turned_payload new p.head payload p.content)

-- as it is sent to the edge itself, and as a host of the edge receives it
abbrev pub turned_out : Addr4 → ℕ → Packet4 → List ℕ → List ℕ
turned_out from port p octets = turned (record { end = Source; addr = from; port = port }) p octets

abbrev pub turned_in : Addr4 → ℕ → Packet4 → List ℕ → List ℕ
turned_in to port p octets = turned (record { end = Destination; addr = to; port = port }) p octets
