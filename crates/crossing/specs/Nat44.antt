-- What the NAPT44 of an edge replaces in a packet that crosses: one address and one port (RFC 3022, section 4; of an
-- ICMP error RFC 5508, section 4.2). Payloads stay as they were read, and ports stand beside them.
use Rattle.std.specs.Prelude.{ℕ, ◌+◌, ◌*◌, ◌%◌, ◌^◌, List, [], ◌∷◌, Option, Some, None, option_and_then}
use Rattle.octets.specs.declared.address.Addr4.{Addr4}
use Rattle.octets.specs.declared.proto.Proto.{Proto}
use Rattle.octets.specs.declared.proto.Proto.TheVariants.{Tcp, Udp, Icmp}
use Rattle.l4_headers.specs.declared.ports.Ports.{Ports}
use Rattle.l4_headers.specs.declared.ports.L4.{L4}
use Rattle.icmp_messages.specs.declared.icmp4.Icmp4.{Icmp4}
use Rattle.icmp_messages.specs.declared.inner4.Inner4.{Inner4}
use Rattle.nat_model.specs.declared.answer.Answer.{Answer}
use Rattle.nat_model.specs.declared.answer.Answer.TheVariants.{Out, Turn, In, Kept, Held, Refused}
use Rattle.packets.specs.declared.packet4.Content4.{Content4}
use Rattle.packets.specs.declared.packet4.Content4.TheVariants.{Segment, Later, Query, Error}
use Rattle.packets.specs.declared.packet4.Packet4.{Packet4}

-- another source port, and another destination port; both ports of an echo are its identifier
abbrev pub with_source : Proto → ℕ → Ports → Ports
with_source Tcp port ports = record ports { src = port }
with_source Udp port ports = record ports { src = port }
with_source Icmp port ports = record { src = port; dst = port }

abbrev pub with_destination : Proto → ℕ → Ports → Ports
with_destination Tcp port ports = record ports { dst = port }
with_destination Udp port ports = record ports { dst = port }
with_destination Icmp port ports = record { src = port; dst = port }

-- a transport header with other ports
abbrev pub with_ports : Ports → L4 → L4
with_ports ports l4 = record { ports = ports; sum = l4.sum; flags = l4.flags }

-- a query with another identifier, which has the first two of the four octets behind the sum (RFC 792)
abbrev pub with_identifier : ℕ → Icmp4 → Icmp4
with_identifier port m = record m { rest = port * 2 ^ 16 + m.rest % 2 ^ 16 }

-- an embedded packet from another address and port, and to another address and port
abbrev pub inner_from : Addr4 → ℕ → Inner4 → Inner4
inner_from addr port inner = record inner { head = record inner.head { src = addr }; ports = with_source inner.proto port inner.ports }

abbrev pub inner_to : Addr4 → ℕ → Inner4 → Inner4
inner_to addr port inner = record inner { head = record inner.head { dst = addr }; ports = with_destination inner.proto port inner.ports }

-- The packet is sent from this address and port. An error is sent about a packet that came to them.
abbrev pub content_from : Addr4 → ℕ → Content4 → Content4
content_from addr port (Segment proto l4) = Segment proto (with_ports (with_source proto port l4.ports) l4)
content_from addr port (Later proto) = Later proto
content_from addr port (Query m row) = Query (with_identifier port m) row
content_from addr port (Error m row inner) = Error m row (inner_to addr port inner)

abbrev pub packet_from : Addr4 → ℕ → Packet4 → Packet4
packet_from addr port p = record { head = record p.head { src = addr }; content = content_from addr port p.content }

-- The packet is received at this address and port. An error is received about a packet that came from them.
abbrev pub content_to : Addr4 → ℕ → Content4 → Content4
content_to addr port (Segment proto l4) = Segment proto (with_ports (with_destination proto port l4.ports) l4)
content_to addr port (Later proto) = Later proto
content_to addr port (Query m row) = Query (with_identifier port m) row
content_to addr port (Error m row inner) = Error m row (inner_from addr port inner)

abbrev pub packet_to : Addr4 → ℕ → Packet4 → Packet4
packet_to addr port p = record { head = record p.head { dst = addr }; content = content_to addr port p.content }

-- the packet with what the answer replaces; with any other answer it crosses nothing
abbrev pub nat44 : Packet4 → Answer → Option Packet4
nat44 p (Out from port src6 dst6 freed) = Some (packet_from from port p)
nat44 p (In to port from peer freed) = Some (packet_to to port p)
nat44 p (Turn from port freed) = None
nat44 p (Kept port until) = None
nat44 p Held = None
nat44 p (Refused cause freed) = None

-- with the answers of the edges that it crosses, in turn: of one, or of two from edge to edge
abbrev pub nat44_by : Packet4 → List Answer → Option Packet4
nat44_by p [] = Some p
nat44_by p (answer ∷ answers) = option_and_then (λ q. nat44_by q answers) (nat44 p answer)
