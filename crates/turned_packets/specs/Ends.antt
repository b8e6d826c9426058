-- The two ends of a packet, and what stands there instead once an edge turned the packet.
use Rattle.std.specs.Prelude.{ℕ}
use Rattle.octets.specs.declared.address.Addr4.{Addr4}
use Rattle.ip4_packet.specs.declared.head.Head4.{Head4}
use Rattle.l4_headers.specs.declared.ports.Ports.{Ports}

-- an end of a packet
pub data End : Type 0 where
  Source : End
  Destination : End

-- the address and the port that come to stand at an end
pub record NewEnd : Type 0 where
  pub end : End
  pub addr : Addr4
  pub port : ℕ

-- the other end
abbrev pub other_end : End → End
other_end Source = Destination
other_end Destination = Source

-- the address and the port at an end
abbrev pub address_at : End → Head4 → Addr4
address_at Source h = h.src
address_at Destination h = h.dst

abbrev pub port_at : End → Ports → ℕ
port_at Source ports = ports.src
port_at Destination ports = ports.dst

-- another address and another port there
abbrev pub with_address : End → Addr4 → Head4 → Head4
with_address Source addr h = record h { src = addr }
with_address Destination addr h = record h { dst = addr }

abbrev pub with_port : End → ℕ → Ports → Ports
with_port Source port ports = record ports { src = port }
with_port Destination port ports = record ports { dst = port }

-- the same end of a flow in the packet that an error embeds, which went the other way (RFC 5508, section 5)
abbrev pub embedded_end : NewEnd → NewEnd
embedded_end new = record new { end = other_end new.end }
