-- The transport header of a turned packet: one port is another, and the sum changes with it and with the address.
use Rattle.std.specs.Prelude.{ℕ, ◌+◌, ◌<◌, ◌==◌, if◌then◌else◌, List}
use Rattle.octets.specs.Field.{in_quad}
use Rattle.octets.specs.declared.address.Addr4.{Addr4}
use Rattle.octets.specs.declared.proto.Proto.{Proto}
use Rattle.octets.specs.declared.proto.Proto.TheVariants.{Tcp, Udp, Icmp}
use Rattle.inet_sum.specs.Sum.{words, adjusted, as_udp}
use Rattle.ip4_packet.specs.declared.head.Head4.{Head4}
use Rattle.l4_headers.specs.declared.ports.Ports.{Ports}
use Rattle.l4_headers.specs.declared.ports.L4.{L4}
use Rattle.l4_headers.specs.Transport.{with_l4}
use Rattle.turned_packets.specs.Ends.{NewEnd, address_at, port_at, with_port}

-- The sum `c` after words of sum `old` that it covers became words of sum `new` (RFC 1624). UDP has 65535 in the place of
-- 0, and a 0 there says that there is no sum, which stays so (RFC 768).
abbrev pub changed_sum : Proto → ℕ → ℕ → ℕ → ℕ
changed_sum Tcp c old new = adjusted c old new
changed_sum Udp c old new = if c == 0 then 0 else as_udp (adjusted c old new)
changed_sum Icmp c old new = adjusted c old new

-- The sum of the words at one end that a transport sum covers: the address and the port. The sum of ICMPv4 covers no
-- address, and an echo has its identifier as port (RFC 792).
abbrev pub end_words : Proto → Addr4 → ℕ → ℕ
end_words Tcp addr port = words (in_quad addr.0) + port
end_words Udp addr port = words (in_quad addr.0) + port
end_words Icmp addr port = port

-- a TCP or UDP payload with its header behind this one, with the new port at its end
abbrev pub turned_segment : NewEnd → Head4 → Proto → L4 → List ℕ → List ℕ
turned_segment new h proto l4 payload =
    let old_words = end_words proto (address_at new.end h) (port_at new.end l4.ports) in
    let new_words = end_words proto new.addr new.port in
    with_l4 proto payload (with_port new.end new.port l4.ports) (changed_sum proto l4.sum old_words new_words)

-- the ports there then are numbers of 16 bits
abbrev pub PortsFit : NewEnd → Ports → Type 0
PortsFit new ports =
    let there = with_port new.end new.port ports in
    (there.src < 65536) × (there.dst < 65536)
