-- Transport headers of a packet that gets other addresses and ports (RFC 7915, sections 4.5 and 5.5). The sum
-- changes by the words that changed (RFC 1624), and a sum that was wrong stays wrong.
use Rattle.std.specs.Prelude.{ℕ, ◌+◌, List}
use Rattle.octets.specs.declared.proto.Proto.{Proto}
use Rattle.octets.specs.declared.proto.Proto.TheVariants.{Tcp, Udp, Icmp}
use Rattle.inet_sum.specs.Sum.{words, check_sum, adjusted, as_udp}
use Rattle.l4_headers.specs.declared.ports.Ports.{Ports}
use Rattle.l4_headers.specs.declared.ports.L4.{L4}
use Rattle.l4_headers.specs.Transport.{with_l4}

-- a check sum as its protocol writes it: UDP has 65535 in the place of 0 (RFC 768)
abbrev pub as_written : Proto → ℕ → ℕ
as_written Tcp c = c
as_written Udp c = as_udp c
as_written Icmp c = c

-- the sum of the words of both ports
abbrev pub port_words : Ports → ℕ
port_words ports = ports.src + ports.dst

-- the sum after the addresses' words, of sum `old`, became words of sum `new`, and the ports became these
abbrev pub readdressed_sum : Proto → L4 → ℕ → ℕ → Ports → ℕ
readdressed_sum proto l4 old new ports =
    as_written proto (adjusted l4.sum (old + port_words l4.ports) (new + port_words ports))

-- the sum of a UDP datagram with these ports, computed over a pseudo header whose words have this sum (RFC 768)
abbrev pub computed_udp_sum : ℕ → List ℕ → Ports → ℕ
computed_udp_sum pseudo payload ports = as_udp (check_sum (pseudo + words (with_l4 Udp payload ports 0)))
