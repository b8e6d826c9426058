-- The numbers of the upper protocols that the domain carries: the protocol field of IPv4, and the last next
-- header of IPv6 (RFC 9293, RFC 768, RFC 792, RFC 4443).
use Rattle.std.specs.Prelude.{ℕ, ◌==◌, if◌then◌else◌, Option, Some, None}
use Rattle.octets.specs.declared.proto.Proto.{Proto}
use Rattle.octets.specs.declared.proto.Proto.TheVariants.{Tcp, Udp, Icmp}

-- the number of a protocol over IPv4, and over IPv6
abbrev pub number4 : Proto → ℕ
number4 Tcp = 6
number4 Udp = 17
number4 Icmp = 1

abbrev pub number6 : Proto → ℕ
number6 Tcp = 6
number6 Udp = 17
number6 Icmp = 58

-- the protocol of a number over IPv4, and over IPv6
abbrev pub proto4 : ℕ → Option Proto
proto4 n = if n == 6 then Some Tcp else if n == 17 then Some Udp else if n == 1 then Some Icmp else None

abbrev pub proto6 : ℕ → Option Proto
proto6 n = if n == 6 then Some Tcp else if n == 17 then Some Udp else if n == 58 then Some Icmp else None
