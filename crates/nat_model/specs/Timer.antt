-- How long a binding stays without a flow that refreshes it, in microseconds.
use Rattle.std.specs.Prelude.{ℕ, ◌*◌, Bool, if◌then◌else◌}
use Rattle.octets.specs.declared.proto.Proto.{Proto}
use Rattle.octets.specs.declared.proto.Proto.TheVariants.{Tcp, Udp, Icmp}

-- so many seconds, in microseconds
abbrev pub seconds : ℕ → ℕ
seconds n = n * 1000000

-- the timer of a binding, of TCP before and once it is live: 4 minutes and 2 hours 4 minutes (RFC 5382,
-- section 5, requirement 5), of UDP 5 minutes (RFC 4787, section 4.3, requirement 5), of ICMP queries 60 seconds
-- (RFC 5508, section 3.2, requirement 2). RFC 6146, section 4, has the same
abbrev pub timer : Proto → Bool → ℕ
timer Tcp live = if live then seconds 7440 else seconds 240
timer Udp live = seconds 300
timer Icmp live = seconds 60
