-- The packet that a turned ICMP error embeds (RFC 792; RFC 5508, section 4.2): an address, a port and the sums that cover
-- them are others, where they stand. All else is as it was, also what follows the embedded packet.
use Rattle.std.specs.Prelude.{ℕ, ◌+◌, nat_le, if◌then◌else◌, List, ◌++◌, length, take, drop}
use Rattle.octets.specs.Field.{word, in_quad, with_word}
use Rattle.octets.specs.declared.proto.Proto.{Proto}
use Rattle.octets.specs.declared.proto.Proto.TheVariants.{Tcp, Udp, Icmp}
use Rattle.inet_sum.specs.Sum.{words, adjusted}
use Rattle.ip4_packet.specs.declared.head.Head4.{Head4}
use Rattle.icmp_messages.specs.declared.inner4.Inner4.{Inner4}
use Rattle.turned_packets.specs.Ends.{End, Source, Destination, NewEnd, address_at, port_at}
use Rattle.turned_packets.specs.Segment.{changed_sum, end_words}

-- the octets with a number of 32 bits at a place, and all others as they were
abbrev pub with_quad : ℕ → ℕ → List ℕ → List ℕ
with_quad at n octets = take at octets ++ (in_quad n ++ drop (at + 4) octets)

-- where an IPv4 header has the address of an end (RFC 791, section 3.1)
abbrev pub address_place : End → ℕ
address_place Source = 12
address_place Destination = 16

-- where a transport header has the port of an end (RFC 9293, section 3.1; RFC 768), and an echo its identifier (RFC 792)
abbrev pub port_place : Proto → End → ℕ
port_place Icmp end = 4
port_place _ Source = 0
port_place _ Destination = 2

-- where it has its sum
abbrev pub sum_place : Proto → ℕ
sum_place Tcp = 16
sum_place Udp = 6
sum_place Icmp = 2

-- the header at the front of these octets: the address, and the sum of the header (RFC 1624)
abbrev pub embedded_header : NewEnd → Head4 → List ℕ → List ℕ
embedded_header new h octets =
    let sum = adjusted (word octets 10) (words (in_quad (address_at new.end h).0)) (words (in_quad new.addr.0)) in
    with_quad (address_place new.end) new.addr.0 (with_word 10 sum octets)

-- the sum of the transport header with the new port
abbrev pub embedded_sum : NewEnd → Inner4 → ℕ
embedded_sum new inner =
    let old_words = end_words inner.proto (address_at new.end inner.head) (port_at new.end inner.ports) in
    let new_words = end_words inner.proto new.addr new.port in
    changed_sum inner.proto (word inner.payload (sum_place inner.proto)) old_words new_words

-- the transport header behind it: the port, and the sum where both its octets stand in the embedded packet
abbrev pub embedded_transport : NewEnd → Inner4 → List ℕ → List ℕ
embedded_transport new inner octets =
    let start = inner.head.head_len in
    let ported = with_word (start + port_place inner.proto new.end) new.port octets in
    if nat_le (sum_place inner.proto + 2) (length inner.payload)
    then with_word (start + sum_place inner.proto) (embedded_sum new inner) ported
    else ported

-- the octets that begin with the embedded packet
abbrev pub turned_embedded : NewEnd → Inner4 → List ℕ → List ℕ
turned_embedded new inner octets = embedded_transport new inner (embedded_header new inner.head octets)
