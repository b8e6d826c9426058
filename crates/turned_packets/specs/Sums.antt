-- The packet that a turned error embeds as it is read again, and its sums. The transport sum covers the pseudo header with the
-- declared length, and the whole payload, of which the error may hold the beginning alone.
use Rattle.std.specs.Prelude.{◌≡◌, ℕ, ◌+◌, nat_le, if◌then◌else◌, List, length, drop}
use Rattle.octets.specs.Field.{word, with_word}
use Rattle.octets.specs.declared.proto.Proto.{Proto}
use Rattle.octets.specs.declared.proto.Proto.TheVariants.{Tcp, Udp, Icmp}
use Rattle.inet_sum.specs.Sum.{words}
use Rattle.l4_headers.specs.declared.ports.Ports.{Ports}
use Rattle.icmp_messages.specs.declared.icmp4.Icmp4.{Icmp4}
use Rattle.icmp_messages.specs.declared.inner4.Inner4.{Inner4}
use Rattle.turned_packets.specs.Ends.{NewEnd, with_address, with_port}
use Rattle.turned_packets.specs.Embedded.{port_place, sum_place, embedded_sum, turned_embedded}

-- its ports: both ports of an echo are its identifier
abbrev pub turned_ports : NewEnd → Proto → Ports → Ports
turned_ports new Tcp ports = with_port new.end new.port ports
turned_ports new Udp ports = with_port new.end new.port ports
turned_ports new Icmp ports = record { src = new.port; dst = new.port }

-- its payload: one port, and the sum where it stands
abbrev pub turned_inner_payload : NewEnd → Inner4 → List ℕ
turned_inner_payload new inner =
    let ported = with_word (port_place inner.proto new.end) new.port inner.payload in
    if nat_le (sum_place inner.proto + 2) (length inner.payload)
    then with_word (sum_place inner.proto) (embedded_sum new inner) ported
    else ported

-- the embedded packet with one end replaced, and nothing else
abbrev pub turned_inner : NewEnd → Inner4 → Inner4
turned_inner new inner = record {
  head = with_address new.end new.addr inner.head;
  payload = turned_inner_payload new inner;
  ports = turned_ports new inner.proto inner.ports;
  proto = inner.proto;
}

-- the error about it, as `turned_error` has it for the end that the embedded packet shows
abbrev pub with_embedded : NewEnd → Icmp4 → Inner4 → Icmp4
with_embedded new m inner = record m { body = turned_embedded new inner m.body }

-- All that the sum of a turned echo covers is 0: it is a reply, its identifier is 0, and so is what follows.
abbrev pub IsZeroEcho : NewEnd → Inner4 → ℕ → Type 0
IsZeroEcho new inner later =
    (inner.proto ≡ Icmp) × (word inner.payload 0 ≡ 0) × (new.port ≡ 0) × (words (drop 6 inner.payload) + later ≡ 0)
