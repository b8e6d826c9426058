-- A packet of TCP or UDP by what was read of it.
use Rattle.ip6_packet.specs.declared.head.Head6.{Head6}
use Rattle.l4_headers.specs.declared.segment.Segment.{Segment}
use Rattle.xlat64.specs.Whole.{Parts6}

abbrev pub parts_of : Head6 → Segment → Parts6
parts_of head segment = record { head = head; proto = segment.proto; payload = segment.payload.now }
