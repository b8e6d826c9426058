-- A packet of TCP or UDP by what was read of it.
use Rattle.ip4_packet.specs.declared.head.Head4.{Head4}
use Rattle.l4_headers.specs.declared.segment.Segment.{Segment}
use Rattle.xlat46.specs.Whole.{Parts4}

abbrev pub parts_of : Head4 → Segment → Parts4
parts_of head segment = record { head = head; proto = segment.proto; payload = segment.payload.now }
