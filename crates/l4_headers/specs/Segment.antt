-- What was read of a packet of TCP or UDP, as definitions see it.
use Rattle.std.specs.Prelude.{Option}
use Rattle.std.specs.Option.{option_map}
use Rattle.l4_headers.specs.declared.ports.Ports.{Ports}
use Rattle.l4_headers.specs.declared.segment.Segment.{Segment}

-- its new ports, which a later fragment doesn't get
abbrev pub new_ports : Segment → Ports → Option Ports
new_ports segment ports = option_map (λ header. ports) segment.header
