-- What a node asks about a packet: its flow, which part of a packet it is, and what its fragments are known by.
use Rattle.std.specs.Prelude.{ℕ, ◌/◌, ◌^◌, ◌==◌, Bool, true, false, not, if◌then◌else◌, Option, Some, None}
use Rattle.octets.specs.declared.proto.Proto.TheVariants.{Icmp}
use Rattle.ip4_packet.specs.declared.head.Head4.{Head4}
use Rattle.ip6_packet.specs.declared.head.Head6.{Head6}
use Rattle.ip6_packet.specs.declared.head.Frag6.{Frag6}
use Rattle.ip6_packet.specs.Fragment.{fragment_offset, more_fragments}
use Rattle.l4_headers.specs.declared.ports.Ports.{Ports}
use Rattle.frag_table.specs.declared.key.FragKey.{FragKey}
use Rattle.packets.specs.declared.asked.Flow.{Flow}
use Rattle.packets.specs.declared.asked.Extent.{Extent}
use Rattle.packets.specs.declared.asked.Extent.TheVariants.{Whole, First, Later}
use Rattle.packets.specs.declared.packet4.Content4.{Content4}
use Rattle.packets.specs.declared.packet4.Content4.TheVariants.{Segment as Segment4, Later as Later4, Query as Query4, Error as Error4}
use Rattle.packets.specs.declared.packet6.Content6.{Content6}
use Rattle.packets.specs.declared.packet6.Content6.TheVariants.{Segment as Segment6, Later as Later6, Query as Query6, Error as Error6}

-- a later fragment has no ports
abbrev pub no_ports : Ports
no_ports = record { src = 0; dst = 0 }

-- a query by the four octets behind its sum: both ports are its identifier, the first two of them
abbrev pub flow_of_query : ℕ → Flow
flow_of_query rest =
    record { fault = false; proto = Icmp; ports = record { src = rest / 2 ^ 16; dst = rest / 2 ^ 16 }; flags = 0 }

-- the flow that a packet belongs to; an error belongs to that of the packet that it embeds
abbrev pub flow_of4 : Content4 → Flow
flow_of4 (Segment4 proto l4) = record { fault = false; proto = proto; ports = l4.ports; flags = l4.flags }
flow_of4 (Later4 proto) = record { fault = false; proto = proto; ports = no_ports; flags = 0 }
flow_of4 (Query4 message row) = flow_of_query message.rest
flow_of4 (Error4 message row inner) = record { fault = true; proto = inner.proto; ports = inner.ports; flags = 0 }

abbrev pub flow_of6 : Content6 → Flow
flow_of6 (Segment6 proto l4) = record { fault = false; proto = proto; ports = l4.ports; flags = l4.flags }
flow_of6 (Later6 proto) = record { fault = false; proto = proto; ports = no_ports; flags = 0 }
flow_of6 (Query6 message row) = flow_of_query message.rest
flow_of6 (Error6 message row inner) = record { fault = true; proto = inner.proto; ports = inner.ports; flags = 0 }

-- which part of a packet this is, by its offset and whether more fragments follow (RFC 791, section 3.2)
abbrev pub extent_of : ℕ → Bool → Extent
extent_of offset more = if not (offset == 0) then Later else if more then First else Whole

abbrev pub extent_of4 : Head4 → Extent
extent_of4 h = extent_of h.offset h.mf

abbrev pub extent_of6 : Head6 → Extent
extent_of6 h = extent_of (fragment_offset h.frag) (more_fragments h.frag)

-- what the fragments of a packet are known by at a side: both addresses, the protocol and the identification (RFC 791,
-- section 3.2; RFC 8200, section 4.5)
abbrev pub key_of4 : ℕ → Head4 → FragKey
key_of4 way h = record { way = way; src = h.src.0; dst = h.dst.0; proto = h.proto; id = h.id }

abbrev pub id_of6 : Option Frag6 → ℕ
id_of6 (Some frag) = frag.id
id_of6 None = 0

abbrev pub key_of6 : ℕ → Head6 → FragKey
key_of6 way h = record { way = way; src = h.src.0; dst = h.dst.0; proto = h.upper; id = id_of6 h.frag }
