-- The ends of a translated packet, by the machine's answer.
use Rattle.std.specs.Prelude.{ℕ, Bool, true, false}
use Rattle.octets.specs.declared.address.Addr4.{Addr4}
use Rattle.octets.specs.declared.address.Addr6.{Addr6}
use Rattle.octets.specs.declared.proto.Proto.{Proto}
use Rattle.octets.specs.declared.proto.Proto.TheVariants.{Icmp}
use Rattle.l4_headers.specs.declared.ports.Ports.{Ports}
use Rattle.l4_headers.specs.declared.ends.Ends.{Ends}
use Rattle.packets.specs.declared.asked.Flow.{Flow}

-- The packet's ports with this one at the side from which it comes: as its source port, or in the packet that an error
-- embeds as the destination port. An echo, embedded or not, has it as its identifier.
abbrev pub with_near_port : Proto → Bool → ℕ → Ports → Ports
with_near_port Icmp fault port ports = record { src = port; dst = port }
with_near_port _ true port ports = record { src = ports.src; dst = port }
with_near_port _ false port ports = record { src = port; dst = ports.dst }

-- the same with this one at the other side
abbrev pub with_far_port : Proto → Bool → ℕ → Ports → Ports
with_far_port Icmp fault port ports = record { src = port; dst = port }
with_far_port _ true port ports = record { src = port; dst = ports.dst }
with_far_port _ false port ports = record { src = ports.src; dst = port }

-- A packet goes out from the edge's MAP address and the outside port. What an error embeds came from where the error goes
-- to that address and port.
abbrev pub ends_out : Flow → ℕ → Addr6 → Addr6 → Ends Addr6
ends_out flow port src6 dst6 = record {
  src = src6;
  dst = dst6;
  inner_src = dst6;
  inner_dst = src6;
  ports = with_near_port flow.proto flow.fault port flow.ports;
}

-- A packet comes in to the host and its port, from the address behind its source. What an error embeds went from that host
-- and port to the flow's remote address.
abbrev pub ends_in : Flow → Addr4 → ℕ → Addr4 → Addr4 → Ends Addr4
ends_in flow to port from peer = record {
  src = from;
  dst = to;
  inner_src = to;
  inner_dst = peer;
  ports = with_far_port flow.proto flow.fault port flow.ports;
}
