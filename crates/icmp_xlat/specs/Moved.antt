-- The packet that an ICMP error embeds with other ends, as a value: what is read of it once it was translated (RFC 7915,
-- sections 4.3 and 5.3).
use Rattle.std.specs.Prelude.{◌-◌, ◌^◌, ◌<◌, take}
use Rattle.octets.specs.declared.address.Addr4.{Addr4}
use Rattle.octets.specs.declared.address.Addr6.{Addr6}
use Rattle.octets.specs.declared.proto.Proto.{Proto}
use Rattle.octets.specs.declared.proto.Proto.TheVariants.{Tcp, Udp, Icmp}
use Rattle.l4_headers.specs.declared.ports.Ports.{Ports}
use Rattle.icmp_messages.specs.declared.inner4.Inner4.{Inner4}
use Rattle.icmp_messages.specs.declared.inner6.Inner6.{Inner6}
use Rattle.xlat46.specs.Whole.{ArePorts}
use Rattle.l4_headers.specs.declared.ends.Ends.{Ends}
use Rattle.icmp_xlat.specs.Inner.{inner_payload, change46, change64, inner_head46, inner_head64}

-- its ports: both ports of an echo are its identifier
abbrev pub ports_of : Proto → Ports → Ports
ports_of Tcp ports = ports
ports_of Udp ports = ports
ports_of Icmp ports = record { src = ports.src; dst = ports.src }

-- what its header and its payload become
abbrev pub moved46 : Inner4 → Ends Addr6 → Inner6
moved46 inner ends = record {
  head = inner_head46 inner ends;
  payload = inner_payload inner.proto inner.payload (change46 inner ends inner.proto);
  ports = ports_of inner.proto ends.ports;
  proto = inner.proto;
}

abbrev pub moved64 : Inner6 → Ends Addr4 → Inner4
moved64 inner ends = record {
  head = inner_head64 inner ends;
  payload = inner_payload inner.proto inner.payload (change64 inner ends inner.proto);
  ports = ports_of inner.proto ends.ports;
  proto = inner.proto;
}

-- What an ICMPv6 error holds of it, which may have 1280 octets: 48 of them stand in front of the embedded packet, so that
-- 1232 are left for its headers and the beginning of its payload (RFC 4443, section 2.4).
abbrev pub held6 : Inner6 → Inner6
held6 inner = record inner { payload = take (1232 - inner.head.start) inner.payload }

-- ends of an embedded packet that fit their fields
pub record FitsInnerEnds6 (ends : Ends Addr6) : Type 0 where
  pub src : ends.inner_src.0 < 2 ^ 128
  pub dst : ends.inner_dst.0 < 2 ^ 128
  pub ports : ArePorts ends.ports

pub record FitsInnerEnds4 (ends : Ends Addr4) : Type 0 where
  pub src : ends.inner_src.0 < 2 ^ 32
  pub dst : ends.inner_dst.0 < 2 ^ 32
  pub ports : ArePorts ends.ports
