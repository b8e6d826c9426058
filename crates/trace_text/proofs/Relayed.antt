-- What the relay's hop does with a packet is what the laws of crossings take of it.
use Rattle.std.proofs.Common.{◌≡◌, ℕ, List, Option, Some, None, inl, inr, refl}
use Rattle.octets.specs.declared.address.Addr4.{Addr4}
use Rattle.octets.specs.declared.address.Addr6.{Addr6}
use Rattle.octets.specs.declared.cause.Cause.TheVariants.{Spoofed, NotDefault, NoOwner}
use Rattle.l4_headers.specs.declared.ports.Ports.{Ports}
use Rattle.hops.specs.declared.hop.Hop.{Hop}
use Rattle.packets.specs.declared.packet4.Packet4.{Packet4}
use Rattle.packets.specs.declared.packet6.Packet6.{Packet6}
use Rattle.packets.specs.Asked.{flow_of4, flow_of6}
use Rattle.relay_node.specs.Relay.{Relay, source_port, destination_port, source_addr, own_of, extracted}
use Rattle.relay_node.specs.FromAccess.{IsPassed6, Becomes6, IsSent6}
use Rattle.relay_node.specs.FromIpv4.{ends46, IsPassed4, Becomes4, IsSent4}
use Rattle.trace_text.specs.Hops.{ArePortsOf4, ArePortsOf6}
use Rattle.trace_text.specs.Relayed.{IsRelayed6, IsRelayed4}

pub relayed6 : (relay : Relay) (q : Packet6) (six : List ℕ) (ports : Ports) (hop : Hop) → ArePortsOf6 q.content ports → Becomes6 relay q six ports hop → IsRelayed6 relay q six hop
relayed6 relay q six ports hop flow is = by (source_addr relay q.head.src (source_port (flow_of6 q.content).fault ports)) (extracted relay.dmr q.head.dst) refl refl is
  where
    by : (src : Option Addr4) (dst : Option ℕ) → source_addr relay q.head.src (source_port (flow_of6 q.content).fault ports) ≡ src → extracted relay.dmr q.head.dst ≡ dst → IsSent6 (IsPassed6 relay q six) ports src dst hop → IsRelayed6 relay q six hop
    by None dst one other sent = inl (Spoofed, sent)
    by (Some src) None one other sent = inl (NotDefault, sent)
    by (Some src) (Some dst) one other sent =
        inr (sent.0, record { ports = ports; flow = flow; src = src; dst = record { 0 = dst }; source = one; destination = other; is = sent.1 }, sent.2)

pub relayed4 : (relay : Relay) (p : Packet4) (octets : List ℕ) (ports : Ports) (hop : Hop) → ArePortsOf4 p.content ports → Becomes4 relay p octets ports hop → IsRelayed4 relay p octets hop
relayed4 relay p octets ports hop flow is = by (own_of relay p.head.dst (destination_port (flow_of4 p.content).fault ports)) refl is
  where
    by : (own : Option ℕ) → own_of relay p.head.dst (destination_port (flow_of4 p.content).fault ports) ≡ own → IsSent4 (λ (own : Addr6). IsPassed4 relay p octets (ends46 relay p own ports)) own hop → IsRelayed4 relay p octets hop
    by None one sent = inl (NoOwner, sent)
    by (Some own) one sent = inr (sent.0, record { ports = ports; flow = flow; own = record { 0 = own }; owned = one; is = sent.1 }, sent.2)
