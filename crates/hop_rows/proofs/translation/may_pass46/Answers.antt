use Rattle.std.proofs.Common.{◌≡◌, refl, sym, subst, List, ℕ}
use Rattle.std.specs.Prelude.{◌≤◌, true, false, Option, Some, None}
use Rattle.octets.specs.declared.proto.Proto.{Proto}
use Rattle.ip4_packet.specs.Grammar.{payload_of4}
use Rattle.l4_headers.specs.declared.ports.Ports.{Ports}
use Rattle.l4_headers.specs.declared.ports.L4.{L4}
use Rattle.packets.specs.declared.packet4.Content4.TheVariants.{Segment, Later}
use Rattle.packets.specs.declared.packet4.Packet4.{Packet4}
use Rattle.packets.specs.Packet4.{IsPacket4, IsSegment4, IsLater4}
use Rattle.xlat46.specs.Whole.{IsAccepted46}
use Rattle.hop_rows.proofs.translation.may_pass46.Goals as goal

-- a whole packet or a first fragment, with ports
segment_accepted : (p : Packet4) (given : Ports) (proto : Proto) (l4 : L4) → p.content ≡ Segment proto l4 → 2 ≤ p.head.ttl
    → (octets : List ℕ) → IsPacket4 p octets → IsAccepted46 octets (Some given)
segment_accepted p given proto l4 is alive octets packet =
    let segment : IsSegment4 p.head (payload_of4 p.head octets) proto l4 = rw is at packet.content in
    record {
      parts = record { head = p.head; proto = proto; payload = payload_of4 p.head octets };
      sound = record {
        is = packet.is;
        header = packet.header;
        carried = record {
          protocol = segment.protocol;
          no_icmp = segment.no_icmp;
          unrouted = packet.unrouted;
          transport = λ first. segment.transport;
          summed = λ first. segment.summed;
        };
      };
      alive = alive;
      with_ports = (λ some. segment.first, λ first. refl);
    }

-- a later fragment, without
later_accepted : (p : Packet4) (proto : Proto) → p.content ≡ Later proto → 2 ≤ p.head.ttl
    → (octets : List ℕ) → IsPacket4 p octets → IsAccepted46 octets None
later_accepted p proto is alive octets packet =
    let later : IsLater4 p.head proto = rw is at packet.content in
    record {
      parts = record { head = p.head; proto = proto; payload = payload_of4 p.head octets };
      sound = record {
        is = packet.is;
        header = packet.header;
        carried = record {
          protocol = later.protocol;
          no_icmp = later.no_icmp;
          unrouted = packet.unrouted;
          transport = λ first. absurd (later.later first);
          summed = λ first. absurd (later.later first);
        };
      };
      alive = alive;
      with_ports = (λ some. absurd (let e : false ≡ true = some in cc), λ first. absurd (later.later first));
    }

pub returns-in-Segment-Some : goal.returns-in-Segment-Some
returns-in-Segment-Some c = λ yes octets packet.
    let given = segment_accepted c.args.packet.now c.in-Segment-Some.field-0-1 c.in-Segment-Some.proto-0 c.in-Segment-Some.l4-0 c.in-Segment-Some.is-0 c.if-packet-lt-LASTING.false octets packet in
    subst (λ (ports : Option Ports). IsAccepted46 octets ports) (sym c.in-Segment-Some.is-1) given

pub returns-in-Later-None : goal.returns-in-Later-None
returns-in-Later-None c = λ yes octets packet.
    let none = later_accepted c.args.packet.now c.in-Later-None.proto-0 c.in-Later-None.is-0 c.if-packet-lt-LASTING.false octets packet in
    subst (λ (ports : Option Ports). IsAccepted46 octets ports) (sym c.in-Later-None.is-1) none
