use Rattle.std.proofs.Common.{◌≡◌, refl, sym, subst, List, ℕ, arith}
use Rattle.std.specs.Prelude.{◌≤◌, true, false, Option, Some, None}
use Rattle.octets.specs.declared.proto.Proto.{Proto}
use Rattle.ip6_packet.specs.Grammar.{payload_of6}
use Rattle.l4_headers.specs.declared.ports.Ports.{Ports}
use Rattle.l4_headers.specs.declared.ports.L4.{L4}
use Rattle.packets.specs.declared.packet6.Content6.TheVariants.{Segment, Later}
use Rattle.packets.specs.declared.packet6.Packet6.{Packet6}
use Rattle.packets.specs.Packet6.{IsPacket6, IsSegment6, IsLater6}
use Rattle.xlat64.specs.Whole.{IsAccepted64}
use Rattle.hop_rows.proofs.translation.may_pass64.Goals as goal

-- a whole packet or a first fragment, with ports
segment_accepted : (p : Packet6) (given : Ports) (proto : Proto) (l4 : L4) → p.content ≡ Segment proto l4 → 2 ≤ p.head.hop → p.head.length ≤ 65515
    → (octets : List ℕ) → IsPacket6 false p octets → IsAccepted64 octets (Some given)
segment_accepted p given proto l4 is alive fits octets packet =
    let segment : IsSegment6 p.head (payload_of6 p.head octets) proto l4 = rw is at packet.content in
    record {
      parts = record { head = p.head; proto = proto; payload = payload_of6 p.head octets };
      sound = record {
        is = packet.is;
        header = packet.header;
        carried = record {
          protocol = segment.protocol;
          no_icmp = segment.no_icmp;
          unrouted = packet.unrouted;
          transport = λ first. segment.transport;
          summed = λ first. segment.summed;
        };
      };
      alive = alive;
      fits = fits;
      with_ports = (λ some. segment.first, λ first. refl);
    }

-- a later fragment, without
later_accepted : (p : Packet6) (proto : Proto) → p.content ≡ Later proto → 2 ≤ p.head.hop → p.head.length ≤ 65515
    → (octets : List ℕ) → IsPacket6 false p octets → IsAccepted64 octets None
later_accepted p proto is alive fits octets packet =
    let later : IsLater6 p.head proto = rw is at packet.content in
    record {
      parts = record { head = p.head; proto = proto; payload = payload_of6 p.head octets };
      sound = record {
        is = packet.is;
        header = packet.header;
        carried = record {
          protocol = later.protocol;
          no_icmp = later.no_icmp;
          unrouted = packet.unrouted;
          transport = λ first. absurd (later.later first);
          summed = λ first. absurd (later.later first);
        };
      };
      alive = alive;
      fits = fits;
      with_ports = (λ some. absurd (let e : false ≡ true = some in cc), λ first. absurd (later.later first));
    }

pub returns-in-Segment-Some : goal.returns-in-Segment-Some
returns-in-Segment-Some c = λ yes octets packet.
    let given = segment_accepted c.args.packet.now c.in-Segment-Some.field-0-1 c.in-Segment-Some.proto-0 c.in-Segment-Some.l4-0 c.in-Segment-Some.is-0 (omega arith) (omega arith) octets packet in
    subst (λ (ports : Option Ports). IsAccepted64 octets ports) (sym c.in-Segment-Some.is-1) given

pub returns-in-Later-None : goal.returns-in-Later-None
returns-in-Later-None c = λ yes octets packet.
    let none = later_accepted c.args.packet.now c.in-Later-None.proto-0 c.in-Later-None.is-0 (omega arith) (omega arith) octets packet in
    subst (λ (ports : Option Ports). IsAccepted64 octets ports) (sym c.in-Later-None.is-1) none
