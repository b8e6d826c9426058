-- A packet that isn't cut, there and back, whatever it carries.
use Rattle.std.proofs.Common.{◌≡◌, ℕ, Bool, List, refl, ap}
use Rattle.octets.specs.declared.proto.Proto.TheVariants.{Icmp}
use Rattle.ip6_packet.specs.declared.head.Head6.{Head6}
use Rattle.octets.specs.declared.address.Addr6.{Addr6}
use Rattle.l4_headers.specs.declared.ends.Ends.{Ends}
use Rattle.packets.specs.declared.packet6.Content6.{Content6}
use Rattle.packets.specs.declared.packet6.Content6.TheVariants.{Later as Later6}
use Rattle.packets.specs.Packet6.{IsPacket6}
use Rattle.packets.specs.declared.packet4.Content4.{Content4}
use Rattle.packets.specs.declared.packet4.Content4.TheVariants.{Segment, Later, Query, Error}
use Rattle.packets.specs.declared.packet6.Packet6.{Packet6}
use Rattle.crossing.specs.Named.{uncut}
use Rattle.crossing.specs.Transfer.{Transfer, IsTakenAs, IsThere, IsBack, ComesOf, crossing_of}
use Rattle.crossing.proofs.Heads.{IsLaid, laid_reads}
use Rattle.crossing.proofs.Segment.{ReadsFlow, segment_laid, segment_flow, segment_crosses}
use Rattle.crossing.proofs.Later.{later_laid, later_content, later_crosses}
use Rattle.crossing.proofs.Error.{ReadsError, error_laid, error_flow, error_crosses}
use Rattle.crossing.proofs.Query.{query_laid, query_flow, query_crosses}

pub crosses : (t : Transfer) (octets six four : List ℕ) (at_relay : Bool) (q : Packet6)
    → IsTakenAs t octets → IsThere t six → IsBack t at_relay q six four → ComesOf (crossing_of t) uncut four
crosses t octets six four at_relay q taken there back = by t.taken.content refl
  where
    by : (c : Content4) → t.taken.content ≡ c → ComesOf (crossing_of t) uncut four
    by (Segment proto l4) e = segment_crosses t proto l4 octets six four at_relay q e taken there back
    by (Later proto) e = later_crosses t proto octets six four at_relay q e taken there back
    by (Query m row) e = query_crosses t m row octets six four at_relay q e taken there back
    by (Error m row inner) e = error_crosses t m row inner octets six four at_relay q e taken there back

-- ---- what the second node reads of it

-- the ends are those over IPv6
pub record ReadsEnds (t : Transfer) (q : Packet6) : Type 0 where
  pub src : q.head.src ≡ t.six.src
  pub dst : q.head.dst ≡ t.six.dst

ends_of : (t : Transfer) (octets over six : List ℕ) (at_relay : Bool) (q : Packet6) → IsTakenAs t octets → IsLaid t over six → IsPacket6 at_relay q six → ReadsEnds t q
ends_of t octets over six at_relay q taken laid is =
    let read = laid_reads t octets over six at_relay q taken laid is in
    record { src = ap (λ (h : Head6). h.src) read.head; dst = ap (λ (h : Head6). h.dst) read.head }

pub reads_ends : (t : Transfer) (octets six : List ℕ) (at_relay : Bool) (q : Packet6)
    → IsTakenAs t octets → IsThere t six → IsPacket6 at_relay q six → ReadsEnds t q
reads_ends t octets six at_relay q taken there is = by t.taken.content refl
  where
    by : (c : Content4) → t.taken.content ≡ c → ReadsEnds t q
    by (Segment proto l4) e = ends_of t octets _ six at_relay q taken (segment_laid t proto l4 octets six e taken there).laid is
    by (Later proto) e = ends_of t octets _ six at_relay q taken (later_laid t proto octets six e taken there).laid is
    by (Query m row) e = ends_of t octets _ six at_relay q taken (query_laid t m row octets six e taken there).laid is
    by (Error m row inner) e = ends_of t octets _ six at_relay q taken (error_laid t m row inner octets six e taken there).laid is

-- the flow has the ports over IPv6; a later fragment is one, a query has its identifier as both ports, and an error is one
-- about the same embedded packet
abbrev pub FlowIs : Content4 → Ends Addr6 → Content6 → Type 0
FlowIs (Segment proto l4) six q = ReadsFlow q proto six.ports
FlowIs (Later proto) six q = q ≡ Later6 proto
FlowIs (Query m row) six q = ReadsFlow q Icmp (record { src = six.ports.src; dst = six.ports.src })
FlowIs (Error m row inner) six q = ReadsError inner six q

pub reads_flow : (t : Transfer) (octets six : List ℕ) (at_relay : Bool) (q : Packet6)
    → IsTakenAs t octets → IsThere t six → IsPacket6 at_relay q six → FlowIs t.taken.content t.six q.content
reads_flow t octets six at_relay q taken there is = by t.taken.content refl
  where
    by : (c : Content4) → t.taken.content ≡ c → FlowIs c t.six q.content
    by (Segment proto l4) e = segment_flow t proto l4 octets six at_relay q e taken there is
    by (Later proto) e = later_content t proto octets six at_relay q e taken there is
    by (Query m row) e = query_flow t m row octets six at_relay q e taken there is
    by (Error m row inner) e = error_flow t m row inner octets six at_relay q e taken there is
