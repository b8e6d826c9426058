-- Each piece of a packet that the first node cuts crosses with the named header changes.
use Rattle.std.proofs.Common.{◌≡◌, ◌≢◌, ◌⊎◌, ℕ, zero, suc, ◌+◌, ◌*◌, ◌-◌, ◌/◌, ◌%◌, ◌^◌, ◌<◌, ◌≤◌, Bool, false, List, length, Some, inl, inr, refl, sym, ap, ◌∙◌, subst, arith}
use Rattle.std.proofs.Math.Nat.{mul-le-mul_right, mul-mod_left, mul_assoc}
use Rattle.std.proofs.lemmas.Bool.{false≢true}
use Rattle.octets.specs.Field.{part}
use Rattle.octets.specs.declared.address.Addr4.{Addr4}
use Rattle.octets.specs.declared.proto.Proto.{Proto}
use Rattle.octets.specs.declared.proto.Proto.TheVariants.{Tcp, Udp, Icmp}
use Rattle.ip4_packet.specs.Written.{written4}
use Rattle.ip6_packet.specs.declared.head.Head6.{Head6}
use Rattle.ip6_packet.specs.Fragment.{fragment_offset}
use Rattle.l4_headers.specs.declared.ports.L4.{L4}
use Rattle.l4_headers.specs.declared.ports.Ports.{Ports}
use Rattle.l4_headers.specs.Transport.{header_octets, with_l4}
use Rattle.l4_headers.specs.Readdressed.{readdressed_sum}
use Rattle.xlat46.specs.Whole.{ArePorts}
use Rattle.xlat64.specs.Whole.{Parts6, addresses_before, addresses_after, payload64, packet64}
use Rattle.packet_faults.specs.Cut.{step_of, piece, piece_head, piece_payload, IsCuttable}
use Rattle.l4_headers.specs.declared.ends.Ends.{Ends}
use Rattle.packets.specs.declared.packet4.Content4.{Content4}
use Rattle.packets.specs.declared.packet4.Content4.TheVariants.{Segment as Segment4, Later as Later4, Query as Query4, Error as Error4}
use Rattle.packets.specs.declared.packet4.Packet4.{Packet4}
use Rattle.packets.specs.declared.packet6.Content6.{Content6}
use Rattle.packets.specs.declared.packet6.Packet6.{Packet6}
use Rattle.packets.specs.Asked.{flow_of4}
use Rattle.packets.specs.Packet6.{IsContent6}
use Rattle.transit.specs.Passage46.{is_message4}
use Rattle.transit.specs.Passage64.{translation64}
use Rattle.crossing.specs.Named.{Named, Sent, IsPayload, piece_at}
use Rattle.crossing.specs.Transfer.{Transfer, FitsPorts, IsTakenAs, IsThere, IsBack, with_ends, crossing_of, packet_with, content_with}
use Rattle.crossing.proofs.Heads.{some_same, offset_there, head_there, numbered_as, Reads, IsLaid}
use Rattle.crossing.proofs.Contents.{one_segment, one_later}
use Rattle.crossing.proofs.Segment.{parts_back, payload_there, payload_back, sum_back, length_there, length_back, segment_laid, segment_is}
use Rattle.crossing.proofs.Later.{later_laid}
use Rattle.crossing.proofs.Piece.{l4_of-front, with_l4-front, with_l4-behind}
use Rattle.crossing.proofs.Cut.{cut_of, step_least, piece_reads, piece_back, named_piece}

-- what comes of one piece, where all of the payload is this one
pub record ComesOfPiece (t : Transfer) (whole : List ℕ) (at : ℕ) (four : List ℕ) : Type 0 where
  pub sent : Sent
  pub named : Named (crossing_of t) (piece_at at) whole sent
  pub part_is : sent.payload ≡ part whole at (step_of t.mtus.mtu6)
  pub octets_are : four ≡ sent.octets

-- what the second node reads of a piece, and makes of it
record BetweenPiece (t : Transfer) (at_relay : Bool) (q : Packet6) (over : List ℕ) (at : ℕ) (four : List ℕ) : Type 0 where
  inside : IsContent6 at_relay (piece_head (cut_of t over) at) (piece_payload (cut_of t over) at) q.content
  back : translation64 (record { mtus = t.mtus; ends = t.four; id = (t.number % 2 ^ 16) }) (piece_head (cut_of t over) at) (piece_payload (cut_of t over) at) q.content ≡ Some four
  lasts : 3 ≤ t.taken.head.ttl

between_piece : (t : Transfer) (at_relay : Bool) (q : Packet6) (over : List ℕ) (at : ℕ) (four : List ℕ) → Reads q (piece_head (cut_of t over) at) (piece_payload (cut_of t over) at) (piece (cut_of t over) at).bytes
    → IsBack t at_relay q (piece (cut_of t over) at).bytes four → BetweenPiece t at_relay q over at four
between_piece t at_relay q over at four read back =
    let id = t.number % 2 ^ 16 in
    let head6 = piece_head (cut_of t over) at in
    let body = piece_payload (cut_of t over) at in
    let inside : IsContent6 at_relay q.head body q.content = subst (λ (xs : List ℕ). IsContent6 at_relay q.head xs q.content) read.payload_is back.is.content in
    let makes : translation64 (record { mtus = t.mtus; ends = t.four; id = id }) q.head body q.content ≡ Some four = sym (numbered_as t.mtus q.head body t.four back.id id q.content back.numbered) ∙ subst (λ (xs : List ℕ). translation64 (record { mtus = t.mtus; ends = t.four; id = back.id }) q.head xs q.content ≡ Some four) read.payload_is back.back in
    let lasts : 1 < head6.hop = subst (λ (g : Head6). 1 < g.hop) read.head back.lasts in
    record {
      inside = subst (λ (g : Head6). IsContent6 at_relay g body q.content) read.head inside;
      back = subst (λ (g : Head6). translation64 (record { mtus = t.mtus; ends = t.four; id = id }) g body q.content ≡ Some four) read.head makes;
      lasts = omega (arith, lasts);
    }

-- ---- the piece with the transport header

abbrev piece_parts : Transfer → Proto → ℕ → Parts6
piece_parts t proto at = record { head = piece_head (cut_of t (payload_there t proto)) at; proto = proto; payload = piece_payload (cut_of t (payload_there t proto)) at }

abbrev piece_new : Transfer → Proto → ℕ → List ℕ
piece_new t proto at = payload64 (piece_parts t proto at) t.four.src t.four.dst (Some t.four.ports)

first_new : (t : Transfer) (proto : Proto) → proto ≢ Icmp → header_octets proto ≤ length (payload_there t proto) → piece_new t proto 0 ≡ part (payload_back t proto) 0 (step_of t.mtus.mtu6)
first_new t proto flows stands =
    let over = payload_there t proto in
    let step = step_of t.mtus.mtu6 in
    let least = step_least t.mtus in
    let before = addresses_before (head_there t (length over)) in
    let after = addresses_after t.four.src t.four.dst in
    let header : header_octets proto ≤ step = short proto (omega arith) in
    ap (λ (l4 : L4). with_l4 proto (part over 0 step) t.four.ports (readdressed_sum proto l4 before after t.four.ports)) (l4_of-front proto over step flows header)
    ∙ with_l4-front proto over t.four.ports (sum_back t proto) step flows stands least
  where
    short : (p : Proto) → 20 ≤ step_of t.mtus.mtu6 → header_octets p ≤ step_of t.mtus.mtu6
    short Tcp least = omega arith
    short Udp least = omega arith
    short Icmp least = omega arith

-- a piece stands at the start, or behind a transport header
pub record IsAt (t : Transfer) (over : List ℕ) (at : ℕ) : Type 0 where
  pub inside : at < length over
  pub units : at % 8 ≡ 0
  pub apart : (at ≡ 0) ⊎ (20 ≤ at)

segment_at : (t : Transfer) (proto : Proto) (l4 : L4) (octets six four : List ℕ) (at : ℕ) (at_relay : Bool) (q : Packet6) → t.taken.content ≡ Segment4 proto l4 → IsTakenAs t octets → t.taken.head.id < 65536 → IsThere t six
    → IsAt t (payload_there t proto) at → Reads q (piece_head (cut_of t (payload_there t proto)) at) (piece_payload (cut_of t (payload_there t proto)) at) (piece (cut_of t (payload_there t proto)) at).bytes
    → IsBack t at_relay q (piece (cut_of t (payload_there t proto)) at).bytes four → ArePorts t.four.ports → ComesOfPiece t (payload_back t proto) at four
segment_at t proto l4 octets six four at at_relay q e taken small there place reads back ports =
    let h = t.taken.head in
    let over = payload_there t proto in
    let whole = payload_back t proto in
    let id = t.number % 2 ^ 16 in
    let step = step_of t.mtus.mtu6 in
    let laid = segment_laid t proto l4 octets six e taken there in
    let flows = laid.carries.there.no_icmp in
    let read = between_piece t at_relay q over at four reads back in
    let long6 = length_there t proto laid.carries.stands in
    let long = length_back t proto laid.carries.stands in
    let carries : IsPayload (crossing_of t) t.taken.content (content_with t.four t.taken.content) whole = subst (λ (c : Content4). IsPayload (crossing_of t) c (content_with t.four c) whole) (sym e) (segment_is t proto laid.carries ports) in
    let offset : fragment_offset (piece_head (cut_of t over) at).frag ≡ h.offset + at / 8 = ap (λ (n : ℕ). n + at / 8) (offset_there h) in
    let made = λ (new : List ℕ) (is : new ≡ part whole at step). named_piece t over whole new at (record { inside = place.inside; units = place.units; long = long ∙ sym long6; part_is = is }) small read.lasts laid.laid.fits laid.number.back carries in
    elim place.apart [
      | inl start ↦
          let one = one_segment at_relay (piece_head (cut_of t over) at) (piece_payload (cut_of t over) at) proto q.content laid.number.six flows (omega (arith, offset, laid.carries.first, start)) read.inside in
          let new = piece_new t proto at in
          let is : new ≡ part whole at step = subst (λ (n : ℕ). piece_new t proto n ≡ part whole n step) (sym start) (first_new t proto flows (omega (arith, long6, laid.carries.stands))) in
          record {
            sent = record { head = piece_back t over at; payload = new; octets = written4 (piece_back t over at) new };
            named = made new is;
            part_is = is;
            octets_are = sym (some_same (packet64 (piece_parts t proto at) t.four.src t.four.dst (Some t.four.ports) id) four (subst (λ (c : Content6). translation64 (record { mtus = t.mtus; ends = t.four; id = id }) (piece_head (cut_of t over) at) (piece_payload (cut_of t over) at) c ≡ Some four) one.is read.back));
          }
      | inr behind ↦
          let one = one_later at_relay (piece_head (cut_of t over) at) (piece_payload (cut_of t over) at) proto q.content laid.number.six flows (λ (none : fragment_offset (piece_head (cut_of t over) at).frag ≡ 0). omega (arith, offset, none, behind)) read.inside in
          let new = piece_payload (cut_of t over) at in
          let is : new ≡ part whole at step = sym (with_l4-behind proto over t.four.ports (sum_back t proto) at step flows (omega (arith, long6, laid.carries.stands)) behind) in
          record {
            sent = record { head = piece_back t over at; payload = new; octets = written4 (piece_back t over at) new };
            named = made new is;
            part_is = is;
            octets_are = sym (some_same (written4 (piece_back t over at) new) four (subst (λ (c : Content6). translation64 (record { mtus = t.mtus; ends = t.four; id = id }) (piece_head (cut_of t over) at) (piece_payload (cut_of t over) at) c ≡ Some four) one read.back));
          }
    ]

later_at : (t : Transfer) (proto : Proto) (octets six four : List ℕ) (at : ℕ) (at_relay : Bool) (q : Packet6) → t.taken.content ≡ Later4 proto → IsTakenAs t octets → t.taken.head.id < 65536 → IsThere t six
    → IsAt t t.payload at → Reads q (piece_head (cut_of t t.payload) at) (piece_payload (cut_of t t.payload) at) (piece (cut_of t t.payload) at).bytes
    → IsBack t at_relay q (piece (cut_of t t.payload) at).bytes four → ComesOfPiece t t.payload at four
later_at t proto octets six four at at_relay q e taken small there place reads back =
    let h = t.taken.head in
    let over = t.payload in
    let id = t.number % 2 ^ 16 in
    let laid = later_laid t proto octets six e taken there in
    let read = between_piece t at_relay q over at four reads back in
    let carries : IsPayload (crossing_of t) t.taken.content (content_with t.four t.taken.content) over = subst (λ (c : Content4). IsPayload (crossing_of t) c (content_with t.four c) over) (sym e) refl in
    let offset : fragment_offset (piece_head (cut_of t over) at).frag ≡ h.offset + at / 8 = ap (λ (n : ℕ). n + at / 8) (offset_there h) in
    let one = one_later at_relay (piece_head (cut_of t over) at) (piece_payload (cut_of t over) at) proto q.content laid.number.six laid.has.no_icmp (λ (none : fragment_offset (piece_head (cut_of t over) at).frag ≡ 0). laid.has.later (omega (arith, offset, none))) read.inside in
    let new = piece_payload (cut_of t over) at in
    record {
      sent = record { head = piece_back t over at; payload = new; octets = written4 (piece_back t over at) new };
      named = named_piece t over over new at (record { inside = place.inside; units = place.units; long = refl; part_is = refl }) small read.lasts laid.laid.fits laid.number.back carries;
      part_is = refl;
      octets_are = sym (some_same (written4 (piece_back t over at) new) four (subst (λ (c : Content6). translation64 (record { mtus = t.mtus; ends = t.four; id = id }) (piece_head (cut_of t over) at) (piece_payload (cut_of t over) at) c ≡ Some four) one read.back));
    }

-- the place of each piece
in_units : (n u : ℕ) → n * (u * 8) % 8 ≡ 0
in_units n u = ap (λ (x : ℕ). x % 8) (sym (mul_assoc n u 8)) ∙ mul-mod_left (n * u) 8

pub place_of : (t : Transfer) (over : List ℕ) (k : ℕ) → k * step_of t.mtus.mtu6 < length over → IsAt t over (k * step_of t.mtus.mtu6)
place_of t over k inside = record { inside = inside; units = in_units k ((t.mtus.mtu6 - 48) / 8); apart = apart k }
  where
    apart : (n : ℕ) → (n * step_of t.mtus.mtu6 ≡ 0) ⊎ (20 ≤ n * step_of t.mtus.mtu6)
    apart zero = inl (omega arith)
    apart (suc m) =
        let least = step_least t.mtus in
        let up : 1 * step_of t.mtus.mtu6 ≤ suc m * step_of t.mtus.mtu6 = mul-le-mul_right (step_of t.mtus.mtu6) (omega arith) in
        inr (omega (arith, up, least))

-- ---- a packet that is cut

-- a packet that may be cut, as it stands on the access network before, and the payload that comes of it
pub record IsCutThere (t : Transfer) (six over whole : List ℕ) : Type 0 where
  pub laid : IsLaid t over six
  pub long : length whole ≡ length over
  pub carries : IsPayload (crossing_of t) t.taken.content (content_with t.four t.taken.content) whole
  pub each : (h : Head6) (payload four : List ℕ) (k : ℕ) (at_relay : Bool) (q : Packet6) → IsCuttable h payload six
      → k * step_of t.mtus.mtu6 < length over → IsBack t at_relay q (piece (cut_of t over) (k * step_of t.mtus.mtu6)).bytes four → ComesOfPiece t whole (k * step_of t.mtus.mtu6) four

-- the ends of a packet, as far as its payload goes by them
abbrev pub ends_of : Packet4 → Ends Addr4
ends_of r = record { src = r.head.src; dst = r.head.dst; inner_src = r.head.src; inner_dst = r.head.dst; ports = (flow_of4 r.content).ports }

-- The same for whatever ends the second node gives a piece. They change the transport header alone, and are those of the packet
-- with what they replace.
pub record IsCutFor (t : Transfer) (six over : List ℕ) (whole : Ends Addr4 → List ℕ) : Type 0 where
  pub laid : IsLaid t over six
  pub there : (ends : Ends Addr4) → FitsPorts t.taken.content ends.ports → IsCutThere (with_ends t ends) six over (whole ends)
  pub behind : (ends : Ends Addr4) (at n : ℕ) → 20 ≤ at → part (whole ends) at n ≡ part over at n
  pub alike : (ends : Ends Addr4) → whole (ends_of (packet_with ends t.taken)) ≡ whole ends

with_taken : (t : Transfer) (octets : List ℕ) (ends : Ends Addr4) → IsTakenAs t octets → IsTakenAs (with_ends t ends) octets
with_taken t octets ends taken = record { is = taken.is; payload = taken.payload; fits = taken.fits; inner = taken.inner; six = taken.six }

segment_cut : (t : Transfer) (proto : Proto) (l4 : L4) (octets six : List ℕ) (ends : Ends Addr4) → t.taken.content ≡ Segment4 proto l4 → IsTakenAs t octets → t.taken.head.id < 65536 → IsThere t six → ArePorts ends.ports
    → IsCutThere (with_ends t ends) six (payload_there t proto) (payload_back (with_ends t ends) proto)
segment_cut t proto l4 octets six ends e taken small there are =
    let u = with_ends t ends in
    let same = with_taken t octets ends taken in
    let laid = segment_laid u proto l4 octets six e same there in
    let over = payload_there u proto in
    let whole = payload_back u proto in
    let step = step_of t.mtus.mtu6 in
    record {
      laid = laid.laid;
      long = length_back u proto laid.carries.stands ∙ sym (length_there u proto laid.carries.stands);
      carries = subst (λ (c : Content4). IsPayload (crossing_of u) c (content_with ends c) whole) (sym e) (segment_is u proto laid.carries are);
      each = λ h payload four k at_relay q may inside back.
          segment_at u proto l4 octets six four (k * step) at_relay q e same small there (place_of u over k inside) (piece_reads u octets over six h payload k at_relay q same small laid.laid may inside back.is) back are;
    }

later_cut : (t : Transfer) (proto : Proto) (octets six : List ℕ) (ends : Ends Addr4) → t.taken.content ≡ Later4 proto → IsTakenAs t octets → t.taken.head.id < 65536 → IsThere t six
    → IsCutThere (with_ends t ends) six t.payload t.payload
later_cut t proto octets six ends e taken small there =
    let u = with_ends t ends in
    let same = with_taken t octets ends taken in
    let laid = later_laid u proto octets six e same there in
    let over = t.payload in
    let step = step_of t.mtus.mtu6 in
    record {
      laid = laid.laid;
      long = refl;
      carries = subst (λ (c : Content4). IsPayload (crossing_of u) c (content_with ends c) over) (sym e) refl;
      each = λ h payload four k at_relay q may inside back.
          later_at u proto octets six four (k * step) at_relay q e same small there (place_of u over k inside) (piece_reads u octets over six h payload k at_relay q same small laid.laid may inside back.is) back;
    }

pub cut_there : (t : Transfer) (octets six : List ℕ) → is_message4 t.taken.content ≡ false → IsTakenAs t octets → t.taken.head.id < 65536 → IsThere t six
    → (over : List ℕ) × (whole : Ends Addr4 → List ℕ) × IsCutFor t six over whole
cut_there t octets six flows taken small there = by t.taken.content refl flows
  where
    by : (c : Content4) → t.taken.content ≡ c → is_message4 c ≡ false → (over : List ℕ) × (whole : Ends Addr4 → List ℕ) × IsCutFor t six over whole
    by (Segment4 proto l4) e fine =
        let laid = segment_laid t proto l4 octets six e taken there in
        let over = payload_there t proto in
        let long = length_there t proto laid.carries.stands in (
          over,
          λ ends. payload_back (with_ends t ends) proto,
          record {
            laid = laid.laid;
            there = λ ends are. segment_cut t proto l4 octets six ends e taken small there (subst (λ (c : Content4). FitsPorts c ends.ports) e are);
            behind = λ ends at n far. with_l4-behind proto over ends.ports (sum_back (with_ends t ends) proto) at n laid.carries.there.no_icmp (omega (arith, long, laid.carries.stands)) far;
            alike = λ ends. ap (λ (ports : Ports). payload64 (parts_back t proto) ends.src ends.dst (Some ports)) (ap (λ (c : Content4). (flow_of4 (content_with ends c)).ports) e);
          },
        )
    by (Later4 proto) e fine = (
      t.payload,
      λ ends. t.payload,
      record {
        laid = (later_laid t proto octets six e taken there).laid;
        there = λ ends are. later_cut t proto octets six ends e taken small there;
        behind = λ ends at n far. refl;
        alike = λ ends. refl;
      },
    )
    by (Query4 m row) e fine = absurd (false≢true (sym fine))
    by (Error4 m row inner) e fine = absurd (false≢true (sym fine))
