-- A packet that was sent over the access network, whole or as one of the pieces of one.
use Rattle.std.proofs.Common.{◌≡◌, ◌⊎◌, ℕ, ◌+◌, ◌*◌, ◌/◌, ◌<◌, ◌≤◌, Bool, false, List, length, Option, Some, None, inl, inr, refl, sym, ap, ◌∙◌, subst, arith}
use Rattle.std.proofs.lemmas.Bool.{cases_lt, false≢true}
use Rattle.octets.specs.Field.{part}
use Rattle.octets.specs.declared.parcel.Parcel.{Parcel}
use Rattle.octets.specs.declared.proto.Proto.{Proto}
use Rattle.octets.specs.declared.proto.Proto.TheVariants.{Tcp, Udp, Icmp}
use Rattle.ip6_packet.specs.declared.head.Head6.{Head6}
use Rattle.ip6_packet.specs.declared.head.Frag6.{Frag6}
use Rattle.ip6_packet.specs.Fragment.{fragment_offset}
use Rattle.octets.specs.declared.address.Addr6.{Addr6}
use Rattle.l4_headers.specs.declared.ends.Ends.{Ends}
use Rattle.l4_headers.specs.declared.ports.L4.{L4}
use Rattle.l4_headers.specs.Transport.{header_octets, l4_of}
use Rattle.packet_faults.specs.Cut.{AreCut, cut_for, piece, piece_frag, piece_head, piece_payload, step_of}
use Rattle.packets.specs.declared.packet4.Content4.{Content4}
use Rattle.packets.specs.declared.packet4.Content4.TheVariants.{Segment as Segment4, Later as Later4, Query as Query4, Error as Error4}
use Rattle.packets.specs.declared.packet6.Content6.{Content6}
use Rattle.packets.specs.declared.packet6.Content6.TheVariants.{Later as Later6}
use Rattle.packets.specs.declared.packet6.Packet6.{Packet6}
use Rattle.packets.specs.Packet6.{IsContent6, IsPacket6}
use Rattle.transit.specs.Passage46.{is_message4}
use Rattle.crossing.specs.Named.{Portion, uncut, piece_at}
use Rattle.crossing.specs.Transfer.{Transfer, IsTakenAs, IsPieceThere, IsSentThere, IsBack, ComesOf, crossing_of}
use Rattle.crossing.proofs.Heads.{Reads, IsLaid, offset_there}
use Rattle.crossing.proofs.Contents.{one_segment, one_later}
use Rattle.crossing.proofs.Segment.{ReadsFlow, outer_segment, again_of, payload_there, segment_laid}
use Rattle.crossing.proofs.Later.{later_laid}
use Rattle.crossing.proofs.Piece.{l4_of-front}
use Rattle.crossing.proofs.Cut.{cut_of, step_least, this_cut, piece_reads}
use Rattle.crossing.proofs.Pieces.{place_of, IsCutThere, cut_there}
use Rattle.crossing.proofs.Uncut.{crosses, ReadsEnds, reads_ends, FlowIs, reads_flow}

-- a piece that was found among them is that of its number
pub record IsThisPiece (t : Transfer) (over six : List ℕ) (k : ℕ) : Type 0 where
  pub inside : k * step_of t.mtus.mtu6 < length over
  pub is : six ≡ (piece (cut_of t over) (k * step_of t.mtus.mtu6)).bytes

bytes_of : (p r : Parcel) → ◌≡◌ {A = Option Parcel} (Some p) (Some r) → p.bytes ≡ r.bytes
bytes_of p r e = ap (λ (x : Parcel). x.bytes) (same p r e)
  where
    same : (x y : Parcel) → ◌≡◌ {A = Option Parcel} (Some x) (Some y) → x ≡ y
    same x y is = cc

none_found : (p : Parcel) → ◌≡◌ {A = Option Parcel} None (Some p) → ⊥
none_found p e = cc

this_piece : (t : Transfer) (octets over six : List ℕ) (at : ℕ) → IsTakenAs t octets → (is : IsPieceThere t at six) → IsLaid t over is.octets → IsThisPiece t over six is.k
this_piece t octets over six at taken is laid =
    let h : Head6 = is.cut.0 in
    let payload : List ℕ = is.cut.1 in
    let same = this_cut t octets over is.octets h payload taken laid is.cut.2 in
    let id = t.taken.head.id in
    let these : AreCut (cut_of t over) is.pieces = subst (λ (g : Head6). AreCut (cut_for g over t.mtus.mtu6 id) is.pieces) same.head (subst (λ (xs : List ℕ). AreCut (cut_for h xs t.mtus.mtu6 id) is.pieces) same.payload_is is.cut.3) in
    elim (cases_lt (is.k * step_of t.mtus.mtu6) (length over)) [
      | inl inside ↦ record { inside = inside; is = sym is.bytes ∙ bytes_of is.piece (piece (cut_of t over) (is.k * step_of t.mtus.mtu6)) (sym is.found ∙ these.each is.k inside) }
      | inr past ↦ absurd (none_found is.piece (sym (these.no_more is.k past) ∙ is.found))
    ]

-- ---- what comes of it

piece_crosses : (t : Transfer) (octets six four : List ℕ) (at : ℕ) (at_relay : Bool) (q : Packet6) → IsTakenAs t octets → IsPieceThere t at six → IsBack t at_relay q six four → ComesOf (crossing_of t) (piece_at at) four
piece_crosses t octets six four at at_relay q taken is back =
    let for_all = cut_there t octets is.octets is.flows taken is.id is.there in
    let over : List ℕ = for_all.0 in
    let whole : List ℕ = for_all.1 t.four in
    let cut : IsCutThere t is.octets over whole = for_all.2.there t.four back.ports in
    let this = this_piece t octets over six at taken is cut.laid in
    let one = cut.each is.cut.0 is.cut.1 four is.k at_relay q is.cut.2 this.inside (subst (λ (xs : List ℕ). IsBack t at_relay q xs four) this.is back) in
    subst (λ (n : ℕ). ComesOf (crossing_of t) (piece_at n) four) (sym is.begins) (record { whole = whole; sent = one.sent; named = one.named; octets_are = one.octets_are })

pub over_crosses : (t : Transfer) (octets six four : List ℕ) (portion : Portion) (at_relay : Bool) (q : Packet6) → IsTakenAs t octets → IsSentThere t portion six → IsBack t at_relay q six four
    → ComesOf (crossing_of t) portion four
over_crosses t octets six four uncut at_relay q taken there back = crosses t octets six four at_relay q taken there back
over_crosses t octets six four (piece_at at) at_relay q taken there back = piece_crosses t octets six four at at_relay q taken there back

-- ---- what is read of it

ends_read : (t : Transfer) (over six : List ℕ) (at : ℕ) (q : Packet6) → Reads q (piece_head (cut_of t over) at) (piece_payload (cut_of t over) at) six → ReadsEnds t q
ends_read t over six at q read = record { src = ap (λ (h : Head6). h.src) read.head; dst = ap (λ (h : Head6). h.dst) read.head }

-- a flow, or a later fragment
abbrev pub FlowMay : Content4 → Ends Addr6 → Content6 → Type 0
FlowMay content six q = FlowIs content six q ⊎ ((proto : Proto) × (q ≡ Later6 proto))

inside_of : (t : Transfer) (over : List ℕ) (at : ℕ) (at_relay : Bool) (q : Packet6) (six : List ℕ) → Reads q (piece_head (cut_of t over) at) (piece_payload (cut_of t over) at) six → IsPacket6 at_relay q six
    → IsContent6 at_relay (piece_head (cut_of t over) at) (piece_payload (cut_of t over) at) q.content
inside_of t over at at_relay q six read is =
    let inside : IsContent6 at_relay q.head (piece_payload (cut_of t over) at) q.content = subst (λ (xs : List ℕ). IsContent6 at_relay q.head xs q.content) read.payload_is is.content in
    subst (λ (g : Head6). IsContent6 at_relay g (piece_payload (cut_of t over) at) q.content) read.head inside

header_short : (t : Transfer) (proto : Proto) → header_octets proto ≤ step_of t.mtus.mtu6
header_short t Tcp = omega (arith, step_least t.mtus)
header_short t Udp = omega (arith, step_least t.mtus)
header_short t Icmp = omega (arith, step_least t.mtus)

-- of a piece both ends and the flow are read, or that it is a later fragment
pub record Seen (t : Transfer) (q : Packet6) : Type 0 where
  pub ends : ReadsEnds t q
  pub flow : FlowMay t.taken.content t.six q.content

piece_seen : (t : Transfer) (octets six : List ℕ) (at : ℕ) (at_relay : Bool) (q : Packet6) → IsTakenAs t octets → IsPieceThere t at six → IsPacket6 at_relay q six → Seen t q
piece_seen t octets six at at_relay q taken is read_is = by t.taken.content refl is.flows
  where
    by : (c : Content4) → t.taken.content ≡ c → is_message4 c ≡ false → Seen t q
    by (Segment4 proto l4) e flows =
        let h : Head6 = is.cut.0 in
        let payload : List ℕ = is.cut.1 in
        let laid = segment_laid t proto l4 octets is.octets e taken is.there in
        let over = payload_there t proto in
        let step = step_of t.mtus.mtu6 in
        let this = this_piece t octets over six at taken is laid.laid in
        let place = is.k * step in
        let own : IsPacket6 at_relay q (piece (cut_of t over) place).bytes = subst (λ (xs : List ℕ). IsPacket6 at_relay q xs) this.is read_is in
        let read = piece_reads t octets over is.octets h payload is.k at_relay q taken is.id laid.laid is.cut.2 this.inside own in
        let inside = inside_of t over place at_relay q (piece (cut_of t over) place).bytes read own in
        let offset : fragment_offset (piece_head (cut_of t over) place).frag ≡ t.taken.head.offset + place / 8 = ap (λ (n : ℕ). n + place / 8) (offset_there t.taken.head) in
        let flow : FlowMay (Segment4 proto l4) t.six q.content = elim (place_of t over is.k this.inside).apart [
          | inl start ↦
              let one = one_segment at_relay (piece_head (cut_of t over) place) (piece_payload (cut_of t over) place) proto q.content laid.number.six laid.carries.there.no_icmp (omega (arith, offset, laid.carries.first, start)) inside in
              let front : l4_of proto (piece_payload (cut_of t over) place) ≡ l4_of proto over = subst (λ (n : ℕ). l4_of proto (part over n step) ≡ l4_of proto over) (sym start) (l4_of-front proto over step laid.carries.there.no_icmp (header_short t proto)) in
              inl (subst (λ (c : Content6). ReadsFlow c proto t.six.ports) (sym one.is) (record { fault = refl; proto_is = refl; ports_are = ap (λ (l : L4). l.ports) (one.l4_is ∙ front) ∙ (again_of t proto laid.carries).ports_are; no_later = λ other later. cc; outer = λ mtus head payload ends other id src dst ports. outer_segment proto one.l4 mtus head payload ends other id src dst ports }))
          | inr behind ↦ inr (proto, one_later at_relay (piece_head (cut_of t over) place) (piece_payload (cut_of t over) place) proto q.content laid.number.six laid.carries.there.no_icmp (λ (none : fragment_offset (piece_head (cut_of t over) place).frag ≡ 0). omega (arith, offset, none, behind)) inside)
        ] in
        record { ends = ends_read t over (piece (cut_of t over) place).bytes place q read; flow = subst (λ (c : Content4). FlowMay c t.six q.content) (sym e) flow }
    by (Later4 proto) e flows =
        let h : Head6 = is.cut.0 in
        let payload : List ℕ = is.cut.1 in
        let laid = later_laid t proto octets is.octets e taken is.there in
        let over = t.payload in
        let place = is.k * step_of t.mtus.mtu6 in
        let this = this_piece t octets over six at taken is laid.laid in
        let own : IsPacket6 at_relay q (piece (cut_of t over) place).bytes = subst (λ (xs : List ℕ). IsPacket6 at_relay q xs) this.is read_is in
        let read = piece_reads t octets over is.octets h payload is.k at_relay q taken is.id laid.laid is.cut.2 this.inside own in
        let inside = inside_of t over place at_relay q (piece (cut_of t over) place).bytes read own in
        let offset : fragment_offset (piece_head (cut_of t over) place).frag ≡ t.taken.head.offset + place / 8 = ap (λ (n : ℕ). n + place / 8) (offset_there t.taken.head) in
        let one = one_later at_relay (piece_head (cut_of t over) place) (piece_payload (cut_of t over) place) proto q.content laid.number.six laid.has.no_icmp (λ (none : fragment_offset (piece_head (cut_of t over) place).frag ≡ 0). laid.has.later (omega (arith, offset, none))) inside in
        record { ends = ends_read t over (piece (cut_of t over) place).bytes place q read; flow = inr (proto, one) }
    by (Query4 m row) e flows = absurd (false≢true (sym flows))
    by (Error4 m row inner) e flows = absurd (false≢true (sym flows))

pub seen : (t : Transfer) (octets six : List ℕ) (portion : Portion) (at_relay : Bool) (q : Packet6) → IsTakenAs t octets → IsSentThere t portion six → IsPacket6 at_relay q six → Seen t q
seen t octets six uncut at_relay q taken there is = record { ends = reads_ends t octets six at_relay q taken there is; flow = inl (reads_flow t octets six at_relay q taken there is) }
seen t octets six (piece_at at) at_relay q taken there is = piece_seen t octets six at at_relay q taken there is

-- a piece has a Fragment Header
pub piece_fragment : (t : Transfer) (octets six : List ℕ) (at : ℕ) (at_relay : Bool) (q : Packet6) → IsTakenAs t octets → IsPieceThere t at six → IsPacket6 at_relay q six → (frag : Frag6) × (q.head.frag ≡ Some frag)
piece_fragment t octets six at at_relay q taken is read_is =
    let for_all = cut_there t octets is.octets is.flows taken is.id is.there in
    let over : List ℕ = for_all.0 in
    let laid = for_all.2.laid in
    let this = this_piece t octets over six at taken is laid in
    let own : IsPacket6 at_relay q (piece (cut_of t over) (is.k * step_of t.mtus.mtu6)).bytes = subst (λ (xs : List ℕ). IsPacket6 at_relay q xs) this.is read_is in
    let read = piece_reads t octets over is.octets is.cut.0 is.cut.1 is.k at_relay q taken is.id laid is.cut.2 this.inside own in
    (piece_frag (cut_of t over) (is.k * step_of t.mtus.mtu6), ap (λ (h : Head6). h.frag) read.head)
