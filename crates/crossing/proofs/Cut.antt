-- The pieces of a packet that the first node cuts, there and back.
use Rattle.std.proofs.Common.{◌≡◌, ℕ, ◌+◌, ◌*◌, ◌-◌, ◌/◌, ◌%◌, ◌^◌, ◌<◌, ◌≤◌, Bool, ◌||◌, List, length, min, inl, inr, refl, sym, ap, ◌∙◌, subst, arith}
use Rattle.std.specs.Prelude.{nat_lt}
use Rattle.std.proofs.Math.Nat.{mul-le-mul_left}
use Rattle.std.proofs.lemmas.Bool.{cases_lt, le-ltb}
use Rattle.octets.specs.Field.{part}
use Rattle.octets.specs.declared.mtus.Mtus.{Mtus}
use Rattle.ip4_packet.specs.declared.head.Head4.{Head4}
use Rattle.ip4_packet.specs.Grammar.{payload_of4}
use Rattle.ip4_packet.specs.Written.{written4}
use Rattle.ip6_packet.specs.declared.head.Head6.{Head6}
use Rattle.ip6_packet.specs.Fragment.{more_fragments}
use Rattle.ip6_packet.specs.Causes.{IsWrongFrag6}
use Rattle.ip6_packet.specs.Grammar.{payload_of6, Is6}
use Rattle.ip6_packet.proofs.EmbeddedLemmas.{same_headers6, headers_of6}
use Rattle.ip6_packet.proofs.WrittenLemmas.{written_is6}
use Rattle.xlat46.specs.Head.{fragment_header, upper_protocol}
use Rattle.xlat64.specs.Head.{protocol_of, translated as translated64}
use Rattle.packet_faults.specs.Cut.{Cutting, cut_for, step_of, piece, piece_head, piece_payload, IsCuttable}
use Rattle.packet_faults.proofs.CutLemmas.{MayCut, room, give_again, found}
use Rattle.packets.specs.declared.packet6.Packet6.{Packet6}
use Rattle.packets.specs.Packet6.{IsPacket6}
use Rattle.transit.proofs.Form.{low_offset}
use Rattle.crossing.specs.Named.{Named, IsPayload, piece_at}
use Rattle.crossing.specs.Transfer.{Transfer, IsTakenAs, crossing_of, content_with}
use Rattle.crossing.proofs.Heads.{Reads, IsLaid, head_there, form, offset_there, more_there}
use Rattle.crossing.proofs.Piece.{length-part, part_self}

-- how the packet on the access network is cut
abbrev pub cut_of : Transfer → List ℕ → Cutting
cut_of t over = cut_for (head_there t (length over)) over t.mtus.mtu6 t.taken.head.id

-- the octets that are cut are this packet
pub record IsThisCut (t : Transfer) (over : List ℕ) (h : Head6) (payload : List ℕ) : Type 0 where
  pub head : h ≡ head_there t (length over)
  pub payload_is : payload ≡ over

pub this_cut : (t : Transfer) (octets over six : List ℕ) (h : Head6) (payload : List ℕ) → IsTakenAs t octets → IsLaid t over six → IsCuttable h payload six → IsThisCut t over h payload
this_cut t octets over six h payload taken laid may =
    let low = low_offset t.taken.head (payload_of4 t.taken.head octets) octets taken.is.is taken.is.header in
    let made = form t over taken.fits taken.six low laid.fits laid.upper in
    let is : Is6 (head_there t (length over)) over six = subst (λ (xs : List ℕ). Is6 (head_there t (length over)) over xs) (sym laid.written) (written_is6 (head_there t (length over)) over _ made) in
    let same = found h (head_there t (length over)) payload six may (headers_of6 (head_there t (length over)) over six is) in
    record { head = same.head; payload_is = same.payload_is ∙ sym is.payload_is }

may_cut : (t : Transfer) (octets over six : List ℕ) (h : Head6) (payload : List ℕ) → IsTakenAs t octets → t.taken.head.id < 65536 → IsLaid t over six → IsCuttable h payload six → MayCut (cut_of t over)
may_cut t octets over six h payload taken id laid may =
    let same = this_cut t octets over six h payload taken laid may in
    let low = low_offset t.taken.head (payload_of4 t.taken.head octets) octets taken.is.is taken.is.header in
    let made = form t over taken.fits taken.six low laid.fits laid.upper in
    let agreed : IsWrongFrag6 (fragment_header t.taken.head) (length over) → ⊥ = subst (λ (g : Head6). IsWrongFrag6 g.frag g.length → ⊥) same.head may.agreed in
    record {
      in_range = made.in_range;
      upper = made.upper;
      room = room (fragment_header t.taken.head) (length over) agreed (omega (arith, laid.fits));
      units = (t.mtus.mtu6 - 48) / 8;
      step_is = omega arith;
      step_fits = omega (arith, t.mtus.most6);
      id = omega (arith, id);
    }

-- a step is at least of one unit, and longer than a transport header
pub step_least : (mtus : Mtus) → 20 ≤ step_of mtus.mtu6
step_least mtus = omega (arith, mtus.least6)

many : (n step : ℕ) → 1 ≤ step → n ≤ n * step
many n step some = let up : n * 1 ≤ n * step = mul-le-mul_left n some in omega (arith, up)

-- whoever takes a piece reads its header and payload
pub piece_reads : (t : Transfer) (octets over six : List ℕ) (h : Head6) (payload : List ℕ) (k : ℕ) (at_relay : Bool) (q : Packet6) → IsTakenAs t octets → t.taken.head.id < 65536 → IsLaid t over six → IsCuttable h payload six
    → k * step_of t.mtus.mtu6 < length over → IsPacket6 at_relay q (piece (cut_of t over) (k * step_of t.mtus.mtu6)).bytes
    → Reads q (piece_head (cut_of t over) (k * step_of t.mtus.mtu6)) (piece_payload (cut_of t over) (k * step_of t.mtus.mtu6)) (piece (cut_of t over) (k * step_of t.mtus.mtu6)).bytes
piece_reads t octets over six h payload k at_relay q taken id laid may inside is =
    let cut = cut_of t over in
    let at = k * step_of t.mtus.mtu6 in
    let all = give_again cut (length over) (may_cut t octets over six h payload taken id laid may) (many (length over) (step_of t.mtus.mtu6) (omega (arith, step_least t.mtus))) in
    let read = all.reads k inside in
    let head = same_headers6 q.head (piece_head cut at) (piece cut at).bytes (headers_of6 q.head (payload_of6 q.head (piece cut at).bytes) (piece cut at).bytes is.is) (headers_of6 (piece_head cut at) (piece_payload cut at) (piece cut at).bytes read) in
    record { head = head; payload_is = ap (λ (g : Head6). payload_of6 g (piece cut at).bytes) head ∙ sym read.payload_is }

-- ---- the named changes of a piece

abbrev pub piece_back : Transfer → List ℕ → ℕ → Head4
piece_back t over at = translated64 (piece_head (cut_of t over) at) t.four.src t.four.dst (t.number % 2 ^ 16)

more_of : (at step len : ℕ) (rest : Bool) → at < len → (nat_lt (at + step) len || rest) ≡ (nat_lt (at + min step (len - at)) len || rest)
more_of at step len rest inside = elim (cases_lt (at + step) len) [
  | inl past ↦ ap (λ (n : ℕ). nat_lt (at + n) len || rest) (omega (arith, past))
  | inr end ↦ rw (le-ltb (at + step) len end, le-ltb (at + min step (len - at)) len (omega (arith, end, inside))) refl
]

-- the octets of the piece, and where it stands
pub record IsPieceOf (t : Transfer) (over whole new : List ℕ) (at : ℕ) : Type 0 where
  pub inside : at < length over
  pub units : at % 8 ≡ 0
  pub long : length whole ≡ length over
  pub part_is : new ≡ part whole at (step_of t.mtus.mtu6)

pub named_piece : (t : Transfer) (over whole new : List ℕ) (at : ℕ) → IsPieceOf t over whole new at → t.taken.head.id < 65536 → 3 ≤ t.taken.head.ttl → length over ≤ 65515
    → protocol_of (upper_protocol t.taken.head.proto) ≡ t.taken.head.proto
    → IsPayload (crossing_of t) t.taken.content (content_with t.four t.taken.content) whole
    → Named (crossing_of t) (piece_at at) whole (record { head = piece_back t over at; payload = new; octets = written4 (piece_back t over at) new })
named_piece t over whole new at is id lasts fits back carries =
    let step = step_of t.mtus.mtu6 in
    let size : length new ≡ min step (length over - at) = ap length is.part_is ∙ length-part whole at step ∙ ap (λ (n : ℕ). min step (n - at)) is.long in
    let size6 : length (piece_payload (cut_of t over) at) ≡ min step (length over - at) = length-part over at step in
    let some = step_least t.mtus in
    record {
      octets = refl;
      routed = refl;
      head_len = refl;
      total = omega (arith, size, size6, fits);
      ttl = omega (arith, lasts);
      id = omega (arith, id);
      df = refl;
      payload = carries;
      part = (omega (arith, size, some, is.inside), is.units, omega (arith, size, is.long, is.inside), is.part_is ∙ part_self whole at step ∙ ap (λ (n : ℕ). part whole at n) (sym (ap length is.part_is)));
      offset = ap (λ (n : ℕ). n + at / 8) (offset_there t.taken.head);
      more = more_of at step (length over) (more_fragments (fragment_header t.taken.head)) is.inside
          ∙ ap (λ (n : ℕ). nat_lt (at + n) (length over) || more_fragments (fragment_header t.taken.head)) (sym size)
          ∙ ap (λ (n : ℕ). nat_lt (at + length new) n || more_fragments (fragment_header t.taken.head)) (sym is.long)
          ∙ ap (λ (b : Bool). nat_lt (at + length new) (length whole) || b) (more_there t.taken.head);
      tos = refl;
      proto = back;
      src = refl;
      dst = refl;
    }
