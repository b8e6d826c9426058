-- An IPv6 packet cut into fragments (RFC 8200, section 4.5). A packet that is a fragment itself is cut into smaller
-- ones of the same whole payload.
use Rattle.std.specs.Prelude.{◌≡◌, ℕ, zero, suc, ◌+◌, ◌*◌, ◌-◌, ◌/◌, ◌<◌, ◌≤◌, true, ◌||◌, nat_lt, List, [], ◌++◌, length, slice_get, Some, None}
use Rattle.octets.specs.Field.{part}
use Rattle.octets.specs.declared.parcel.Parcel.{Parcel}
use Rattle.ip6_packet.specs.declared.head.Head6.{Head6}
use Rattle.ip6_packet.specs.declared.head.Frag6.{Frag6}
use Rattle.ip6_packet.specs.Fragment.{fragment_offset, more_fragments}
use Rattle.ip6_packet.specs.Grammar.{Is6}
use Rattle.ip6_packet.specs.Causes.{IsWrongFrag6}
use Rattle.ip6_packet.specs.Written.{written6, IsPacket6}

-- the payload of a piece, but for the last: the most whole units of 8 octets that fit behind a header of 40 and a
-- Fragment Header of 8
abbrev pub step_of : ℕ → ℕ
step_of mtu6 = (mtu6 - 48) / 8 * 8

-- a packet to be cut: its headers and payload, the octets of a piece's payload, the identification of all pieces
pub record Cutting : Type 0 where
  pub head : Head6
  pub payload : List ℕ
  pub step : ℕ
  pub id : ℕ

-- a packet with these headers and this payload, cut for an MTU
abbrev pub cut_for : Head6 → List ℕ → ℕ → ℕ → Cutting
cut_for h payload mtu6 id = record { head = h; payload = payload; step = step_of mtu6; id = id }

-- The piece whose payload begins at this place of the packet's. Offset and "more fragments" continue those of the
-- packet: only a piece that ends where the packet ends has the packet's flag.
abbrev pub piece_payload : Cutting → ℕ → List ℕ
piece_payload cut at = part cut.payload at cut.step

abbrev pub piece_frag : Cutting → ℕ → Frag6
piece_frag cut at = record {
  offset = fragment_offset cut.head.frag + at / 8;
  more = nat_lt (at + cut.step) (length cut.payload) || more_fragments cut.head.frag;
  id = cut.id;
}

abbrev pub piece_head : Cutting → ℕ → Head6
piece_head cut at = record {
  class = cut.head.class;
  hop = cut.head.hop;
  src = cut.head.src;
  dst = cut.head.dst;
  upper = cut.head.upper;
  start = 48;
  length = length (piece_payload cut at);
  frag = Some (piece_frag cut at);
  left = None;
}

abbrev pub piece : Cutting → ℕ → Parcel
piece cut at = record { place = 0; bytes = written6 (piece_head cut at) (piece_payload cut at) }

-- these are the pieces, in order: one for each multiple of the step that lies in the payload, and no more
pub record AreCut (cut : Cutting) (pieces : List Parcel) : Type 0 where
  pub each : (k : ℕ) → k * cut.step < length cut.payload → slice_get pieces k ≡ Some (piece cut (k * cut.step))
  pub no_more : (k : ℕ) → length cut.payload ≤ k * cut.step → slice_get pieces k ≡ None

-- the payloads of the first n pieces, one after the other
abbrev pub rejoined : Cutting → ℕ → List ℕ
rejoined cut zero = []
rejoined cut (suc n) = rejoined cut n ++ piece_payload cut (n * cut.step)

-- What a receiver of the n pieces finds. Each holds its headers and payload, begins where those before it end,
-- and announces more exactly where octets of the packet follow it, or the packet itself announced more. Together
-- they give the packet's payload again, without gap or overlap.
pub record GiveAgain (cut : Cutting) (n : ℕ) : Type 0 where
  pub reads : (k : ℕ) → k * cut.step < length cut.payload
      → Is6 (piece_head cut (k * cut.step)) (piece_payload cut (k * cut.step)) (piece cut (k * cut.step)).bytes
  pub begins : (k : ℕ) → k * cut.step < length cut.payload
      → (piece_frag cut (k * cut.step)).offset * 8 ≡ fragment_offset cut.head.frag * 8 + length (rejoined cut k)
  pub more_inside : (k : ℕ) → length (rejoined cut (suc k)) < length cut.payload
      → (piece_frag cut (k * cut.step)).more ≡ true
  pub more_at_end : (k : ℕ) → length (rejoined cut (suc k)) ≡ length cut.payload
      → (piece_frag cut (k * cut.step)).more ≡ more_fragments cut.head.frag
  pub again : rejoined cut n ≡ cut.payload

-- no piece has more octets than this
abbrev pub EachFits : ℕ → List Parcel → Type 0
EachFits mtu6 pieces = (k : ℕ) (found : Parcel) → slice_get pieces k ≡ Some found → length found.bytes ≤ mtu6

-- a written packet whose fragment fields agree
pub record IsCuttable (h : Head6) (payload packet : List ℕ) : Type 0 where
  pub form : IsPacket6 h payload packet
  pub agreed : IsWrongFrag6 h.frag h.length → ⊥
