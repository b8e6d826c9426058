-- The pieces of a cut packet: how many there are, and that they give its payload again.
use Rattle.std.proofs.Common.{◌≡◌, ℕ, zero, suc, ◌+◌, ◌*◌, ◌-◌, ◌^◌, ◌<◌, ◌≤◌, ◌⊎◌, true, List, [], ◌∷◌, ◌++◌, length, take, drop, min, Option, Some, None, inl, inr, refl, sym, ap, ◌∙◌, arith, length-append, length-drop}
use Rattle.std.specs.Prelude.{slice_get}
use Rattle.std.proofs.lemmas.List.{length-take, take_all, get_or_append_left}
use Rattle.std.proofs.lemmas.Option.{slice_get-get_or, slice_get_past, slice_get_within}
use Rattle.std.proofs.Math.Seq.{take-add, get_or-append_seam}
use Rattle.std.proofs.Math.Nat.{mul-le-mul_right}
use Rattle.std.proofs.lemmas.Bool.{cases_lt, lt-ltb, le-ltb}
use Rattle.octets.specs.declared.parcel.Parcel.{Parcel}
use Rattle.ip6_packet.specs.declared.head.Head6.{Head6}
use Rattle.ip6_packet.specs.declared.head.Frag6.{Frag6}
use Rattle.ip6_packet.specs.Grammar.{payload_of6}
use Rattle.ip6_packet.specs.Causes.{IsWrongFrag6}
use Rattle.ip6_packet.specs.Written.{IsPacket6, IsUpper, IsInRange}
use Rattle.ip6_packet.specs.Embedded.{HasHeaders6}
use Rattle.ip6_packet.specs.Fragment.{fragment_offset, more_fragments}
use Rattle.ip6_packet.proofs.WrittenLemmas.{written_is6}
use Rattle.ip6_packet.proofs.EmbeddedLemmas.{same_headers6, headers_of6}
use Rattle.packet_faults.specs.Cut.{Cutting, piece_payload, piece_frag, piece_head, piece, AreCut, rejoined, GiveAgain, EachFits, IsCuttable}

-- what is read of a packet that may be cut is what was written
pub record Found (h g : Head6) (payload packet : List ℕ) : Type 0 where
  pub head : h ≡ g
  pub payload_is : payload ≡ payload_of6 g packet

pub found : (h g : Head6) (payload packet : List ℕ) → IsCuttable h payload packet → HasHeaders6 g packet → Found h g payload packet
found h g payload packet may has =
    let is = written_is6 h payload packet may.form in
    let e : h ≡ g = same_headers6 h g packet (headers_of6 h payload packet is) has in
    record { head = e; payload_is = is.payload_is ∙ ap (λ (x : Head6). payload_of6 x packet) e }

-- the whole payload that it is a part of has room for it
pub room : (frag : Option Frag6) (len : ℕ) → (IsWrongFrag6 frag len → ⊥) → len < 65536 → fragment_offset frag * 8 + len ≤ 65535
room None len agreed fits = omega arith
room (Some frag) len agreed fits = within (cases_lt 65535 (frag.offset * 8 + len))
  where
    within : (65535 < frag.offset * 8 + len) ⊎ (frag.offset * 8 + len ≤ 65535) → frag.offset * 8 + len ≤ 65535
    within (inl past) = absurd (agreed (inl past))
    within (inr fits) = fits

-- the pieces so far
pub record Upto (cut : Cutting) (pieces : List Parcel) : Type 0 where
  pub within : (k : ℕ) → k < length pieces → k * cut.step < length cut.payload
  pub each : (k : ℕ) → k < length pieces → slice_get pieces k ≡ Some (piece cut (k * cut.step))

pub none_yet : (cut : Cutting) → Upto cut []
none_yet cut = record { within = λ k lt. absurd (omega arith); each = λ k lt. absurd (omega arith) }

earlier : (pieces : List Parcel) (x : Parcel) (k : ℕ) → k < length pieces → slice_get (pieces ++ x ∷ []) k ≡ slice_get pieces k
earlier pieces x k lt =
    let longer : k < length (pieces ++ x ∷ []) = omega (arith, length-append pieces (x ∷ [])) in
    slice_get-get_or (pieces ++ x ∷ []) k x longer
    ∙ (ap (λ (p : Parcel). Some p) (get_or_append_left pieces (x ∷ []) x k lt) ∙ sym (slice_get-get_or pieces k x lt))

latest : (pieces : List Parcel) (x : Parcel) → slice_get (pieces ++ x ∷ []) (length pieces) ≡ Some x
latest pieces x =
    let longer : length pieces < length (pieces ++ x ∷ []) = omega (arith, length-append pieces (x ∷ [])) in
    slice_get-get_or (pieces ++ x ∷ []) (length pieces) x longer ∙ ap (λ (p : Parcel). Some p) (get_or-append_seam pieces x [] x)

at_most : (pieces : List Parcel) (x : Parcel) (k : ℕ) → k < length (pieces ++ x ∷ []) → (k < length pieces) ⊎ (k ≡ length pieces)
at_most pieces x k lt =
    elim (cases_lt k (length pieces)) [ inl low ↦ inl low | inr high ↦ inr (omega (arith, length-append pieces (x ∷ []))) ]

-- and one more
pub one_more : (cut : Cutting) (pieces : List Parcel) (x : Parcel) → Upto cut pieces → length pieces * cut.step < length cut.payload
    → x ≡ piece cut (length pieces * cut.step) → Upto cut (pieces ++ x ∷ [])
one_more cut pieces x upto inside is = record {
  within = λ k lt. within k (at_most pieces x k lt);
  each = λ k lt. each k (at_most pieces x k lt);
}
  where
    within : (k : ℕ) → (k < length pieces) ⊎ (k ≡ length pieces) → k * cut.step < length cut.payload
    within k (inl low) = upto.within k low
    within k (inr e) = rw e inside

    each : (k : ℕ) → (k < length pieces) ⊎ (k ≡ length pieces) → slice_get (pieces ++ x ∷ []) k ≡ Some (piece cut (k * cut.step))
    each k (inl low) = earlier pieces x k low ∙ upto.each k low
    each k (inr e) = rw e (latest pieces x ∙ ap (λ (p : Parcel). Some p) is)

-- those that reach the end of the payload are all
pub all_cut : (cut : Cutting) (pieces : List Parcel) → Upto cut pieces → length cut.payload ≤ length pieces * cut.step → AreCut cut pieces
all_cut cut pieces upto reached = record {
  each = λ k inside. upto.each k (before k inside (cases_lt k (length pieces)));
  no_more = λ k past. behind k past (cases_lt k (length pieces));
}
  where
    before : (k : ℕ) → k * cut.step < length cut.payload → (k < length pieces) ⊎ (length pieces ≤ k) → k < length pieces
    before k inside (inl low) = low
    before k inside (inr high) = absurd (omega (arith, mul-le-mul_right cut.step high))

    behind : (k : ℕ) → length cut.payload ≤ k * cut.step → (k < length pieces) ⊎ (length pieces ≤ k) → slice_get pieces k ≡ None
    behind k past (inl low) = absurd (omega (arith, upto.within k low))
    behind k past (inr high) = slice_get_past pieces k high

-- the payloads of the pieces are the beginning of the packet's
joined_is : (cut : Cutting) (n : ℕ) → rejoined cut n ≡ take (n * cut.step) cut.payload
joined_is cut zero = let none : 0 * cut.step ≡ 0 = omega arith in rw none refl
joined_is cut (suc n) =
    let more : n * cut.step + cut.step ≡ suc n * cut.step = omega arith in
    ap (λ (xs : List ℕ). xs ++ piece_payload cut (n * cut.step)) (joined_is cut n)
    ∙ (sym (take-add (n * cut.step) cut.step cut.payload) ∙ ap (λ (m : ℕ). take m cut.payload) more)

length-rejoined : (cut : Cutting) (n : ℕ) → length (rejoined cut n) ≡ min (n * cut.step) (length cut.payload)
length-rejoined cut n = ap length (joined_is cut n) ∙ length-take (n * cut.step) cut.payload

-- what is needed of a packet that is cut
pub record MayCut (cut : Cutting) : Type 0 where
  pub in_range : IsInRange cut.head
  pub upper : IsUpper cut.head.upper
  pub room : fragment_offset cut.head.frag * 8 + length cut.payload ≤ 65535
  pub units : ℕ
  pub step_is : cut.step ≡ 8 * units
  pub step_fits : cut.step ≤ 65527
  pub id : cut.id < 2 ^ 32

-- a piece is short, and is written
length-piece : (cut : Cutting) (at : ℕ) → length (piece_payload cut at) ≡ min cut.step (length cut.payload - at)
length-piece cut at = length-take cut.step (drop at cut.payload) ∙ ap (min cut.step) (length-drop at cut.payload)

piece_form : (cut : Cutting) (at : ℕ) → MayCut cut → at < length cut.payload → IsPacket6 (piece_head cut at) (piece_payload cut at) (piece cut at).bytes
piece_form cut at may inside =
    let len : length (piece_payload cut at) ≤ cut.step = omega (arith, length-piece cut at) in
    record {
      exact = refl;
      unrouted = refl;
      upper = may.upper;
      placed = (refl, omega (arith, may.step_fits), omega (arith, may.room));
      in_range = record {
        class = may.in_range.class;
        length_fits = omega (arith, may.step_fits);
        src = may.in_range.src;
        dst = may.in_range.dst;
      };
      frag_in_range = may.id;
      written = refl;
    }

-- the pieces give the payload again
pub give_again : (cut : Cutting) (n : ℕ) → MayCut cut → length cut.payload ≤ n * cut.step → GiveAgain cut n
give_again cut n may reached = record {
  reads = λ k inside. written_is6 (piece_head cut (k * cut.step)) (piece_payload cut (k * cut.step)) (piece cut (k * cut.step)).bytes (piece_form cut (k * cut.step) may inside);
  begins = begins;
  more_inside = more_inside;
  more_at_end = more_at_end;
  again = joined_is cut n ∙ take_all (n * cut.step) cut.payload reached;
}
  where
    begins : (k : ℕ) → k * cut.step < length cut.payload → (piece_frag cut (k * cut.step)).offset * 8 ≡ fragment_offset cut.head.frag * 8 + length (rejoined cut k)
    begins k inside =
        let whole : k * cut.step ≡ 8 * (k * may.units) = rw may.step_is (omega arith) in
        omega (arith, length-rejoined cut k)

    more_inside : (k : ℕ) → length (rejoined cut (suc k)) < length cut.payload → (piece_frag cut (k * cut.step)).more ≡ true
    more_inside k inside =
        let next : suc k * cut.step ≡ k * cut.step + cut.step = omega arith in
        rw (lt-ltb (k * cut.step + cut.step) (length cut.payload) (omega (arith, length-rejoined cut (suc k)))) refl

    more_at_end : (k : ℕ) → length (rejoined cut (suc k)) ≡ length cut.payload → (piece_frag cut (k * cut.step)).more ≡ more_fragments cut.head.frag
    more_at_end k ended =
        let next : suc k * cut.step ≡ k * cut.step + cut.step = omega arith in
        rw (le-ltb (k * cut.step + cut.step) (length cut.payload) (omega (arith, length-rejoined cut (suc k)))) refl

-- and each is short enough
pub each_fits : (cut : Cutting) (pieces : List Parcel) (mtu6 : ℕ) → Upto cut pieces → cut.step + 48 ≤ mtu6 → EachFits mtu6 pieces
each_fits cut pieces mtu6 upto fits k found is =
    let there = upto.each k (slice_get_within pieces k found is) in
    let e : found ≡ piece cut (k * cut.step) = cc (there, is) in
    rw e (omega (arith, length-piece cut (k * cut.step)))
