-- The pieces of a packet that is cut, all of them together.
use Rattle.std.proofs.Common.{◌≡◌, ◌⊎◌, ℕ, suc, ◌+◌, ◌*◌, ◌-◌, ◌<◌, ◌≤◌, Bool, List, [], ◌∷◌, ◌++◌, length, drop, min, Option, Some, None, inl, inr, refl, sym, ap, ◌∙◌, subst, arith}
use Rattle.std.specs.Prelude.{slice_get}
use Rattle.std.proofs.Math.Nat.{suc-mul}
use Rattle.std.proofs.lemmas.Bool.{cases_lt}
use Rattle.std.proofs.lemmas.Grind.{same_number_lists}
use Rattle.std.proofs.lemmas.List.{places}
use Rattle.octets.specs.Field.{part}
use Rattle.octets.specs.declared.address.Addr4.{Addr4}
use Rattle.octets.specs.declared.parcel.Parcel.{Parcel}
use Rattle.ip6_packet.specs.declared.head.Head6.{Head6}
use Rattle.packet_faults.specs.Cut.{Cutting, AreCut, IsCuttable, cut_for, piece, step_of}
use Rattle.l4_headers.specs.declared.ends.Ends.{Ends}
use Rattle.packets.specs.declared.packet4.Packet4.{Packet4}
use Rattle.packets.specs.declared.packet6.Packet6.{Packet6}
use Rattle.crossing.specs.Named.{Sent, Named, piece_at}
use Rattle.crossing.specs.Pieces.{payloads_of, AreNamedFrom, IsCutInto, PieceBack, AreBack, ComeTogether, arrived_by, crossing_with}
use Rattle.crossing.specs.Transfer.{Transfer, FitsPorts, IsTakenAs, IsBack, with_ends, packet_with}
use Rattle.crossing.proofs.Cut.{cut_of, step_least, this_cut}
use Rattle.crossing.proofs.Piece.{length-part}
use Rattle.crossing.proofs.Pieces.{IsCutFor, ends_of, cut_there}

-- the pieces from a number on
record AreFrom (cut : Cutting) (k : ℕ) (pieces : List Parcel) : Type 0 where
  each : (j : ℕ) → (k + j) * cut.step < length cut.payload → slice_get pieces j ≡ Some (piece cut ((k + j) * cut.step))
  no_more : (j : ℕ) → length cut.payload ≤ (k + j) * cut.step → slice_get pieces j ≡ None

from_start : (cut : Cutting) (pieces : List Parcel) → AreCut cut pieces → AreFrom cut 0 pieces
from_start cut pieces are = record {
  each = λ j inside. subst (λ (n : ℕ). slice_get pieces j ≡ Some (piece cut (n * cut.step))) (plain j) (are.each j (subst (λ (n : ℕ). n * cut.step < length cut.payload) (sym (plain j)) inside));
  no_more = λ j past. are.no_more j (subst (λ (n : ℕ). length cut.payload ≤ n * cut.step) (sym (plain j)) past);
}
  where
    plain : (j : ℕ) → j ≡ 0 + j
    plain j = omega arith

from_next : (cut : Cutting) (k : ℕ) (p : Parcel) (pieces : List Parcel) → AreFrom cut k (p ∷ pieces) → AreFrom cut (suc k) pieces
from_next cut k p pieces are = record {
  each = λ j inside. subst (λ (n : ℕ). slice_get pieces j ≡ Some (piece cut (n * cut.step))) (later j) (are.each (suc j) (subst (λ (n : ℕ). n * cut.step < length cut.payload) (sym (later j)) inside));
  no_more = λ j past. are.no_more (suc j) (subst (λ (n : ℕ). length cut.payload ≤ n * cut.step) (sym (later j)) past);
}
  where
    later : (j : ℕ) → k + suc j ≡ suc k + j
    later j = omega arith

-- a list is its part and what stands behind it
split_at : (xs : List ℕ) (at n : ℕ) → part xs at n ++ drop (at + n) xs ≡ drop at xs
split_at xs at n = same_number_lists _ _ (grind (arith, places)) (λ k small. grind (arith, places))

behind_all : (xs : List ℕ) (at : ℕ) → length xs ≤ at → [] ≡ drop at xs
behind_all xs at past = same_number_lists _ _ (grind (arith, places)) (λ k small. grind (arith, places))

-- all of the payload that comes of a packet, by what was replaced in it
abbrev whole_by : (Ends Addr4 → List ℕ) → Packet4 → List ℕ
whole_by whole r = whole (ends_of r)

-- what comes of one piece
record ComesOne (t : Transfer) (whole : Ends Addr4 → List ℕ) (k : ℕ) (one : PieceBack) : Type 0 where
  sent : Sent
  named : Named (crossing_with t (packet_with one.ends t.taken)) (piece_at (k * step_of t.mtus.mtu6)) (whole_by whole (packet_with one.ends t.taken)) sent
  part_is : sent.payload ≡ part (whole one.ends) (k * step_of t.mtus.mtu6) (step_of t.mtus.mtu6)
  octets_are : one.octets ≡ sent.octets

-- what comes of the pieces from a number on, wherever the last of them ended; those behind the transport header are octets as
-- they were over IPv6
record ComesFrom (t : Transfer) (over : List ℕ) (whole : Ends Addr4 → List ℕ) (k : ℕ) (backs : List PieceBack) : Type 0 where
  sent : List Sent
  named : (at : ℕ) → (at ≡ k * step_of t.mtus.mtu6) ⊎ (length over ≤ k * step_of t.mtus.mtu6) → AreNamedFrom (crossing_with t) (whole_by whole) at (arrived_by t.taken backs) sent
  rest : 20 ≤ k * step_of t.mtus.mtu6 → payloads_of sent ≡ drop (k * step_of t.mtus.mtu6) over

plus_none : (k step : ℕ) → k * step ≡ (k + 0) * step
plus_none k step = ap (λ (n : ℕ). n * step) (plain k)
  where
    plain : (n : ℕ) → n ≡ n + 0
    plain n = omega arith

same_piece : (p r : Parcel) → ◌≡◌ {A = Option Parcel} (Some p) (Some r) → p ≡ r
same_piece p r e = cc

no_piece : (p : Parcel) → ◌≡◌ {A = Option Parcel} (Some p) None → ⊥
no_piece p e = cc

missing : (p : Parcel) → ◌≡◌ {A = Option Parcel} None (Some p) → ⊥
missing p e = cc

-- the packet is cut there, whatever ends its pieces are given
record IsCutUp (t : Transfer) (six over : List ℕ) (whole : Ends Addr4 → List ℕ) (h : Head6) (payload : List ℕ) : Type 0 where
  cut : IsCutFor t six over whole
  may : IsCuttable h payload six

comes_one : (t : Transfer) (six over : List ℕ) (whole : Ends Addr4 → List ℕ) (h : Head6) (payload : List ℕ) (k : ℕ) (at_relay : Bool) (p : Parcel) (one : PieceBack) → IsCutUp t six over whole h payload
    → k * step_of t.mtus.mtu6 < length over → p ≡ piece (cut_of t over) (k * step_of t.mtus.mtu6) → (q : Packet6) × IsBack (with_ends t one.ends) at_relay q p.bytes one.octets → ComesOne t whole k one
comes_one t six over whole h payload k at_relay p one is inside this back =
    let q : Packet6 = back.0 in
    let came = (is.cut.there one.ends back.1.ports).each h payload one.octets k at_relay q is.may inside (subst (λ (r : Parcel). IsBack (with_ends t one.ends) at_relay q r.bytes one.octets) this back.1) in
    record {
      sent = came.sent;
      named = subst (λ (xs : List ℕ). Named (crossing_with t (packet_with one.ends t.taken)) (piece_at (k * step_of t.mtus.mtu6)) xs came.sent) (sym (is.cut.alike one.ends)) came.named;
      part_is = came.part_is;
      octets_are = came.octets_are;
    }

-- the first of the pieces from a number on is that of the number
record IsHere (t : Transfer) (over : List ℕ) (k : ℕ) (p : Parcel) : Type 0 where
  inside : k * step_of t.mtus.mtu6 < length over
  is : p ≡ piece (cut_of t over) (k * step_of t.mtus.mtu6)

abbrev some_piece : Parcel → Option Parcel
some_piece r = Some r

here : (t : Transfer) (over : List ℕ) (k : ℕ) (p : Parcel) (pieces : List Parcel) → AreFrom (cut_of t over) k (p ∷ pieces) → IsHere t over k p
here t over k p pieces are = elim (cases_lt (k * step_of t.mtus.mtu6) (length over)) [
  | inl inside ↦
      let found = are.each 0 (subst (λ (n : ℕ). n < length over) (plus_none k (step_of t.mtus.mtu6)) inside) in
      record { inside = inside; is = same_piece p (piece (cut_of t over) (k * step_of t.mtus.mtu6)) (found ∙ ap (λ (n : ℕ). some_piece (piece (cut_of t over) n)) (sym (plus_none k (step_of t.mtus.mtu6)))) }
  | inr past ↦ absurd (no_piece p (are.no_more 0 (subst (λ (n : ℕ). length over ≤ n) (plus_none k (step_of t.mtus.mtu6)) past)))
]

-- what is sent of a piece has the octets of its place
sent_long : (t : Transfer) (six over : List ℕ) (whole : Ends Addr4 → List ℕ) (h : Head6) (payload : List ℕ) (k : ℕ) (one : PieceBack) (fits : FitsPorts t.taken.content one.ends.ports) → IsCutUp t six over whole h payload → (came : ComesOne t whole k one)
    → length came.sent.payload ≡ min (step_of t.mtus.mtu6) (length over - k * step_of t.mtus.mtu6)
sent_long t six over whole h payload k one fits is came =
    let step = step_of t.mtus.mtu6 in
    ap (λ (xs : List ℕ). length xs) came.part_is ∙ length-part (whole one.ends) (k * step) step ∙ ap (λ (n : ℕ). min step (n - k * step)) (is.cut.there one.ends fits).long

-- one piece, and then those behind it
named_on : (t : Transfer) (over : List ℕ) (whole : Ends Addr4 → List ℕ) (k : ℕ) (one : PieceBack) (backs : List PieceBack) (came : ComesOne t whole k one) (others : ComesFrom t over whole (suc k) backs)
    → k * step_of t.mtus.mtu6 < length over → length came.sent.payload ≡ min (step_of t.mtus.mtu6) (length over - k * step_of t.mtus.mtu6) → (place : ℕ)
    → (place ≡ k * step_of t.mtus.mtu6) ⊎ (length over ≤ k * step_of t.mtus.mtu6) → AreNamedFrom (crossing_with t) (whole_by whole) place (arrived_by t.taken (one ∷ backs)) (came.sent ∷ others.sent)
named_on t over whole k one backs came others inside size place (inr past) = absurd (omega (arith, past, inside))
named_on t over whole k one backs came others inside size place (inl at) =
    let after : suc k * step_of t.mtus.mtu6 ≡ k * step_of t.mtus.mtu6 + step_of t.mtus.mtu6 = suc-mul k (step_of t.mtus.mtu6) in (
      subst (λ (n : ℕ). Named (crossing_with t (packet_with one.ends t.taken)) (piece_at n) (whole_by whole (packet_with one.ends t.taken)) came.sent) (sym at) came.named,
      came.octets_are,
      others.named (place + length came.sent.payload) (elim (cases_lt (suc k * step_of t.mtus.mtu6) (length over)) [
        | inl more ↦ inl (omega (arith, size, at, after, more))
        | inr end ↦ inr end
      ]),
    )

comes_from : (t : Transfer) (six over : List ℕ) (whole : Ends Addr4 → List ℕ) (h : Head6) (payload : List ℕ) (k : ℕ) (at_relay : Bool) (pieces : List Parcel) (backs : List PieceBack) → IsCutUp t six over whole h payload
    → AreFrom (cut_of t over) k pieces → AreBack t at_relay pieces backs → ComesFrom t over whole k backs
comes_from t six over whole h payload k at_relay [] [] is are back =
    let step = step_of t.mtus.mtu6 in
    elim (cases_lt (k * step) (length over)) [
      | inl inside ↦ absurd (missing (piece (cut_of t over) ((k + 0) * step)) (are.each 0 (subst (λ (n : ℕ). n < length over) (plus_none k step) inside)))
      | inr past ↦ record { sent = []; named = λ at place. tt; rest = λ far. behind_all over (k * step) past }
    ]
comes_from t six over whole h payload k at_relay [] (one ∷ backs) is are back = absurd back
comes_from t six over whole h payload k at_relay (p ∷ pieces) [] is are back = absurd back
comes_from t six over whole h payload k at_relay (p ∷ pieces) (one ∷ backs) is are back =
    let step = step_of t.mtus.mtu6 in
    let at = k * step in
    let others = comes_from t six over whole h payload (suc k) at_relay pieces backs is (from_next (cut_of t over) k p pieces are) back.1 in
    let this = here t over k p pieces are in
    let came = comes_one t six over whole h payload k at_relay p one is this.inside this.is back.0 in
    let size = sent_long t six over whole h payload k one back.0.1.ports is came in
    let after : suc k * step ≡ at + step = suc-mul k step in
    record {
      sent = came.sent ∷ others.sent;
      named = named_on t over whole k one backs came others this.inside size;
      rest = λ far. ap (λ (xs : List ℕ). xs ++ payloads_of others.sent) (came.part_is ∙ is.cut.behind one.ends at step far)
          ∙ ap (λ (xs : List ℕ). part over at step ++ xs) (others.rest (omega (arith, far, after)) ∙ ap (λ (n : ℕ). drop n over) after)
          ∙ split_at over at step;
    }

-- a list from its front on
all_of : (xs ys : List ℕ) (n : ℕ) → length xs ≡ length ys → ((count : ℕ) → part xs n count ≡ part ys n count) → part xs 0 n ++ drop n ys ≡ xs
all_of xs ys n long same = ap (λ (zs : List ℕ). part xs 0 n ++ zs) (sym (to_end ys) ∙ sym (same (length ys)) ∙ ap (λ (m : ℕ). part xs n m) (sym long) ∙ to_end xs) ∙ split_front
  where
    to_end : (zs : List ℕ) → part zs n (length zs) ≡ drop n zs
    to_end zs = same_number_lists _ _ (grind (arith, places)) (λ k small. grind (arith, places))

    split_front : part xs 0 n ++ drop n xs ≡ xs
    split_front = same_number_lists _ _ (grind (arith, places)) (λ k small. grind (arith, places))

together : (t : Transfer) (six over : List ℕ) (whole : Ends Addr4 → List ℕ) (h : Head6) (payload : List ℕ) (at_relay : Bool) (pieces : List Parcel) (backs : List PieceBack) → IsCutUp t six over whole h payload
    → AreFrom (cut_of t over) 0 pieces → AreBack t at_relay pieces backs → ComeTogether (crossing_with t) (arrived_by t.taken backs)
together t six over whole h payload at_relay [] [] is are back = record { whole = whole_by whole; sent = []; named = tt; no_gap = refl }
together t six over whole h payload at_relay [] (one ∷ backs) is are back = absurd back
together t six over whole h payload at_relay (p ∷ pieces) [] is are back = absurd back
together t six over whole h payload at_relay (p ∷ pieces) (one ∷ backs) is are back =
    let step = step_of t.mtus.mtu6 in
    let others = comes_from t six over whole h payload 1 at_relay pieces backs is (from_next (cut_of t over) 0 p pieces are) back.1 in
    let this = here t over 0 p pieces are in
    let came = comes_one t six over whole h payload 0 at_relay p one is this.inside this.is back.0 in
    let size = sent_long t six over whole h payload 0 one back.0.1.ports is came in
    let least = step_least t.mtus in
    let once : 1 * step ≡ step = omega arith in
    let first : came.sent.payload ≡ part (whole one.ends) 0 step = came.part_is ∙ ap (λ (n : ℕ). part (whole one.ends) n step) (none step) in
    let behind : payloads_of others.sent ≡ drop step over = others.rest (omega (arith, least, once)) ∙ ap (λ (n : ℕ). drop n over) once in
    record {
      whole = whole_by whole;
      sent = came.sent ∷ others.sent;
      named = named_on t over whole 0 one backs came others this.inside size 0 (inl (sym (none step)));
      no_gap = ap (λ (xs : List ℕ). xs ++ payloads_of others.sent) first
          ∙ ap (λ (xs : List ℕ). part (whole one.ends) 0 step ++ xs) behind
          ∙ all_of (whole one.ends) over step (is.cut.there one.ends back.0.1.ports).long (λ count. is.cut.behind one.ends step count least)
          ∙ sym (is.cut.alike one.ends);
    }
  where
    none : (n : ℕ) → 0 * n ≡ 0
    none n = omega arith

pub comes_together : (t : Transfer) (octets : List ℕ) (at_relay : Bool) (pieces : List Parcel) (backs : List PieceBack) → IsTakenAs t octets → t.taken.head.id < 65536 → IsCutInto t pieces → AreBack t at_relay pieces backs
    → ComeTogether (crossing_with t) (arrived_by t.taken backs)
comes_together t octets at_relay pieces backs taken small is back =
    let there = cut_there t octets is.six is.flows taken small is.there in
    let over : List ℕ = there.0 in
    let whole : Ends Addr4 → List ℕ = there.1 in
    let h : Head6 = is.cut.0 in
    let payload : List ℕ = is.cut.1 in
    let may = is.cut.2 in
    let same = this_cut t octets over is.six h payload taken there.2.laid may in
    let id = t.taken.head.id in
    let these : AreCut (cut_of t over) pieces = subst (λ (g : Head6). AreCut (cut_for g over t.mtus.mtu6 id) pieces) same.head (subst (λ (xs : List ℕ). AreCut (cut_for h xs t.mtus.mtu6 id) pieces) same.payload_is is.cut.3) in
    together t is.six over whole h payload at_relay pieces backs (record { cut = there.2; may = may }) (from_start (cut_of t over) pieces these) back
