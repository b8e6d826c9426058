-- A packet has one passage, one answer where it is dropped, and so comes to one hop.
use Rattle.std.proofs.Common.{◌≡◌, ◌*◌, ◌<◌, ◌≤◌, ℕ, suc, List, [], ◌∷◌, length, true, false, Some, None, inl, inr, refl, sym, ap, ◌∙◌, subst, arith}
use Rattle.std.specs.Prelude.{Option, slice_get}
use Rattle.std.proofs.lemmas.Bool.{cases_lt}
use Rattle.octets.specs.declared.address.Addr4.{Addr4}
use Rattle.octets.specs.declared.address.Addr6.{Addr6}
use Rattle.octets.specs.declared.mtus.Mtus.{Mtus}
use Rattle.octets.specs.declared.parcel.Parcel.{Parcel}
use Rattle.ip6_packet.specs.declared.head.Head6.{Head6}
use Rattle.ip6_packet.proofs.EmbeddedLemmas.{headers_of6}
use Rattle.ip6_packet.proofs.WrittenLemmas.{written_is6}
use Rattle.l4_headers.specs.declared.ends.Ends.{Ends}
use Rattle.packet_faults.specs.Cut.{Cutting, cut_for, AreCut, IsCuttable}
use Rattle.packet_faults.proofs.CutLemmas.{found}
use Rattle.packets.specs.declared.packet4.Packet4.{Packet4}
use Rattle.packets.specs.declared.packet6.Packet6.{Packet6}
use Rattle.transit.specs.declared.passage.Passage.{Passage}
use Rattle.transit.specs.declared.passage.Passage.TheVariants.{Sent, Cut, Spent, TooBig}
use Rattle.transit.specs.Passage46.{translation46, AreCutOf, IsPassage46}
use Rattle.transit.specs.Passage64.{translation64, IsPassage64}
use Rattle.icmp_xlat.specs.declared.passing.Passing.{Passing}

-- what an option has is one
one_in : {A : Type 0} (found : Option A) (one other : A) → found ≡ Some one → found ≡ Some other → one ≡ other
one_in found one other a b = let e : Some one ≡ Some other = sym a ∙ b in cc

-- lists with the same items at all places are one
same_items : (xs ys : List Parcel) → ((k : ℕ) → slice_get xs k ≡ slice_get ys k) → xs ≡ ys
same_items [] [] same = refl
same_items [] (y ∷ ys) same = absurd (let e : ◌≡◌ {A = Option Parcel} None (Some y) = same 0 in cc)
same_items (x ∷ xs) [] same = absurd (let e : ◌≡◌ {A = Option Parcel} (Some x) None = same 0 in cc)
same_items (x ∷ xs) (y ∷ ys) same =
    let first : x ≡ y = one_in (Some y) x y (sym (same 0)) refl in
    let others : xs ≡ ys = same_items xs ys (λ k. same (suc k)) in
    λ i. first i ∷ others i

-- the pieces of one cut are one list
one_cut : (cut : Cutting) (one other : List Parcel) → AreCut cut one → AreCut cut other → one ≡ other
one_cut cut one other a b = same_items one other (λ k. elim (cases_lt (k * cut.step) (length cut.payload)) [
  | inl within ↦ a.each k within ∙ sym (b.each k within)
  | inr past ↦ a.no_more k past ∙ sym (b.no_more k past)
])

-- a packet that may be cut has one header and one payload
one_cuttable : (h g : Head6) (payload other octets : List ℕ) → IsCuttable h payload octets → IsCuttable g other octets → (h ≡ g) × (payload ≡ other)
one_cuttable h g payload other octets a b =
    let is = written_is6 g other octets b.form in
    let same = found h g payload octets a (headers_of6 g other octets is) in
    (same.head, same.payload_is ∙ sym is.payload_is)

pub one_cut_of : (octets : List ℕ) (mtu6 id : ℕ) (one other : List Parcel) → AreCutOf octets mtu6 id one → AreCutOf octets mtu6 id other → one ≡ other
one_cut_of octets mtu6 id one other (h, payload, may, are) (g, rest, might, those) =
    let same = one_cuttable h g payload rest octets may might in
    let head : h ≡ g = same.0 in
    let body : payload ≡ rest = same.1 in
    let moved : AreCut (cut_for g rest mtu6 id) one = rw (head, body) at are in
    one_cut (cut_for g rest mtu6 id) one other moved those

-- a translation doesn't both fit and pass the MTU
apart : (mtu : ℕ) (found : Option (List ℕ)) (x y : List ℕ) → found ≡ Some x → found ≡ Some y → length x ≤ mtu → mtu < length y → ⊥
apart mtu found x y a b fits long = omega (arith, ap length (one_in found x y a b))

pub one_passage46 : (mtus : Mtus) (p : Packet4) (payload : List ℕ) (ends : Ends Addr6) (one other : Passage) → IsPassage46 mtus p payload ends one → IsPassage46 mtus p payload ends other → one ≡ other
one_passage46 mtus p payload ends Spent Spent a b = refl
one_passage46 mtus p payload ends Spent (Sent y) a b = absurd (omega (arith, a, b.0))
one_passage46 mtus p payload ends Spent (Cut y) a b = absurd (omega (arith, a, b.0))
one_passage46 mtus p payload ends Spent TooBig a b = absurd (omega (arith, a, b.0))
one_passage46 mtus p payload ends (Sent x) Spent a b = absurd (omega (arith, b, a.0))
one_passage46 mtus p payload ends (Sent x) (Sent y) a b = ap Sent (one_in (translation46 mtus p.head payload ends p.content) x y a.1 b.1)
one_passage46 mtus p payload ends (Sent x) (Cut y) a b = absurd (apart mtus.mtu6 (translation46 mtus p.head payload ends p.content) x b.1.0 a.1 b.1.1 a.2 b.1.2)
one_passage46 mtus p payload ends (Sent x) TooBig a b = absurd (apart mtus.mtu6 (translation46 mtus p.head payload ends p.content) x b.1.0 a.1 b.1.1 a.2 b.1.2)
one_passage46 mtus p payload ends (Cut x) Spent a b = absurd (omega (arith, b, a.0))
one_passage46 mtus p payload ends (Cut x) (Sent y) a b = absurd (apart mtus.mtu6 (translation46 mtus p.head payload ends p.content) y a.1.0 b.1 a.1.1 b.2 a.1.2)
one_passage46 mtus p payload ends (Cut x) (Cut y) a b =
    let same : a.1.0 ≡ b.1.0 = one_in (translation46 mtus p.head payload ends p.content) a.1.0 b.1.0 a.1.1 b.1.1 in
    ap Cut (one_cut_of b.1.0 mtus.mtu6 p.head.id x y (subst (λ (octets : List ℕ). AreCutOf octets mtus.mtu6 p.head.id x) same a.1.4) b.1.4)
one_passage46 mtus p payload ends (Cut x) TooBig a b = absurd (let e : false ≡ true = sym a.1.3 ∙ b.1.3 in cc)
one_passage46 mtus p payload ends TooBig Spent a b = absurd (omega (arith, b, a.0))
one_passage46 mtus p payload ends TooBig (Sent y) a b = absurd (apart mtus.mtu6 (translation46 mtus p.head payload ends p.content) y a.1.0 b.1 a.1.1 b.2 a.1.2)
one_passage46 mtus p payload ends TooBig (Cut y) a b = absurd (let e : true ≡ false = sym a.1.3 ∙ b.1.3 in cc)
one_passage46 mtus p payload ends TooBig TooBig a b = refl

pub one_passage64 : (way : Passing Addr4) (p : Packet6) (payload : List ℕ) (one other : Passage) → IsPassage64 way p payload one → IsPassage64 way p payload other → one ≡ other
one_passage64 way p payload Spent Spent a b = refl
one_passage64 way p payload Spent (Sent y) a b = absurd (omega (arith, a, b.0))
one_passage64 way p payload Spent TooBig a b = absurd (omega (arith, a, b.0))
one_passage64 way p payload (Sent x) Spent a b = absurd (omega (arith, b, a.0))
one_passage64 way p payload (Sent x) (Sent y) a b = ap Sent (one_in (translation64 way p.head payload p.content) x y a.1 b.1)
one_passage64 way p payload (Sent x) TooBig a b =
    let same : x ≡ b.1.0 = one_in (translation64 way p.head payload p.content) x b.1.0 a.1 b.1.1 in
    absurd (omega (arith, ap length same, a.2, b.1.2))
one_passage64 way p payload TooBig Spent a b = absurd (omega (arith, b, a.0))
one_passage64 way p payload TooBig (Sent y) a b =
    let same : y ≡ a.1.0 = one_in (translation64 way p.head payload p.content) y a.1.0 b.1 a.1.1 in
    absurd (omega (arith, ap length same, b.2, a.1.2))
one_passage64 way p payload TooBig TooBig a b = refl
one_passage64 way p payload (Cut x) other a b = absurd a
one_passage64 way p payload Spent (Cut y) a b = absurd b
one_passage64 way p payload (Sent x) (Cut y) a b = absurd b
one_passage64 way p payload TooBig (Cut y) a b = absurd b
