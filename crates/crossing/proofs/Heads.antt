-- The header of a packet that crosses, and how it is read on the access network.
use Rattle.std.proofs.Common.{◌≡◌, ℕ, ◌-◌, ◌%◌, ◌^◌, ◌<◌, ◌≤◌, Bool, true, false, cond, not, ◌||◌, ◌&&◌, eqb, List, length, Option, Some, None, inl, inr, refl, sym, ap, ◌∙◌, subst, arith}
use Rattle.std.specs.Prelude.{nat_le, is_some}
use Rattle.std.proofs.lemmas.Bool.{cases_eq, ne_eqb, false≢true}
use Rattle.std.proofs.lemmas.List.{places}
use Rattle.octets.specs.declared.address.Addr4.{Addr4}
use Rattle.octets.specs.declared.mtus.Mtus.{Mtus}
use Rattle.ip4_packet.specs.declared.head.Head4.{Head4}
use Rattle.ip4_packet.specs.Grammar.{payload_of4, Is4}
use Rattle.ip4_packet.specs.Written.{written4}
use Rattle.ip6_packet.specs.declared.head.Head6.{Head6}
use Rattle.ip6_packet.specs.declared.head.Frag6.{Frag6}
use Rattle.ip6_packet.specs.Fragment.{fragment_offset, more_fragments}
use Rattle.ip6_packet.specs.Grammar.{payload_of6}
use Rattle.ip6_packet.specs.Written.{written6, IsUpper, IsPlaced, FitsFrag, IsPacket6 as IsForm6}
use Rattle.ip6_packet.proofs.EmbeddedLemmas.{same_headers6, headers_of6}
use Rattle.ip6_packet.proofs.WrittenLemmas.{written_is6}
use Rattle.xlat46.specs.Fits.{FitsHead}
use Rattle.xlat46.specs.Head.{fragment_header, upper_protocol, translated as translated46}
use Rattle.ip4_packet.specs.Fragment.{is_fragment}
use Rattle.xlat64.specs.Head.{protocol_of, identification as identification64, dont_fragment as dont_fragment64, translated as translated64}
use Rattle.l4_headers.specs.declared.ends.Ends.{Ends}
use Rattle.packets.specs.declared.packet6.Content6.{Content6}
use Rattle.packets.specs.declared.packet6.Content6.TheVariants.{Segment as Segment6, Later as Later6, Query as Query6, Error as Error6}
use Rattle.packets.specs.declared.packet6.Packet6.{Packet6}
use Rattle.packets.specs.Packet6.{IsPacket6, IsContent6}
use Rattle.transit.specs.Passage64.{translation64}
use Rattle.transit.proofs.Form.{low_offset}
use Rattle.crossing.specs.Named.{Named, IsPayload, uncut}
use Rattle.crossing.specs.Transfer.{Transfer, FitsEnds, IsTakenAs, IsBack, crossing_of, content_with}

-- a packet that is no fragment
pub whole_parts : (mf : Bool) (n : ℕ) → (mf || not (eqb n 0)) ≡ false → (mf ≡ false) × (n ≡ 0)
whole_parts true n e = absurd (false≢true (sym e))
whole_parts false n e = (refl, elim (cases_eq n 0) [ inl none ↦ none | inr some ↦ absurd (false≢true (sym (rw (ne_eqb n 0 some) at e))) ])

-- the payload has the octets that the header declares
pub payload_len_is : (h : Head4) (payload octets : List ℕ) → Is4 h payload octets → length payload ≡ h.total - h.head_len
payload_len_is h payload octets is = rw is.payload_is (grind (arith, places, is.total_fits, is.whole))

-- two translations that stand are one
pub some_same : (a b : List ℕ) → ◌≡◌ {A = Option (List ℕ)} (Some a) (Some b) → a ≡ b
some_same a b e = cc

-- ---- fragment fields, there and back

abbrev pub frag_of : Head4 → Frag6
frag_of h = record { offset = h.offset; more = h.mf; id = h.id }

pub id_twice : (b : Bool) (frag : Frag6) (id : ℕ) → (b ≡ true → frag.id < 65536) → identification64 (cond b (Some frag) None) id ≡ cond b frag.id id
id_twice true frag id fits = omega (arith, fits refl)
id_twice false frag id fits = refl

pub df_twice : (b : Bool) (frag : Frag6) (total : ℕ) → dont_fragment64 (cond b (Some frag) None) total ≡ (not b && not (nat_le total 1260))
df_twice true frag total = refl
df_twice false frag total = refl

offset_by : (b : Bool) (h : Head4) → is_fragment h ≡ b → fragment_offset (cond b (Some (frag_of h)) None) ≡ h.offset
offset_by true h is = refl
offset_by false h is = sym (whole_parts h.mf h.offset is).1

more_by : (b : Bool) (h : Head4) → is_fragment h ≡ b → more_fragments (cond b (Some (frag_of h)) None) ≡ h.mf
more_by true h is = refl
more_by false h is = sym (whole_parts h.mf h.offset is).0

pub offset_there : (h : Head4) → fragment_offset (fragment_header h) ≡ h.offset
offset_there h = offset_by (is_fragment h) h refl

pub more_there : (h : Head4) → more_fragments (fragment_header h) ≡ h.mf
more_there h = more_by (is_fragment h) h refl

-- ---- the header over IPv6, and back

abbrev pub head_there : Transfer → ℕ → Head6
head_there t len = record (translated46 t.taken.head t.six.src t.six.dst) { length = len }

abbrev pub head_back : Transfer → ℕ → Head4
head_back t len = translated64 (head_there t len) t.four.src t.four.dst (t.number % 2 ^ 16)

pub placed_by : (fragment : Bool) (frag : Frag6) (len : ℕ) → frag.offset < 8192 → len ≤ 65515
    → let header = cond fragment (Some frag) None in IsPlaced (cond (is_some header) 48 40) len header
placed_by true frag len low fits = (refl, omega arith, low)
placed_by false frag len low fits = refl

pub frag_fits : (fragment : Bool) (frag : Frag6) → (fragment ≡ true → frag.id < 65536) → FitsFrag (cond fragment (Some frag) None)
frag_fits true frag fits = omega (arith, fits refl)
frag_fits false frag fits = tt

pub form : (t : Transfer) (payload : List ℕ) → FitsHead t.taken.head → FitsEnds t.six → t.taken.head.offset < 8192 → length payload ≤ 65515
    → IsUpper (upper_protocol t.taken.head.proto) → IsForm6 (head_there t (length payload)) payload (written6 (head_there t (length payload)) payload)
form t payload fit ends low fits upper = record {
  exact = refl;
  unrouted = refl;
  upper = upper;
  placed = placed_by (is_fragment t.taken.head) (frag_of t.taken.head) (length payload) low fits;
  in_range = record { class = fit.tos; length_fits = omega arith; src = ends.src; dst = ends.dst };
  frag_in_range = frag_fits (is_fragment t.taken.head) (frag_of t.taken.head) fit.id;
  written = refl;
}

-- ---- what is read of written octets

pub record Reads (q : Packet6) (h : Head6) (payload octets : List ℕ) : Type 0 where
  pub head : q.head ≡ h
  pub payload_is : payload_of6 q.head octets ≡ payload

pub reads : (at_relay : Bool) (q : Packet6) (h : Head6) (payload octets : List ℕ) → IsForm6 h payload octets → IsPacket6 at_relay q octets → Reads q h payload octets
reads at_relay q h payload octets form read =
    let is = written_is6 h payload octets form in
    let head = same_headers6 q.head h octets (headers_of6 q.head (payload_of6 q.head octets) octets read.is) (headers_of6 h payload octets is) in
    record { head = head; payload_is = ap (λ (g : Head6). payload_of6 g octets) head ∙ sym is.payload_is }

-- on the access network stands a packet with this payload
pub record IsLaid (t : Transfer) (over six : List ℕ) : Type 0 where
  pub fits : length over ≤ 65515
  pub upper : IsUpper (upper_protocol t.taken.head.proto)
  pub written : six ≡ written6 (head_there t (length over)) over

-- whoever takes it reads this header and payload
pub laid_reads : (t : Transfer) (octets over six : List ℕ) (at_relay : Bool) (q : Packet6) → IsTakenAs t octets → IsLaid t over six → IsPacket6 at_relay q six → Reads q (head_there t (length over)) over six
laid_reads t octets over six at_relay q taken laid is =
    let h = t.taken.head in
    let head6 = head_there t (length over) in
    let low = low_offset h (payload_of4 h octets) octets taken.is.is taken.is.header in
    let made = form t over taken.fits taken.six low laid.fits laid.upper in
    let read = reads at_relay q head6 over (written6 head6 over) made (subst (λ (xs : List ℕ). IsPacket6 at_relay q xs) laid.written is) in
    record { head = read.head; payload_is = ap (λ (xs : List ℕ). payload_of6 q.head xs) laid.written ∙ read.payload_is }

pub laid_inside : (t : Transfer) (octets over six : List ℕ) (at_relay : Bool) (q : Packet6) → IsTakenAs t octets → IsLaid t over six → IsPacket6 at_relay q six → IsContent6 at_relay (head_there t (length over)) over q.content
laid_inside t octets over six at_relay q taken laid is =
    let read = laid_reads t octets over six at_relay q taken laid is in
    let inside : IsContent6 at_relay q.head over q.content = subst (λ (xs : List ℕ). IsContent6 at_relay q.head xs q.content) read.payload_is is.content in
    subst (λ (g : Head6). IsContent6 at_relay g over q.content) read.head inside

-- A packet with a Fragment Header has its own identification, whatever other one the node gives.
fixed_id : (mtus : Mtus) (head : Head6) (frag : Frag6) (payload : List ℕ) (ends : Ends Addr4) (id other : ℕ) (content : Content6)
    → translation64 (record { mtus = mtus; ends = ends; id = id }) (record head { frag = Some frag }) payload content ≡ translation64 (record { mtus = mtus; ends = ends; id = other }) (record head { frag = Some frag }) payload content
fixed_id mtus head frag payload ends id other (Segment6 proto l4) = refl
fixed_id mtus head frag payload ends id other (Later6 proto) = refl
fixed_id mtus head frag payload ends id other (Query6 m row) = refl
fixed_id mtus head frag payload ends id other (Error6 m row inner) = refl

pub numbered_as : (mtus : Mtus) (head : Head6) (payload : List ℕ) (ends : Ends Addr4) (id other : ℕ) (content : Content6) → (head.frag ≡ None → id ≡ other)
    → translation64 (record { mtus = mtus; ends = ends; id = id }) head payload content ≡ translation64 (record { mtus = mtus; ends = ends; id = other }) head payload content
numbered_as mtus head payload ends id other content same = by head.frag refl
  where
    by : (frag : Option Frag6) → head.frag ≡ frag → translation64 (record { mtus = mtus; ends = ends; id = id }) head payload content ≡ translation64 (record { mtus = mtus; ends = ends; id = other }) head payload content
    by None e = ap (λ (n : ℕ). translation64 (record { mtus = mtus; ends = ends; id = n }) head payload content) (same e)
    by (Some frag) e = subst (λ (f : Option Frag6). translation64 (record { mtus = mtus; ends = ends; id = id }) (record head { frag = f }) payload content ≡ translation64 (record { mtus = mtus; ends = ends; id = other }) (record head { frag = f }) payload content) (sym e) (fixed_id mtus head frag payload ends id other content)

-- What the second node reads of it, and makes of it.
pub record Between (t : Transfer) (at_relay : Bool) (q : Packet6) (over four : List ℕ) : Type 0 where
  pub inside : IsContent6 at_relay (head_there t (length over)) over q.content
  pub back : translation64 (record { mtus = t.mtus; ends = t.four; id = (t.number % 2 ^ 16) }) (head_there t (length over)) over q.content ≡ Some four
  pub lasts : 3 ≤ t.taken.head.ttl

pub between : (t : Transfer) (octets over six four : List ℕ) (at_relay : Bool) (q : Packet6) → IsTakenAs t octets → IsLaid t over six → IsBack t at_relay q six four → Between t at_relay q over four
between t octets over six four at_relay q taken laid back =
    let id = t.number % 2 ^ 16 in
    let head6 = head_there t (length over) in
    let read = laid_reads t octets over six at_relay q taken laid back.is in
    let makes : translation64 (record { mtus = t.mtus; ends = t.four; id = id }) q.head over q.content ≡ Some four = sym (numbered_as t.mtus q.head over t.four back.id id q.content back.numbered) ∙ subst (λ (xs : List ℕ). translation64 (record { mtus = t.mtus; ends = t.four; id = back.id }) q.head xs q.content ≡ Some four) read.payload_is back.back in
    let lasts : 1 < head6.hop = subst (λ (g : Head6). 1 < g.hop) read.head back.lasts in
    record {
      inside = laid_inside t octets over six at_relay q taken laid back.is;
      back = subst (λ (g : Head6). translation64 (record { mtus = t.mtus; ends = t.four; id = id }) g over q.content ≡ Some four) read.head makes;
      lasts = omega (arith, lasts);
    }

-- ---- the named changes of the header

pub named_uncut : (t : Transfer) (payload : List ℕ) → FitsHead t.taken.head → 3 ≤ t.taken.head.ttl → length payload ≤ 65515
    → protocol_of (upper_protocol t.taken.head.proto) ≡ t.taken.head.proto
    → IsPayload (crossing_of t) t.taken.content (content_with t.four t.taken.content) payload
    → Named (crossing_of t) uncut payload (record { head = head_back t (length payload); payload = payload; octets = written4 (head_back t (length payload)) payload })
named_uncut t payload fit lasts fits back is = record {
  octets = refl;
  routed = refl;
  head_len = refl;
  total = omega (arith, fits);
  ttl = omega (arith, lasts);
  id = id_twice (is_fragment t.taken.head) (frag_of t.taken.head) (t.number % 2 ^ 16) fit.id;
  df = df_twice (is_fragment t.taken.head) (frag_of t.taken.head) (head_back t (length payload)).total;
  payload = is;
  part = refl;
  offset = offset_there t.taken.head;
  more = more_there t.taken.head;
  tos = refl;
  proto = back;
  src = refl;
  dst = refl;
}
