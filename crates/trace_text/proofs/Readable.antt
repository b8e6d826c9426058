-- Tests that compute, by which octets as they are written are a packet that a node takes.
use Rattle.std.proofs.Common.{◌≡◌, ◌≢◌, ◌⊎◌, ℕ, zero, suc, ◌+◌, ◌*◌, ◌-◌, ◌/◌, ◌%◌, ◌^◌, ◌<◌, Bool, true, false, List, [], ◌∷◌, length, Option, Some, None, inl, inr, refl, sym, ap, subst, arith}
use Rattle.std.specs.Prelude.{not, ◌&&◌, ◌||◌, ◌==◌, nat_lt}
use Rattle.std.proofs.lemmas.Bool.{ltb-true, eqb-true}
use Rattle.octets.specs.Bits.{bit_of}
use Rattle.octets.specs.Field.{word}
use Rattle.octets.specs.Fragment.{IsWrongFragment}
use Rattle.octets.specs.Protocol.{proto4, proto6}
use Rattle.octets.specs.declared.proto.Proto.TheVariants.{Udp}
use Rattle.octets.proofs.Numerals.{eqb_false}
use Rattle.ip4_packet.specs.declared.head.Head4.{Head4}
use Rattle.ip4_packet.specs.Grammar.{Is4}
use Rattle.ip4_packet.specs.Causes.{HasNoHeaderCause4, IsNoDestination4}
use Rattle.ip4_packet.specs.Written.{written4}
use Rattle.ip4_packet.proofs.WrittenLemmas.{written_again as written_again4}
use Rattle.ip6_packet.specs.declared.head.Frag6.{Frag6}
use Rattle.ip6_packet.specs.declared.head.Head6.{Head6}
use Rattle.ip6_packet.specs.Fragment.{fragment_offset, more_fragments}
use Rattle.ip6_packet.specs.Grammar.{Is6}
use Rattle.ip6_packet.specs.Causes.{HasNoHeaderCause6, IsNoDestination6, IsWrongFrag6}
use Rattle.ip6_packet.specs.Written.{written6, IsPlaced, FitsFrag}
use Rattle.ip6_packet.proofs.WrittenLemmas.{written_again as written_again6}
use Rattle.ip6_packet.proofs.EmbeddedLemmas.{headers_of6}
use Rattle.l4_headers.specs.Transport.{IsBadTransport, l4_of}
use Rattle.icmp_messages.specs.Inner.{IsInner4, IsInner6}
use Rattle.packet_faults.specs.Cut.{IsCuttable}
use Rattle.packets.specs.declared.packet4.Content4.{Content4}
use Rattle.packets.specs.declared.packet6.Content6.{Content6}
use Rattle.packets.specs.Packet4.{IsPacket4, IsContent4, IsSegment4, IsLater4}
use Rattle.packets.specs.Packet6.{IsPacket6, IsContent6, IsSegment6, IsLater6}
use Rattle.trace_text.specs.Hops.{AreOctets, IsTaken4}

parts : (x y : Bool) → (x && y) ≡ true → (x ≡ true) × (y ≡ true)
parts true y e = (refl, e)
parts false y e = absurd cc

-- all of these tests hold
abbrev pub all_true : List Bool → Bool
all_true [] = true
all_true (b ∷ bs) = b && all_true bs

abbrev AreTrue : List Bool → Type 0
AreTrue [] = Unit {0}
AreTrue (b ∷ bs) = (b ≡ true) × AreTrue bs

each : (bs : List Bool) → all_true bs ≡ true → AreTrue bs
each [] e = tt
each (b ∷ bs) e = let both = parts b (all_true bs) e in (both.0, each bs both.1)

not_true : (b : Bool) → not b ≡ true → b ≡ false
not_true true e = absurd cc
not_true false e = refl

differ : (a b : ℕ) → not (a == b) ≡ true → a ≢ b
differ a b e = eqb_false a b (not_true (a == b) e)

or_parts : (x y : Bool) → (x || y) ≡ true → (x ≡ true) ⊎ (y ≡ true)
or_parts true y e = inl refl
or_parts false y e = inr e

-- octets
abbrev pub all_octets : List ℕ → Bool
all_octets [] = true
all_octets (x ∷ xs) = nat_lt x 256 && all_octets xs

octet_at : (x : ℕ) (xs : List ℕ) → x < 256 → AreOctets xs → AreOctets (x ∷ xs)
octet_at x xs small all zero = small
octet_at x xs small all (suc k) = all k

pub are_octets : (xs : List ℕ) → all_octets xs ≡ true → AreOctets xs
are_octets [] all = λ k. omega arith
are_octets (x ∷ xs) all = let both = parts (nat_lt x 256) (all_octets xs) all in octet_at x xs (ltb-true x 256 both.0)
    (are_octets xs both.1)

-- the fields of a fragment agree
fine_fragment : (offset : ℕ) (more : Bool) (len : ℕ) → offset * 8 + len < 65536 → (not more || (len % 8 == 0)) ≡ true
    → IsWrongFragment offset (bit_of more) len → ⊥
fine_fragment offset more len fits units (inl long) = absurd (omega arith)
fine_fragment offset true len fits units (inr wrong) = wrong.1 (eqb-true (len % 8) 0 units)
fine_fragment offset false len fits units (inr wrong) = absurd (omega (arith, wrong.0))

-- ---- over IPv4

abbrev tests4 : Head4 → List ℕ → List Bool
tests4 h payload =
    (h.total == 20 + length payload)
    ∷ (h.head_len == 20)
    ∷ not h.routed
    ∷ nat_lt h.total 65536
    ∷ nat_lt h.id 65536
    ∷ nat_lt h.src.0 (2 ^ 32)
    ∷ nat_lt h.dst.0 (2 ^ 32)
    ∷ nat_lt h.offset 8192
    ∷ nat_lt (h.offset * 8 + length payload) 65536
    ∷ (not h.mf || (length payload % 8 == 0))
    ∷ not (h.dst.0 / 2 ^ 28 == 14)
    ∷ not (h.dst.0 == 2 ^ 32 - 1)
    ∷ not (h.dst.0 == 0)
    ∷ []

no_destination4 : (addr : ℕ) → addr / 2 ^ 28 ≢ 14 → addr ≢ 2 ^ 32 - 1 → addr ≢ 0 → IsNoDestination4 addr → ⊥
no_destination4 addr group all none (inl e) = group e
no_destination4 addr group all none (inr (inl e)) = all e
no_destination4 addr group all none (inr (inr e)) = none e

-- a header and a payload that pass, as they are written
abbrev pub is_sound4 : Head4 → List ℕ → Bool
is_sound4 h payload = all_true (tests4 h payload)

pub written_reads4 : (h : Head4) (payload : List ℕ) → is_sound4 h payload ≡ true
    → Is4 h payload (written4 h payload) × HasNoHeaderCause4 (written4 h payload)
written_reads4 h payload sound =
    let (total, (bare, (unrouted, (total_fits, (id, (src, (dst, (low, (fits, (units, (group, (broadcast, (none, _))))))))))))) =
    each (tests4 h payload) sound in
    written_again4 h payload
    (record { total = ltb-true _ _ total_fits; id = ltb-true _ _ id; src = ltb-true _ _ src; dst = ltb-true _ _ dst })
    (eqb-true _ _ bare)
    (not_true _ unrouted)
    (ltb-true _ _ low) (
      eqb-true _ _ total,
      fine_fragment h.offset h.mf (length payload) (ltb-true _ _ fits) units,
      no_destination4 h.dst.0
          (differ _ _ group) (differ _ _ broadcast) (differ _ _ none),
    )

unrouted4 : (h : Head4) (payload : List ℕ) → is_sound4 h payload ≡ true → h.routed ≡ false
unrouted4 h payload sound = not_true _ (each (tests4 h payload) sound).1.1.0

-- what such a packet carries makes it one that a node takes
pub packet4 : (h : Head4) (payload : List ℕ) (content : Content4) → is_sound4 h payload ≡ true → IsContent4 h payload content
    → IsPacket4 (record { head = h; content = content }) (written4 h payload)
packet4 h payload content sound is =
    let reads = written_reads4 h payload sound in
    record {
      is = subst (λ (xs : List ℕ). Is4 h xs (written4 h payload)) reads.0.payload_is reads.0;
      header = reads.1;
      unrouted = unrouted4 h payload sound;
      content = subst (λ (xs : List ℕ). IsContent4 h xs content) reads.0.payload_is is;
    }

pub taken4 : (h : Head4) (payload : List ℕ) (content : Content4) → is_sound4 h payload ≡ true → all_octets (written4 h payload) ≡ true
    → IsContent4 h payload content → IsTaken4 (record { head = h; content = content }) (written4 h payload)
taken4 h payload content sound octets is = record { is = packet4 h payload content sound is; are = are_octets (written4 h payload) octets }

-- ---- over IPv6

abbrev frag_tests : Option Frag6 → ℕ → ℕ → List Bool
frag_tests None start len = (start == 40) ∷ []
frag_tests (Some frag) start len =
    (start == 48)
    ∷ nat_lt len 65528
    ∷ nat_lt frag.offset 8192
    ∷ nat_lt frag.id (2 ^ 32)
    ∷ nat_lt (frag.offset * 8 + len) 65536
    ∷ (not frag.more || (len % 8 == 0))
    ∷ []

placed6 : (frag : Option Frag6) (start len : ℕ) → AreTrue (frag_tests frag start len) → IsPlaced start len frag
placed6 None start len t = eqb-true _ _ t.0
placed6 (Some frag) start len t =
    let (begins, (fits, (low, _))) = t in
    let small : len < 65528 = ltb-true _ _ fits in
    (eqb-true _ _ begins, omega arith, ltb-true _ _ low)

frag_fits6 : (frag : Option Frag6) (start len : ℕ) → AreTrue (frag_tests frag start len) → FitsFrag frag
frag_fits6 None start len t = tt
frag_fits6 (Some frag) start len t = ltb-true _ _ t.1.1.1.0

fine_frag6 : (frag : Option Frag6) (start len : ℕ) → AreTrue (frag_tests frag start len) → IsWrongFrag6 frag len → ⊥
fine_frag6 None start len t wrong = wrong
fine_frag6 (Some frag) start len t wrong = fine_fragment frag.offset frag.more len (ltb-true _ _ t.1.1.1.1.0) t.1.1.1.1.1.0 wrong

abbrev head_tests6 : Head6 → List ℕ → List Bool
head_tests6 h payload =
    (h.length == length payload)
    ∷ not (h.upper == 0)
    ∷ not (h.upper == 43)
    ∷ not (h.upper == 44)
    ∷ not (h.upper == 60)
    ∷ nat_lt h.class 256
    ∷ nat_lt h.length 65536
    ∷ nat_lt h.src.0 (2 ^ 128)
    ∷ nat_lt h.dst.0 (2 ^ 128)
    ∷ not (h.dst.0 / 2 ^ 120 == 255)
    ∷ not (h.dst.0 == 0)
    ∷ []

no_destination6 : (addr : ℕ) → addr / 2 ^ 120 ≢ 255 → addr ≢ 0 → IsNoDestination6 addr → ⊥
no_destination6 addr group none (inl e) = group e
no_destination6 addr group none (inr e) = none e

abbrev pub is_sound6 : Head6 → List ℕ → Bool
is_sound6 h payload = all_true (head_tests6 h payload) && all_true (frag_tests h.frag h.start (length payload))

-- as they are written they have the one form, and can be cut
pub form6 : (h : Head6) (payload : List ℕ) → h.left ≡ None → is_sound6 h payload ≡ true → IsCuttable h payload (written6 h payload)
form6 h payload unrouted sound =
    let both = parts (all_true (head_tests6 h payload)) (all_true (frag_tests h.frag h.start (length payload))) sound in
    let (len, (options, (routing, (fragment, (destination, (class, (len_fits, (src, (dst, _))))))))) = each
    (head_tests6 h payload) both.0 in
    let frag : AreTrue (frag_tests h.frag h.start (length payload)) = each (frag_tests h.frag h.start (length payload)) both.1 in
    let exact : h.length ≡ length payload = eqb-true _ _ len in
    record {
      form = record {
        exact = exact;
        unrouted = unrouted;
        upper = (differ _ _ options, differ _ _ routing, differ _ _ fragment, differ _ _ destination);
        placed = subst (λ (n : ℕ). IsPlaced h.start n h.frag) (sym exact) (placed6 h.frag h.start (length payload) frag);
        in_range = record {
          class = ltb-true _ _ class;
          length_fits = ltb-true _ _ len_fits;
          src = ltb-true _ _ src;
          dst = ltb-true _ _ dst;
        };
        frag_in_range = frag_fits6 h.frag h.start (length payload) frag;
        written = refl;
      };
      agreed = subst (λ (n : ℕ). IsWrongFrag6 h.frag n → ⊥) (sym exact) (fine_frag6 h.frag h.start (length payload) frag);
    }

has_destination6 : (h : Head6) (payload : List ℕ) → is_sound6 h payload ≡ true → IsNoDestination6 h.dst.0 → ⊥
has_destination6 h payload sound =
    let both = parts (all_true (head_tests6 h payload)) (all_true (frag_tests h.frag h.start (length payload))) sound in
    let (_, (_, (_, (_, (_, (_, (_, (_, (_, (group, (none, _))))))))))) = each (head_tests6 h payload) both.0 in
    no_destination6 h.dst.0 (differ _ _ group) (differ _ _ none)

pub written_reads6 : (h : Head6) (payload : List ℕ) → h.left ≡ None → is_sound6 h payload ≡ true
    → Is6 h payload (written6 h payload) × HasNoHeaderCause6 (written6 h payload)
written_reads6 h payload unrouted sound =
    let cuttable = form6 h payload unrouted sound in
    let agreed : IsWrongFrag6 h.frag (length payload) → ⊥ = subst (λ (n : ℕ). IsWrongFrag6 h.frag n
    → ⊥) cuttable.form.exact cuttable.agreed in
    written_again6 h payload (written6 h payload) cuttable.form (cuttable.form.exact, agreed, has_destination6 h payload sound)

pub packet6 : (at_relay : Bool) (h : Head6) (payload : List ℕ) (content : Content6) → h.left ≡ None → is_sound6 h payload ≡ true
    → IsContent6 at_relay h payload content
    → IsPacket6 at_relay (record { head = h; content = content }) (written6 h payload)
packet6 at_relay h payload content unrouted sound is =
    let reads = written_reads6 h payload unrouted sound in
    record {
      is = subst (λ (xs : List ℕ). Is6 h xs (written6 h payload)) reads.0.payload_is reads.0;
      header = reads.1;
      unrouted = unrouted;
      content = subst (λ (xs : List ℕ). IsContent6 at_relay h xs content) reads.0.payload_is is;
    }

-- ---- UDP: a whole packet or a first fragment that has a sum, and a later fragment

fine_udp : (payload : List ℕ) (more : Bool) → 7 < length payload → (more || (word payload 4 == length payload)) ≡ true
    → IsBadTransport Udp payload (not more) → ⊥
fine_udp payload more long agree (inl short) = absurd (omega arith)
fine_udp payload true long agree (inr bad) = absurd (let e : false ≡ true = bad.0 in cc)
fine_udp payload false long agree (inr bad) = bad.1 (eqb-true (word payload 4) (length payload) agree)

abbrev udp_tests : ℕ → ℕ → Bool → List ℕ → List Bool
udp_tests upper offset more payload =
    (upper == 17)
    ∷ (offset == 0)
    ∷ nat_lt 7 (length payload)
    ∷ (more || (word payload 4 == length payload))
    ∷ not (word payload 6 == 0)
    ∷ []

abbrev pub is_udp4 : Head4 → List ℕ → Bool
is_udp4 h payload = all_true (udp_tests h.proto h.offset h.mf payload)

pub udp4 : (h : Head4) (payload : List ℕ) → is_udp4 h payload ≡ true → IsSegment4 h payload Udp (l4_of Udp payload)
udp4 h payload t =
    let (upper, (first, (long, (agree, (summed, _))))) = each (udp_tests h.proto h.offset h.mf payload) t in
    record {
      protocol = ap proto4 (eqb-true h.proto 17 upper);
      no_icmp = λ e. cc;
      first = eqb-true _ _ first;
      transport = fine_udp payload h.mf (ltb-true _ _ long) agree;
      summed = λ more udp. differ _ _ summed;
      header = refl;
    }

abbrev pub is_udp6 : Head6 → List ℕ → Bool
is_udp6 h payload = all_true (udp_tests h.upper (fragment_offset h.frag) (more_fragments h.frag) payload)

pub udp6 : (h : Head6) (payload : List ℕ) → is_udp6 h payload ≡ true → IsSegment6 h payload Udp (l4_of Udp payload)
udp6 h payload t =
    let (upper, (first, (long, (agree, (summed, _))))) = each (udp_tests h.upper (fragment_offset h.frag)
    (more_fragments h.frag) payload) t in
    record {
      protocol = ap proto6 (eqb-true h.upper 17 upper);
      no_icmp = λ e. cc;
      first = eqb-true _ _ first;
      transport = fine_udp payload (more_fragments h.frag) (ltb-true _ _ long) agree;
      summed = λ udp. differ _ _ summed;
      header = refl;
    }

abbrev pub is_later4 : Head4 → Bool
is_later4 h = (h.proto == 17) && not (h.offset == 0)

pub later4 : (h : Head4) → is_later4 h ≡ true → IsLater4 h Udp
later4 h t =
    let both = parts (h.proto == 17) (not (h.offset == 0)) t in
    record { protocol = ap proto4 (eqb-true h.proto 17 both.0); no_icmp = λ e. cc; later = differ _ _ both.1 }

abbrev pub is_later6 : Head6 → Bool
is_later6 h = (h.upper == 17) && not (fragment_offset h.frag == 0)

pub later6 : (h : Head6) → is_later6 h ≡ true → IsLater6 h Udp
later6 h t =
    let both = parts (h.upper == 17) (not (fragment_offset h.frag == 0)) t in
    record { protocol = ap proto6 (eqb-true h.upper 17 both.0); no_icmp = λ e. cc; later = differ _ _ both.1 }

-- ---- a UDP packet that an ICMP error embeds

pub inner4 : (h : Head4) (payload : List ℕ) → is_sound4 h payload ≡ true → is_udp4 h payload ≡ true
    → IsInner4 (record { head = h; payload = payload; ports = (l4_of Udp payload).ports; proto = Udp }) (written4 h payload)
inner4 h payload sound t =
    let (upper, (first, (long, _))) = each (udp_tests h.proto h.offset h.mf payload) t in
    let (is, _) = written_reads4 h payload sound in
    let stands : 7 < length payload = ltb-true _ _ long in
    record {
      header = record {
        fields = is.fields;
        least = is.head_fits;
        stands = omega (arith, is.total_fits, is.whole);
        unrouted = unrouted4 h payload sound;
      };
      payload = is.payload_is;
      stands = omega arith;
      first = eqb-true _ _ first;
      carried = eqb-true _ _ upper;
      ports = refl;
    }

pub inner6 : (h : Head6) (payload : List ℕ) → h.left ≡ None → is_sound6 h payload ≡ true → is_udp6 h payload ≡ true
    → IsInner6 (record { head = h; payload = payload; ports = (l4_of Udp payload).ports; proto = Udp }) (written6 h payload)
inner6 h payload unrouted sound t =
    let (upper, (first, (long, _))) = each (udp_tests h.upper (fragment_offset h.frag) (more_fragments h.frag) payload) t in
    let (is, _) = written_reads6 h payload unrouted sound in
    let stands : 7 < length payload = ltb-true _ _ long in
    record {
      headers = headers_of6 h payload (written6 h payload) is;
      payload = is.payload_is;
      stands = omega arith;
      first = eqb-true _ _ first;
      carried = eqb-true _ _ upper;
      ports = refl;
    }
