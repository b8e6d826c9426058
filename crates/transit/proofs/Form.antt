-- A translated packet of TCP or UDP is in the form that is cut.
use Rattle.std.proofs.Common.{◌≡◌, ◌≢◌, ◌<◌, ◌≤◌, ◌-◌, ℕ, List, length, Some, None, refl, arith, sym, ◌∙◌, false, true, inl, inr}
use Rattle.std.specs.Prelude.{Bool, not, cond}
use Rattle.std.proofs.lemmas.Grind.{common_steps}
use Rattle.octets.specs.Bits.{bit_of}
use Rattle.octets.specs.Fragment.{IsWrongFragment}
use Rattle.octets.specs.Protocol.{proto4}
use Rattle.octets.specs.declared.address.Addr6.{Addr6}
use Rattle.octets.specs.declared.mtus.Mtus.{Mtus}
use Rattle.octets.specs.declared.proto.Proto.{Proto}
use Rattle.octets.specs.declared.proto.Proto.TheVariants.{Icmp}
use Rattle.octets.specs.declared.cause.Cause.TheVariants.{BadHeader}
use Rattle.ip4_packet.specs.declared.head.Head4.{Head4}
use Rattle.ip4_packet.specs.Grammar.{payload_of4, Is4}
use Rattle.ip4_packet.specs.Causes.{HasNoHeaderCause4}
use Rattle.ip6_packet.specs.declared.head.Head6.{Head6}
use Rattle.ip6_packet.specs.declared.head.Frag6.{Frag6}
use Rattle.ip6_packet.specs.Causes.{IsWrongFrag6}
use Rattle.ip6_packet.specs.Written.{written6, IsUpper, IsInRange, FitsFrag}
use Rattle.l4_headers.proofs.Laws.{length-with_l4}
use Rattle.l4_headers.proofs.RightSums.{header_stands}
use Rattle.xlat46.specs.Head.{upper_protocol, translated}
use Rattle.ip4_packet.specs.Fragment.{is_fragment}
use Rattle.xlat46.specs.Whole.{Parts4, packet46, payload46}
use Rattle.xlat46.proofs.Placed.{placed}
use Rattle.l4_headers.specs.declared.ends.Ends.{Ends}
use Rattle.packet_faults.specs.Cut.{IsCuttable}
use Rattle.packets.specs.declared.packet4.Content4.{Content4}
use Rattle.packets.specs.declared.packet4.Content4.TheVariants.{Segment, Later, Query, Error}
use Rattle.packets.specs.declared.packet4.Packet4.{Packet4}
use Rattle.packets.specs.Packet4.{IsContent4, IsPacket4}
use Rattle.transit.specs.Passage46.{translation46, is_message4}

-- the number of TCP or UDP is that of no extension header
upper_is : (n : ℕ) (proto : Proto) → proto4 n ≡ Some proto → proto ≢ Icmp → IsUpper (upper_protocol n)
upper_is n proto protocol no_icmp = grind (arith, common_steps)

-- the fields of a packet that was read agree
agreed : (h : Head4) (payload octets : List ℕ) → Is4 h payload octets → HasNoHeaderCause4 octets → IsWrongFragment h.offset (bit_of h.mf) (h.total - h.head_len) → ⊥
agreed h payload octets is none wrong = none BadHeader (inr (inr (inr (rw (sym is.fields.offset, sym is.fields.mf, sym is.fields.total, sym is.fields.head_len) wrong))))

pub low_offset : (h : Head4) (payload octets : List ℕ) → Is4 h payload octets → HasNoHeaderCause4 octets → h.offset < 8192
low_offset h payload octets is none = omega (arith, λ (high : 8192 ≤ h.offset). agreed h payload octets is none (inl (omega (arith, high))))

header_agrees : (fragment : Bool) (frag : Frag6) (len : ℕ) → (IsWrongFragment frag.offset (bit_of frag.more) len → ⊥) → IsWrongFrag6 (cond fragment (Some frag) None) len → ⊥
header_agrees true frag len fine wrong = fine wrong
header_agrees false frag len fine wrong = wrong

header_fits : (fragment : Bool) (frag : Frag6) → frag.id < 65536 → FitsFrag (cond fragment (Some frag) None)
header_fits true frag fits = omega (arith, fits)
header_fits false frag fits = tt

form : (h : Head4) (proto : Proto) (octets payload : List ℕ) (src dst : Addr6) → Is4 h (payload_of4 h octets) octets → HasNoHeaderCause4 octets
    → proto4 h.proto ≡ Some proto → proto ≢ Icmp → h.total < 65536 → h.id < 65536 → IsInRange (translated h src dst)
    → length payload ≡ h.total - h.head_len → IsCuttable (translated h src dst) payload (written6 (translated h src dst) payload)
form h proto octets payload src dst is none protocol no_icmp total id range exact =
    let frag : Frag6 = record { offset = h.offset; more = h.mf; id = h.id } in
    record {
      form = record {
        exact = sym exact;
        unrouted = refl;
        upper = upper_is h.proto proto protocol no_icmp;
        placed = placed h src dst (low_offset h (payload_of4 h octets) octets is none) (omega (arith, total, is.head_fits));
        in_range = range;
        frag_in_range = header_fits (is_fragment h) frag id;
        written = refl;
      };
      agreed = header_agrees (is_fragment h) frag (h.total - h.head_len) (agreed h (payload_of4 h octets) octets is none);
    }

-- the packet with these ends
pub cuttable : (mtus : Mtus) (p : Packet4) (octets written : List ℕ) (ends : Ends Addr6) → IsPacket4 p octets
    → length (payload_of4 p.head octets) ≡ p.head.total - p.head.head_len → p.head.total < 65536 → p.head.id < 65536
    → IsInRange (translated p.head ends.src ends.dst) → is_message4 p.content ≡ false
    → translation46 mtus p.head (payload_of4 p.head octets) ends p.content ≡ Some written
    → (h : Head6) × (payload : List ℕ) × IsCuttable h payload written
cuttable mtus p octets written ends is exact total id range no_message e =
    by_content p.content is.content no_message e
  where
    by_content : (content : Content4) → IsContent4 p.head (payload_of4 p.head octets) content → is_message4 content ≡ false
        → translation46 mtus p.head (payload_of4 p.head octets) ends content ≡ Some written → (h : Head6) × (payload : List ℕ) × IsCuttable h payload written
    by_content (Segment proto l4) has flow e =
        let stands = header_stands proto (payload_of4 p.head octets) (not p.head.mf) has.transport in
        let parts : Parts4 = record { head = p.head; proto = proto; payload = payload_of4 p.head octets } in
        let same : packet46 parts ends.src ends.dst (Some ends.ports) ≡ written = cc in (
          translated p.head ends.src ends.dst,
          payload46 parts ends.src ends.dst (Some ends.ports),
          rw (sym same) (form p.head proto octets _ ends.src ends.dst is.is is.header has.protocol has.no_icmp total id range (length-with_l4 proto (payload_of4 p.head octets) ends.ports _ stands ∙ exact)),
        )
    by_content (Later proto) has flow e =
        let parts : Parts4 = record { head = p.head; proto = proto; payload = payload_of4 p.head octets } in
        let same : packet46 parts ends.src ends.dst None ≡ written = cc in (
          translated p.head ends.src ends.dst,
          payload46 parts ends.src ends.dst None,
          rw (sym same) (form p.head proto octets _ ends.src ends.dst is.is is.header has.protocol has.no_icmp total id range exact),
        )
    by_content (Query message row) has flow e = absurd (let f : true ≡ false = flow in cc)
    by_content (Error message row inner) has flow e = absurd (let f : true ≡ false = flow in cc)
