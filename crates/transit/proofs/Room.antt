-- A packet for whose payload IPv4 has no room is too big.
use Rattle.std.proofs.Common.{◌≡◌, ◌<◌, ◌≤◌, ◌+◌, ℕ, List, length, Some, refl, arith, false}
use Rattle.std.specs.Prelude.{Bool, not, IsTrue}
use Rattle.std.proofs.lemmas.List.{length-append}
use Rattle.octets.specs.declared.address.Addr4.{Addr4}
use Rattle.octets.specs.declared.mtus.Mtus.{Mtus}
use Rattle.octets.specs.declared.proto.Proto.{Proto}
use Rattle.ip4_packet.specs.declared.head.Head4.{Head4}
use Rattle.ip4_packet.specs.Written.{header4, written4}
use Rattle.ip6_packet.specs.declared.head.Head6.{Head6}
use Rattle.ip6_packet.specs.Grammar.{payload_of6, Is6}
use Rattle.std.proofs.lemmas.Grind.{common_steps}
use Rattle.ip6_packet.specs.Fragment.{more_fragments}
use Rattle.l4_headers.specs.declared.ports.Ports.{Ports}
use Rattle.l4_headers.specs.Transport.{header_octets, with_l4}
use Rattle.l4_headers.proofs.Laws.{length-with_l4}
use Rattle.l4_headers.proofs.RightSums.{header_stands}
use Rattle.xlat64.specs.Head.{translated}
use Rattle.l4_headers.specs.declared.ends.Ends.{Ends}
use Rattle.packets.specs.declared.packet6.Content6.{Content6}
use Rattle.packets.specs.declared.packet6.Content6.TheVariants.{Segment, Later, Query, Error}
use Rattle.packets.specs.Packet6.{IsContent6}
use Rattle.transit.specs.Passage64.{HasRoom, translation64}

-- a written packet has 20 octets more than its payload
pub length-written4 : (h : Head4) (payload : List ℕ) → length (written4 h payload) ≡ 20 + length payload
length-written4 h payload = length-append (header4 h) payload

too_long : (mtus : Mtus) (h : Head4) (payload : List ℕ) → 65515 < length payload → mtus.mtu4 < length (written4 h payload)
too_long mtus h payload long = omega (arith, length-written4 h payload, long, mtus.most4)

longer : (proto : Proto) (payload : List ℕ) (ports : Ports) (sum : ℕ) → header_octets proto ≤ length payload → 65515 < length payload
    → 65515 < length (with_l4 proto payload ports sum)
longer proto payload ports sum stands long = rw (length-with_l4 proto payload ports sum stands) long

pub no_room : (at_relay : Bool) (mtus : Mtus) (h : Head6) (payload : List ℕ) (ends : Ends Addr4) (id : ℕ) (content : Content6)
    → IsContent6 at_relay h payload content → h.length ≡ length payload → (HasRoom h content → ⊥)
    → (octets : List ℕ) × (translation64 (record { mtus = mtus; ends = ends; id = id }) h payload content ≡ Some octets) × (mtus.mtu4 < length octets)
no_room at_relay mtus h payload ends id (Segment proto l4) is exact none =
    let stands = header_stands proto payload (not (more_fragments h.frag)) is.transport in
    let long : 65515 < length payload = omega (arith, exact, none) in
    (_, refl, too_long mtus (translated h ends.src ends.dst id) _ (longer proto payload ends.ports _ stands long))
no_room at_relay mtus h payload ends id (Later proto) is exact none = (_, refl, too_long mtus (translated h ends.src ends.dst id) payload (omega (arith, exact, none)))
no_room at_relay mtus h payload ends id (Query message row) is exact none = absurd (none tt)
no_room at_relay mtus h payload ends id (Error message row inner) is exact none = absurd (none tt)

pub not_so : (b : Bool) → b ≡ false → IsTrue b → ⊥
not_so b is so = cc

-- the payload has the octets that are declared
pub length_is : (h : Head6) (octets : List ℕ) → Is6 h (payload_of6 h octets) octets → h.length ≡ length (payload_of6 h octets)
length_is h octets is = grind (arith, common_steps, is.whole, is.ends)
