-- An IPv4 packet that a node translates to IPv6: whether it passes, whole or in pieces (after RFC 7915, section 4).
use Rattle.std.specs.Prelude.{◌≡◌, ℕ, ◌<◌, ◌≤◌, Bool, true, false, not, ◌&&◌, ◌||◌, List, length, Option, Some, None}
use Rattle.std.specs.Option.{option_map}
use Rattle.octets.specs.declared.address.Addr6.{Addr6}
use Rattle.octets.specs.declared.mtus.Mtus.{Mtus}
use Rattle.octets.specs.declared.parcel.Parcel.{Parcel}
use Rattle.ip4_packet.specs.declared.head.Head4.{Head4}
use Rattle.ip6_packet.specs.declared.head.Head6.{Head6}
use Rattle.icmp_messages.specs.declared.inner4.Inner4.{Inner4}
use Rattle.ip4_packet.specs.Fragment.{is_fragment}
use Rattle.xlat46.specs.Whole.{packet46}
use Rattle.l4_headers.specs.declared.ends.Ends.{Ends}
use Rattle.icmp_messages.specs.declared.table.Row.{Row}
use Rattle.icmp_xlat.specs.Icmp46.{rest46, query46, error46, with_message46}
use Rattle.packet_faults.specs.Cut.{cut_for, AreCut, IsCuttable}
use Rattle.packets.specs.declared.packet4.Content4.{Content4}
use Rattle.packets.specs.declared.packet4.Content4.TheVariants.{Segment, Later, Query, Error}
use Rattle.packets.specs.declared.packet4.Packet4.{Packet4}
use Rattle.transit.specs.declared.passage.Passage.{Passage}
use Rattle.transit.specs.declared.passage.Passage.TheVariants.{Sent, Cut, Spent, TooBig}

-- an ICMP error of this row about this embedded packet, where its four octets have a translation
abbrev pub error_packet46 : Head4 → Row → Inner4 → Ends Addr6 → Option ℕ → Option (List ℕ)
error_packet46 h row inner ends rest = option_map (λ rest. with_message46 h (error46 row rest inner ends) ends) rest

-- The packet over IPv6, between these ends, by what it carries. A later fragment has no ports, a query has its identifier
-- in their place, and an error has them in the packet that it embeds.
abbrev pub translation46 : Mtus → Head4 → List ℕ → Ends Addr6 → Content4 → Option (List ℕ)
translation46 mtus h payload ends (Segment proto l4) =
    Some (packet46 (record { head = h; proto = proto; payload = payload }) ends.src ends.dst (Some ends.ports))
translation46 mtus h payload ends (Later proto) =
    Some (packet46 (record { head = h; proto = proto; payload = payload }) ends.src ends.dst None)
translation46 mtus h payload ends (Query message row) = Some (with_message46 h (query46 message row ends) ends)
translation46 mtus h payload ends (Error message row inner) =
    error_packet46 h row inner ends (rest46 mtus inner.head.total message.rest row.rest)

-- What may not be cut: a whole packet that says "don't fragment", and an ICMP message. A query is not cut, and an error
-- has at most the 1280 octets that every link carries.
abbrev pub is_message4 : Content4 → Bool
is_message4 (Segment proto l4) = false
is_message4 (Later proto) = false
is_message4 (Query message row) = true
is_message4 (Error message row inner) = true

abbrev pub is_rigid4 : Packet4 → Bool
is_rigid4 p = (not (is_fragment p.head) && p.head.df) || is_message4 p.content

-- the pieces of a packet that is cut for an MTU, with this identification
abbrev pub AreCutOf : List ℕ → ℕ → ℕ → List Parcel → Type 0
AreCutOf octets mtu6 id pieces =
    (h : Head6) × (payload : List ℕ) × IsCuttable h payload octets × AreCut (cut_for h payload mtu6 id) pieces

-- What becomes of the packet: its TTL is spent; or its translation fits and is sent; or it is too long, and it is cut into
-- pieces that have the identification of the IPv4 packet, or may not be cut.
abbrev pub IsPassage46 : Mtus → Packet4 → List ℕ → Ends Addr6 → Passage → Type 0
IsPassage46 mtus p payload ends Spent = p.head.ttl ≤ 1
IsPassage46 mtus p payload ends (Sent octets) =
    (1 < p.head.ttl)
    × (translation46 mtus p.head payload ends p.content ≡ Some octets)
    × (length octets ≤ mtus.mtu6)
IsPassage46 mtus p payload ends (Cut pieces) =
    (1 < p.head.ttl)
    × ((octets : List ℕ)
    × (translation46 mtus p.head payload ends p.content ≡ Some octets)
    × (mtus.mtu6 < length octets)
    × (is_rigid4 p ≡ false)
    × AreCutOf octets mtus.mtu6 p.head.id pieces)
IsPassage46 mtus p payload ends TooBig =
    (1 < p.head.ttl)
    × ((octets : List ℕ)
    × (translation46 mtus p.head payload ends p.content ≡ Some octets)
    × (mtus.mtu6 < length octets)
    × (is_rigid4 p ≡ true))
