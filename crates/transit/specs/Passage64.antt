-- An IPv6 packet that a node translates to IPv4: whether it passes (after RFC 7915, section 5). It is never cut.
use Rattle.std.specs.Prelude.{◌≡◌, ℕ, ◌<◌, ◌≤◌, List, length, Option, Some, None}
use Rattle.std.specs.Option.{option_map}
use Rattle.octets.specs.declared.address.Addr4.{Addr4}
use Rattle.ip6_packet.specs.declared.head.Head6.{Head6}
use Rattle.icmp_messages.specs.declared.icmp6.Icmp6.{Icmp6}
use Rattle.icmp_messages.specs.declared.inner6.Inner6.{Inner6}
use Rattle.xlat64.specs.Whole.{Parts6, packet64}
use Rattle.icmp_xlat.specs.declared.passing.Passing.{Passing}
use Rattle.icmp_messages.specs.declared.table.Row.{Row}
use Rattle.icmp_xlat.specs.Icmp64.{rest64, query64, error64, with_message64}
use Rattle.packets.specs.declared.packet6.Content6.{Content6}
use Rattle.packets.specs.declared.packet6.Content6.TheVariants.{Segment, Later, Query, Error}
use Rattle.packets.specs.declared.packet6.Packet6.{Packet6}
use Rattle.transit.specs.declared.passage.Passage.{Passage}
use Rattle.transit.specs.declared.passage.Passage.TheVariants.{Sent, Cut, Spent, TooBig}

-- an ICMPv6 error of this row about this embedded packet, where its four octets have a translation
abbrev pub error_packet64 : Passing Addr4 → Head6 → Icmp6 → Row → Inner6 → Option (List ℕ)
error_packet64 to h m row inner =
    option_map (λ rest. with_message64 h (error64 row rest inner to.ends) to.ends to.id) (rest64 to.mtus m.rest row.rest)

-- The packet over IPv4, between these ends, by what it carries. A later fragment has no ports, a query has its identifier
-- in their place, and an error has them in the packet that it embeds.
abbrev pub translation64 : Passing Addr4 → Head6 → List ℕ → Content6 → Option (List ℕ)
translation64 to h payload (Segment proto l4) =
    let parts : Parts6 = record { head = h; proto = proto; payload = payload } in
    Some (packet64 parts to.ends.src to.ends.dst (Some to.ends.ports) to.id)
translation64 to h payload (Later proto) =
    let parts : Parts6 = record { head = h; proto = proto; payload = payload } in
    Some (packet64 parts to.ends.src to.ends.dst None to.id)
translation64 to h payload (Query message row) = Some (with_message64 h (query64 message row to.ends) to.ends to.id)
translation64 to h payload (Error message row inner) = error_packet64 to h message row inner

-- an IPv4 packet has room for its payload; of a message it is the translated one that counts
abbrev pub HasRoom : Head6 → Content6 → Type 0
HasRoom h (Segment proto l4) = h.length ≤ 65515
HasRoom h (Later proto) = h.length ≤ 65515
HasRoom h (Query message row) = Unit {0}
HasRoom h (Error message row inner) = Unit {0}

-- What becomes of the packet: its hop limit is spent, or its translation fits and is sent, or it is longer than the MTU.
abbrev pub IsPassage64 : Passing Addr4 → Packet6 → List ℕ → Passage → Type 0
IsPassage64 to p payload Spent = p.head.hop ≤ 1
IsPassage64 to p payload (Sent octets) =
    (1 < p.head.hop)
    × (translation64 to p.head payload p.content ≡ Some octets)
    × (length octets ≤ to.mtus.mtu4)
IsPassage64 to p payload (Cut pieces) = ⊥
IsPassage64 to p payload TooBig =
    (1 < p.head.hop)
    × ((octets : List ℕ)
    × (translation64 to p.head payload p.content ≡ Some octets)
    × (to.mtus.mtu4 < length octets))
