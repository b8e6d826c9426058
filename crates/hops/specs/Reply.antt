-- The ICMP error by which a node answers a packet that it drops. Three causes have one: a source route, a TTL or hop limit
-- that is spent, and a packet that is too big (RFC 792; RFC 4443, section 3).
use Rattle.std.specs.Prelude.{◌≡◌, ℕ, ◌+◌, ◌-◌, ◌↔◌, Bool, true, false, List, Option, Some, None, IfSome}
use Rattle.octets.specs.declared.address.Addr4.{Addr4}
use Rattle.octets.specs.declared.address.Addr6.{Addr6}
use Rattle.octets.specs.declared.cause.Cause.{Cause}
use Rattle.octets.specs.declared.cause.Cause.TheVariants.{SourceRoute, TtlSpent, TooBig}
use Rattle.octets.specs.declared.mtus.Mtus.{Mtus}
use Rattle.ip4_packet.specs.declared.head.Head4.{Head4}
use Rattle.ip4_packet.specs.Grammar.{payload_of4}
use Rattle.ip6_packet.specs.declared.head.Head6.{Head6}
use Rattle.ip6_packet.specs.Grammar.{payload_of6}
use Rattle.hops.specs.declared.answering.Answering.{Answering}
use Rattle.packet_faults.specs.Error.{notice, IsUnanswered4, IsUnanswered6, error4, error6}
use Rattle.packet_faults.specs.declared.notice.Notice.{Notice}

-- the causes that have one
abbrev pub has_notice : Cause → Bool
has_notice SourceRoute = true
has_notice TtlSpent = true
has_notice TooBig = true
has_notice _ = false

-- Over IPv4: destination unreachable, source route failed; time exceeded in transit; fragmentation needed, with the MTU
-- of the IPv6 side less the 20 octets that translation adds.
abbrev pub notice4 : Mtus → Cause → Option Notice
notice4 mtus SourceRoute = Some (notice 3 5 0)
notice4 mtus TtlSpent = Some (notice 11 0 0)
notice4 mtus TooBig = Some (notice 3 4 (mtus.mtu6 - 20))
notice4 mtus _ = None

-- where the segments left stand that aren't 0
abbrev pub pointed : Option ℕ → ℕ
pointed (Some place) = place
pointed None = 0

-- Over IPv6: parameter problem, erroneous header field, at the segments left; hop limit exceeded; packet too big, with the
-- MTU of the IPv4 side and the 20 octets that translation takes away.
abbrev pub notice6 : Mtus → Option ℕ → Cause → Option Notice
notice6 mtus left SourceRoute = Some (notice 4 0 (pointed left))
notice6 mtus left TtlSpent = Some (notice 3 0 0)
notice6 mtus left TooBig = Some (notice 2 0 (mtus.mtu4 + 20))
notice6 mtus left _ = None

-- The answer with this notice, if there is one, to a packet of this header: none where no error may answer it. It comes from this
-- address, over IPv4 with this identification.
abbrev pub IsAnswer4 : Head4 → List ℕ → Answering Addr4 → Option Notice → Option (List ℕ) → Type 0
IsAnswer4 h packet from None reply = reply ≡ None
IsAnswer4 h packet from (Some what) reply =
    ((reply ≡ None) ↔ IsUnanswered4 h (payload_of4 h packet))
    × IfSome reply (λ octets. octets ≡ error4 h packet what from.src from.id)

abbrev pub IsAnswer6 : Head6 → List ℕ → Answering Addr6 → Option Notice → Option (List ℕ) → Type 0
IsAnswer6 h packet from None reply = reply ≡ None
IsAnswer6 h packet from (Some what) reply =
    ((reply ≡ None) ↔ IsUnanswered6 h (payload_of6 h packet)) × IfSome reply (λ octets. octets ≡ error6 h packet what from.src)

-- the answer to a packet of this header that is dropped for this cause
abbrev pub IsReply4 : Answering Addr4 → Head4 → List ℕ → Cause → Option (List ℕ) → Type 0
IsReply4 from h packet cause reply = IsAnswer4 h packet from (notice4 from.mtus cause) reply

abbrev pub IsReply6 : Answering Addr6 → Head6 → List ℕ → Cause → Option (List ℕ) → Type 0
IsReply6 from h packet cause reply = IsAnswer6 h packet from (notice6 from.mtus h.left cause) reply
