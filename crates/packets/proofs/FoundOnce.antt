-- One thing is found in octets.
use Rattle.std.proofs.Common.{◌≡◌, ℕ, List, inl, inr, ap}
use Rattle.std.specs.Prelude.{Bool}
use Rattle.octets.specs.Cause.{IsLeast}
use Rattle.octets.specs.declared.cause.Cause.{Cause}
use Rattle.ip4_packet.specs.declared.head.Head4.{Head4}
use Rattle.ip4_packet.specs.Grammar.{payload_of4}
use Rattle.ip6_packet.specs.declared.head.Head6.{Head6}
use Rattle.ip6_packet.specs.Grammar.{payload_of6}
use Rattle.packets.specs.declared.found.Found.{Found}
use Rattle.packets.specs.declared.found.Found.TheVariants.{Taken, Unreadable, Dropped}
use Rattle.packets.specs.declared.packet4.Packet4.{Packet4}
use Rattle.packets.specs.declared.packet6.Packet6.{Packet6}
use Rattle.packets.specs.Behind4.{Behind4, IsDropped4}
use Rattle.packets.specs.Behind6.{Behind6, IsDropped6}
use Rattle.packets.specs.Found.{IsHeader4, IsHeader6, IsFound4, IsFound6}
use Rattle.packets.proofs.Header4.{same_head4}
use Rattle.packets.proofs.Header6.{same_head6}
use Rattle.packets.proofs.Taken4.{never_both4, same_packet4, one_cause4}
use Rattle.packets.proofs.Taken6.{never_both6, same_packet6, one_cause6}

-- what is dropped has a cause
pub behind4 : (cause : Cause) (h : Head4) (octets : List ℕ) → IsHeader4 h octets × IsLeast (Behind4 h (payload_of4 h octets)) cause → IsDropped4 cause octets
behind4 cause h octets is = inr (h, is.0.0, is.0.1, is.1)

pub behind6 : (at_relay : Bool) (cause : Cause) (h : Head6) (octets : List ℕ) → IsHeader6 h octets × IsLeast (Behind6 at_relay h (payload_of6 h octets)) cause → IsDropped6 at_relay cause octets
behind6 at_relay cause h octets is = inr (h, is.0.0, is.0.1, is.1)

pub found4 : (octets : List ℕ) (one other : Found Packet4 Head4) → IsFound4 octets one → IsFound4 octets other → one ≡ other
found4 octets (Taken p) (Taken q) a b = ap (λ (x : Packet4). Taken x) (same_packet4 p q octets a b)
found4 octets (Taken p) (Unreadable cause) a b = absurd (never_both4 p cause octets a (inl b))
found4 octets (Taken p) (Dropped cause h) a b = absurd (never_both4 p cause octets a (behind4 cause h octets b))
found4 octets (Unreadable cause) (Taken q) a b = absurd (never_both4 q cause octets b (inl a))
found4 octets (Unreadable cause) (Unreadable other) a b = ap (λ (x : Cause). Unreadable x) (one_cause4 cause other octets (inl a) (inl b))
found4 octets (Unreadable cause) (Dropped other h) a b = absurd (b.0.1 cause a.0)
found4 octets (Dropped cause h) (Taken q) a b = absurd (never_both4 q cause octets b (behind4 cause h octets a))
found4 octets (Dropped cause h) (Unreadable other) a b = absurd (a.0.1 other b.0)
found4 octets (Dropped cause h) (Dropped other g) a b =
    let same : cause ≡ other = one_cause4 cause other octets (behind4 cause h octets a) (behind4 other g octets b) in
    let head : h ≡ g = same_head4 h g octets a.0.0 b.0.0 in
    λ i. Dropped (same i) (head i)

pub found6 : (at_relay : Bool) (octets : List ℕ) (one other : Found Packet6 Head6) → IsFound6 at_relay octets one → IsFound6 at_relay octets other → one ≡ other
found6 at_relay octets (Taken p) (Taken q) a b = ap (λ (x : Packet6). Taken x) (same_packet6 at_relay p q octets a b)
found6 at_relay octets (Taken p) (Unreadable cause) a b = absurd (never_both6 at_relay p cause octets a (inl b))
found6 at_relay octets (Taken p) (Dropped cause h) a b = absurd (never_both6 at_relay p cause octets a (behind6 at_relay cause h octets b))
found6 at_relay octets (Unreadable cause) (Taken q) a b = absurd (never_both6 at_relay q cause octets b (inl a))
found6 at_relay octets (Unreadable cause) (Unreadable other) a b = ap (λ (x : Cause). Unreadable x) (one_cause6 at_relay cause other octets (inl a) (inl b))
found6 at_relay octets (Unreadable cause) (Dropped other h) a b = absurd (b.0.1 cause a.0)
found6 at_relay octets (Dropped cause h) (Taken q) a b = absurd (never_both6 at_relay q cause octets b (behind6 at_relay cause h octets a))
found6 at_relay octets (Dropped cause h) (Unreadable other) a b = absurd (a.0.1 other b.0)
found6 at_relay octets (Dropped cause h) (Dropped other g) a b =
    let same : cause ≡ other = one_cause6 at_relay cause other octets (behind6 at_relay cause h octets a) (behind6 at_relay other g octets b) in
    let head : h ≡ g = same_head6 h g octets a.0.0 b.0.0 in
    λ i. Dropped (same i) (head i)
