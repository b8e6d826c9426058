-- The packet inside an ICMP error (RFC 792): a header, and as much of the payload as the error holds. Its
-- declared length may pass the octets that stand. Sums, options and fragment fields are judged by nobody.
use Rattle.std.specs.Prelude.{◌≡◌, ◌≢◌, ℕ, ◌/◌, ◌<◌, ◌≤◌, ◌⊎◌, false, List, length}
use Rattle.octets.specs.Field.{octet}
use Rattle.ip4_packet.specs.Grammar.{header_len, HasFields4}
use Rattle.ip4_packet.specs.declared.head.Head4.{Head4}

-- the octets begin with a whole header, which has these fields; whether its options hold a source route isn't looked at
pub record HasHeader4 (h : Head4) (octets : List ℕ) : Type 0 where
  pub fields : HasFields4 h octets
  pub least : 20 ≤ h.head_len
  pub stands : h.head_len ≤ length octets
  pub unrouted : h.routed ≡ false

-- they begin with none: another version, a header length below 20, or a header that passes the octets
abbrev pub LacksHeader4 : List ℕ → Type 0
LacksHeader4 octets =
    (length octets < 20)
    ⊎ ((octet octets 0 / 16 ≢ 4)
    ⊎ ((header_len octets < 20)
    ⊎ (length octets < header_len octets)))
