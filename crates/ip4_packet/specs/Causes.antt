-- For what a reader of the header refuses octets as an IPv4 packet. A packet's cause is the least that holds.
use Rattle.std.specs.Prelude.{◌≡◌, ◌≢◌, ℕ, ◌+◌, ◌-◌, ◌/◌, ◌^◌, ◌<◌, ◌⊎◌, List, length, take, None, Result, Ok, Err}
use Rattle.octets.specs.declared.cause.Cause.{Cause}
use Rattle.octets.specs.declared.cause.Cause.TheVariants.{NotIp, Truncated, BadHeader, BadHeaderSum, BadDestination}
use Rattle.octets.specs.Cause.{HoldsNone, IsLeast}
use Rattle.octets.specs.Bits.{bit_of}
use Rattle.octets.specs.Fragment.{IsWrongFragment}
use Rattle.octets.specs.Field.{octet, quad}
use Rattle.inet_sum.specs.Sum.{IsRight}
use Rattle.ip4_packet.specs.Options.{routed_in}
use Rattle.ip4_packet.specs.Grammar.{header_len, total_len, more_flag, fragment_offset, option_octets, payload_of4, Is4}
use Rattle.ip4_packet.specs.declared.head.Head4.{Head4}

-- no octet, or another version
abbrev pub IsNotIp4 : List ℕ → Type 0
IsNotIp4 octets = (length octets ≡ 0) ⊎ (octet octets 0 / 16 ≢ 4)

-- fewer octets than the shortest header, than the declared header, or than the declared packet
abbrev pub IsTruncated4 : List ℕ → Type 0
IsTruncated4 octets =
    (length octets < 20) ⊎ ((length octets < header_len octets) ⊎ (length octets < total_len octets))

-- header lengths, options or fragment fields that disagree
abbrev pub IsBadHeader4 : List ℕ → Type 0
IsBadHeader4 octets =
    (header_len octets < 20)
    ⊎ ((total_len octets < header_len octets)
    ⊎ ((routed_in 0 (option_octets octets) ≡ None)
    ⊎ IsWrongFragment (fragment_offset octets) (more_flag octets) (total_len octets - header_len octets)))

-- the header, its sum among it, doesn't fold to 65535
abbrev pub IsBadHeaderSum4 : List ℕ → Type 0
IsBadHeaderSum4 octets = IsRight (take (header_len octets) octets) → ⊥

-- a group (224.0.0.0/4), the broadcast address, or the unspecified one
abbrev pub IsNoDestination4 : ℕ → Type 0
IsNoDestination4 addr = (addr / 2 ^ 28 ≡ 14) ⊎ ((addr ≡ 2 ^ 32 - 1) ⊎ (addr ≡ 0))

abbrev pub IsBadDestination4 : List ℕ → Type 0
IsBadDestination4 octets = IsNoDestination4 (quad octets 16)

-- the octets have this cause
abbrev pub HasCause4 : Cause → List ℕ → Type 0
HasCause4 NotIp octets = IsNotIp4 octets
HasCause4 Truncated octets = IsTruncated4 octets
HasCause4 BadHeader octets = IsBadHeader4 octets
HasCause4 BadHeaderSum octets = IsBadHeaderSum4 octets
HasCause4 BadDestination octets = IsBadDestination4 octets
HasCause4 _ octets = ⊥

-- they have none
abbrev pub HasNoHeaderCause4 : List ℕ → Type 0
HasNoHeaderCause4 octets = HoldsNone (λ cause. HasCause4 cause octets)

-- the least cause that they have
abbrev pub IsCause4 : Cause → List ℕ → Type 0
IsCause4 cause octets = IsLeast (λ cause. HasCause4 cause octets) cause

-- What was read of the octets holds of a longer list of octets too. Only octets that were too few, or
-- none, may be judged otherwise.
abbrev pub StaysRead4 : Result Head4 Cause → List ℕ → List ℕ → Type 0
StaysRead4 (Ok h) octets longer = Is4 h (payload_of4 h octets) longer × HasNoHeaderCause4 longer
StaysRead4 (Err cause) octets longer = cause ≢ Truncated → 0 < length octets → IsCause4 cause longer

-- a header that is written in front of this payload has the exact total length, and fields that no reader
-- refuses
abbrev pub IsSound4 : Head4 → List ℕ → Type 0
IsSound4 h payload =
    (h.total ≡ 20 + length payload)
    × (IsWrongFragment h.offset (bit_of h.mf) (length payload) → ⊥)
    × (IsNoDestination4 h.dst.0 → ⊥)
