-- For what a reader of the headers refuses octets as an IPv6 packet. A packet's cause is the least that holds.
use Rattle.std.specs.Prelude.{◌≡◌, ◌≢◌, ℕ, ◌+◌, ◌-◌, ◌/◌, ◌^◌, ◌<◌, ◌⊎◌, List, length, Option, None, Some, Result, Ok, Err}
use Rattle.octets.specs.declared.cause.Cause.{Cause}
use Rattle.octets.specs.declared.cause.Cause.TheVariants.{NotIp, Truncated, BadHeader, BadDestination}
use Rattle.octets.specs.Cause.{HoldsNone, IsLeast}
use Rattle.octets.specs.Bits.{bit_of}
use Rattle.octets.specs.Fragment.{IsWrongFragment}
use Rattle.octets.specs.Field.{octet, sixteen}
use Rattle.ip6_packet.specs.declared.head.Frag6.{Frag6}
use Rattle.ip6_packet.specs.declared.head.Head6.{Head6}
use Rattle.ip6_packet.specs.declared.chain.Chain.{Chain}
use Rattle.ip6_packet.specs.Grammar.{payload_len, payload_of6, chain_of, Is6}

-- no octet, or another version
abbrev pub IsNotIp6 : List ℕ → Type 0
IsNotIp6 octets = (length octets ≡ 0) ⊎ (octet octets 0 / 16 ≢ 6)

-- fewer octets than the IPv6 header, or than the declared packet
abbrev pub IsTruncated6 : List ℕ → Type 0
IsTruncated6 octets = (length octets < 40) ⊎ (length octets < 40 + payload_len octets)

-- a Fragment Header, where there is one, in front of a payload of this length
abbrev pub IsWrongFrag6 : Option Frag6 → ℕ → Type 0
IsWrongFrag6 None len = ⊥
IsWrongFrag6 (Some frag) len = IsWrongFragment frag.offset (bit_of frag.more) len

-- a chain that passes the payload, or fragment fields that disagree with its rest
abbrev pub IsBadChain : Option Chain → ℕ → Type 0
IsBadChain None end = Unit {0}
IsBadChain (Some chain) end = IsWrongFrag6 chain.frag (end - chain.start)

abbrev pub IsBadHeader6 : List ℕ → Type 0
IsBadHeader6 octets = IsBadChain (chain_of octets) (40 + payload_len octets)

-- a group (ff00::/8) or the unspecified address
abbrev pub IsNoDestination6 : ℕ → Type 0
IsNoDestination6 addr = (addr / 2 ^ 120 ≡ 255) ⊎ (addr ≡ 0)

abbrev pub IsBadDestination6 : List ℕ → Type 0
IsBadDestination6 octets = IsNoDestination6 (sixteen octets 24)

-- the octets have this cause
abbrev pub HasCause6 : Cause → List ℕ → Type 0
HasCause6 NotIp octets = IsNotIp6 octets
HasCause6 Truncated octets = IsTruncated6 octets
HasCause6 BadHeader octets = IsBadHeader6 octets
HasCause6 BadDestination octets = IsBadDestination6 octets
HasCause6 _ octets = ⊥

-- they have none
abbrev pub HasNoHeaderCause6 : List ℕ → Type 0
HasNoHeaderCause6 octets = HoldsNone (λ cause. HasCause6 cause octets)

-- the least cause that they have
abbrev pub IsCause6 : Cause → List ℕ → Type 0
IsCause6 cause octets = IsLeast (λ cause. HasCause6 cause octets) cause

-- What was read of the octets holds of a longer list of octets too. Only octets that were too few, or
-- none, may be judged otherwise.
abbrev pub StaysRead6 : Result Head6 Cause → List ℕ → List ℕ → Type 0
StaysRead6 (Ok h) octets longer = Is6 h (payload_of6 h octets) longer × HasNoHeaderCause6 longer
StaysRead6 (Err cause) octets longer = cause ≢ Truncated → 0 < length octets → IsCause6 cause longer

-- headers that are written in front of this payload have its exact length, and fields that no reader refuses
abbrev pub IsSound6 : Head6 → List ℕ → Type 0
IsSound6 h payload =
    (h.length ≡ length payload)
    × (IsWrongFrag6 h.frag (length payload) → ⊥)
    × (IsNoDestination6 h.dst.0 → ⊥)
