-- The one form in which an IPv6 packet is written (RFC 8200, sections 3 and 4.5): the header with flow
-- label 0, a Fragment Header where the fields have one, the payload, and nothing after it.
use Rattle.std.specs.Prelude.{◌≡◌, ◌≢◌, ℕ, ◌+◌, ◌*◌, ◌^◌, ◌<◌, ◌≤◌, List, [], ◌∷◌, ◌++◌, length, Option, None, Some}
use Rattle.octets.specs.Bits.{bit_of}
use Rattle.octets.specs.Field.{in_word, in_quad, in_sixteen}
use Rattle.ip6_packet.specs.declared.head.Frag6.{Frag6}
use Rattle.ip6_packet.specs.declared.head.Head6.{Head6}

-- a Fragment Header: the number of what follows, a reserved octet, the offset in units of 8 octets over
-- two reserved bits and the flag for more fragments, the identification
abbrev pub fragment_header : ℕ → Frag6 → List ℕ
fragment_header upper frag =
    upper ∷ 0 ∷ in_word (frag.offset * 8 + bit_of frag.more) ++ in_quad frag.id

-- the Fragment Header, where there is one
abbrev pub fragment_part : ℕ → Option Frag6 → List ℕ
fragment_part upper None = []
fragment_part upper (Some frag) = fragment_header upper frag

-- the number of what follows the IPv6 header
abbrev pub next_header : ℕ → Option Frag6 → ℕ
next_header upper None = upper
next_header upper (Some frag) = 44

-- the 40 octets of the IPv6 header: version and traffic class, payload length, next header, hop limit,
-- source and destination
abbrev pub fixed_header : Head6 → List ℕ
fixed_header h =
    in_quad (6 * 2 ^ 28 + h.class * 2 ^ 20)
    ++ in_word (h.length + length (fragment_part h.upper h.frag))
    ++ next_header h.upper h.frag ∷ h.hop ∷ []
    ++ in_sixteen h.src.0
    ++ in_sixteen h.dst.0

-- the packet
abbrev pub written6 : Head6 → List ℕ → List ℕ
written6 h payload = fixed_header h ++ fragment_part h.upper h.frag ++ payload

-- a number of an upper protocol, which begins no header of the chain
abbrev pub IsUpper : ℕ → Type 0
IsUpper number = (number ≢ 0) × (number ≢ 43) × (number ≢ 44) × (number ≢ 60)

-- the payload stands right behind the written headers, and all lengths fit their fields
abbrev pub IsPlaced : ℕ → ℕ → Option Frag6 → Type 0
IsPlaced start len None = start ≡ 40
IsPlaced start len (Some frag) = (start ≡ 48) × (len ≤ 65527) × (frag.offset < 8192)

-- the numbers fit their fields
abbrev pub FitsFrag : Option Frag6 → Type 0
FitsFrag None = Unit {0}
FitsFrag (Some frag) = frag.id < 2 ^ 32

pub record IsInRange (h : Head6) : Type 0 where
  pub class : h.class < 256
  pub length_fits : h.length < 65536
  pub src : h.src.0 < 2 ^ 128
  pub dst : h.dst.0 < 2 ^ 128

-- the octets are the packet with these headers and this payload as it is written
pub record IsPacket6 (h : Head6) (payload octets : List ℕ) : Type 0 where
  pub exact : h.length ≡ length payload
  pub unrouted : h.left ≡ None
  pub upper : IsUpper h.upper
  pub placed : IsPlaced h.start h.length h.frag
  pub in_range : IsInRange h
  pub frag_in_range : FitsFrag h.frag
  pub written : octets ≡ written6 h payload
