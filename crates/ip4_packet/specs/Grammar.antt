-- What octets hold an IPv4 packet (RFC 791, section 3.1). Octets after the total length belong to no packet.
use Rattle.std.specs.Prelude.{◌≡◌, ℕ, ◌-◌, ◌*◌, ◌/◌, ◌%◌, ◌≤◌, List, length, take, Some}
use Rattle.octets.specs.Bits.{bits_at, bit_of}
use Rattle.octets.specs.Field.{octet, word, quad, part}
use Rattle.ip4_packet.specs.declared.head.Head4.{Head4}
use Rattle.ip4_packet.specs.Options.{routed_in}

-- the declared octets of the header, which its field gives in words of 32 bits
abbrev pub header_len : List ℕ → ℕ
header_len octets = 4 * (octet octets 0 % 16)

-- the declared octets of the packet
abbrev pub total_len : List ℕ → ℕ
total_len octets = word octets 2

-- the flag "more fragments" as a number, and the fragment offset in units of 8 octets
abbrev pub more_flag : List ℕ → ℕ
more_flag octets = bits_at 16 (word octets 6) 2 1

abbrev pub fragment_offset : List ℕ → ℕ
fragment_offset octets = bits_at 16 (word octets 6) 3 13

-- the options: the octets of the header behind its first 20
abbrev pub option_octets : List ℕ → List ℕ
option_octets octets = part octets 20 (header_len octets - 20)

-- the payload: what stands between the header and the total length
abbrev pub payload_of4 : Head4 → List ℕ → List ℕ
payload_of4 h octets = part octets h.head_len (h.total - h.head_len)

-- the packet without the octets after its total length
abbrev pub trimmed4 : Head4 → List ℕ → List ℕ
trimmed4 h octets = take h.total octets

-- the fixed fields of the header are these
pub record HasFields4 (h : Head4) (octets : List ℕ) : Type 0 where
  pub version : octet octets 0 / 16 ≡ 4
  pub head_len : h.head_len ≡ header_len octets
  pub tos : h.tos ≡ octet octets 1
  pub total : h.total ≡ total_len octets
  pub id : h.id ≡ word octets 4
  pub df : bit_of h.df ≡ bits_at 16 (word octets 6) 1 1
  pub mf : bit_of h.mf ≡ more_flag octets
  pub offset : h.offset ≡ fragment_offset octets
  pub ttl : h.ttl ≡ octet octets 8
  pub proto : h.proto ≡ octet octets 9
  pub src : h.src.0 ≡ quad octets 12
  pub dst : h.dst.0 ≡ quad octets 16

-- the octets hold a header with these fields, and this payload
pub record Is4 (h : Head4) (payload octets : List ℕ) : Type 0 where
  pub fields : HasFields4 h octets
  pub head_fits : 20 ≤ h.head_len
  pub total_fits : h.head_len ≤ h.total
  pub whole : h.total ≤ length octets
  pub options : routed_in 0 (option_octets octets) ≡ Some h.routed
  pub payload_is : payload ≡ payload_of4 h octets
