-- The one form in which an IPv4 packet is written (RFC 791, section 3.1): a header of 20 octets with no
-- options, the reserved flag 0 and the right sum, then the payload, and nothing after it.
use Rattle.std.specs.Prelude.{ℕ, ◌+◌, ◌*◌, ◌^◌, ◌<◌, List, ◌∷◌, ◌++◌}
use Rattle.octets.specs.Bits.{bit_of}
use Rattle.octets.specs.Field.{in_word, in_quad}
use Rattle.inet_sum.specs.Sum.{words, check_sum}
use Rattle.ip4_packet.specs.declared.head.Head4.{Head4}

-- the reserved flag 0, the flags "don't fragment" and "more fragments", and the offset in units of 8 octets
abbrev pub fragment_field : Head4 → ℕ
fragment_field h = bit_of h.df * 2 ^ 14 + bit_of h.mf * 2 ^ 13 + h.offset

-- the 20 octets of the header with this sum: version and header length in words of 32 bits, type of
-- service, total length, identification, flags and offset, time to live, protocol, sum, source, destination
abbrev pub header_with : Head4 → ℕ → List ℕ
header_with h check =
    (4 * 16 + 5) ∷ h.tos ∷ in_word h.total
    ++ in_word h.id
    ++ in_word (fragment_field h)
    ++ h.ttl ∷ h.proto ∷ in_word check
    ++ in_quad h.src.0
    ++ in_quad h.dst.0

-- the header with its sum, for which its place counts as 0
abbrev pub header4 : Head4 → List ℕ
header4 h = header_with h (check_sum (words (header_with h 0)))

-- the packet
abbrev pub written4 : Head4 → List ℕ → List ℕ
written4 h payload = header4 h ++ payload

-- the numbers fit the fields of several octets
pub record IsInRange (h : Head4) : Type 0 where
  pub total : h.total < 65536
  pub id : h.id < 65536
  pub src : h.src.0 < 2 ^ 32
  pub dst : h.dst.0 < 2 ^ 32
