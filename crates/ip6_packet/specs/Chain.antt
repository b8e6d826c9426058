-- The chain of extension headers between the IPv6 header and the upper protocol (RFC 8200, section 4).
use Rattle.std.specs.Prelude.{◌≡◌, ◌≤◌, ℕ, zero, suc, ◌+◌, ◌*◌, ◌%◌, Bool, true, ◌||◌, ◌&&◌, not, ◌==◌, nat_lt, if◌then◌else◌, List, [], ◌∷◌, length, drop, Option, None, Some}
use Rattle.std.specs.Option.{option_or}
use Rattle.octets.specs.Bits.{bits_at}
use Rattle.octets.specs.Field.{octet, word, quad}
use Rattle.ip6_packet.specs.declared.chain.Chain.{Chain}
use Rattle.ip6_packet.specs.declared.head.Frag6.{Frag6}

-- the number of a Hop-by-Hop Options, a Routing or a Destination Options header, which have a length octet
abbrev pub is_sized : ℕ → Bool
is_sized number = number == 0 || number == 43 || number == 60

-- the place of a count of segments left, where the header is a Routing header and the count is above 0
abbrev pub route_at : ℕ → ℕ → ℕ → Option ℕ
route_at number place count = if number == 43 && not (count == 0) then Some place else None

-- a chain behind a header with this finding, which goes before the chain's own
abbrev pub behind : Option ℕ → Option Chain → Option Chain
behind left None = None
behind left (Some chain) = Some (record { upper = chain.upper; start = chain.start; frag = chain.frag; left = option_or left chain.left })

-- the fields of a Fragment Header: 13 bits of offset, 2 reserved bits, the flag for more fragments, and
-- the identification (RFC 8200, section 4.5)
abbrev pub frag_of : List ℕ → Frag6
frag_of header = record {
  offset = bits_at 16 (word header 2) 0 13;
  more = octet header 3 % 2 == 1;
  id = quad header 4;
}

-- the chain that ends at a Fragment Header, none where it passes the end, or a second one follows
abbrev pub fragment_end : ℕ → List ℕ → Option Chain
fragment_end place octets =
    if nat_lt (length octets) 8 || octet octets 0 == 44 then None
    else Some (record { upper = octet octets 0; start = place + 8; frag = Some (frag_of octets); left = None })

-- the end of a chain: a Fragment Header, or the upper protocol itself
abbrev pub end_of : ℕ → ℕ → List ℕ → Option Chain
end_of place number octets =
    if number == 44 then fragment_end place octets
    else Some (record { upper = number; start = place; frag = None; left = None })

-- The chain in these octets, which stand at a place of the packet behind a header that names `number` as
-- the next; none where a header of the chain passes the end, or a second Fragment Header stands. The
-- first `inside` octets still belong to the header before them. A header with a length octet has 8 octets,
-- and 8 times that octet more; of a Routing header the fourth octet is the count of segments left.
unfoldable pub chain_in : ℕ → ℕ → ℕ → List ℕ → Option Chain
chain_in place number (suc inside) [] = None
chain_in place number (suc inside) (_ ∷ rest) = chain_in (place + 1) number inside rest
chain_in place number zero [] = if is_sized number then None else end_of place number []
chain_in place number zero (next ∷ []) = if is_sized number then None else end_of place number (next ∷ [])
chain_in place number zero (next ∷ len ∷ rest) =
    if is_sized number then behind (route_at number (place + 3) (octet rest 1)) (chain_in (place + 2) next (8 * len + 6) rest)
    else end_of place number (next ∷ len ∷ rest)

-- This header stands at the front of the octets, whatever header named it as the next.
abbrev pub IsFirstHeader : List ℕ → List ℕ → Type 0
IsFirstHeader header octets =
    (8 ≤ length header)
    × (length header ≤ length octets)
    × ((place number : ℕ) → is_sized number ≡ true
    → chain_in place number 0 octets
    ≡ behind (route_at number (place + 3) (octet header 3))
    (chain_in (place + length header) (octet header 0) 0 (drop (length header) octets)))

-- No header with a length octet stands whole there.
abbrev pub HasNoHeader : List ℕ → Type 0
HasNoHeader octets = (place number : ℕ) → is_sized number ≡ true → chain_in place number 0 octets ≡ None
