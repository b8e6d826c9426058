-- Parts of a list of octets, by place from 0. Numbers of several octets have the highest octet first.
use Rattle.std.specs.Prelude.{ℕ, ◌+◌, List, ◌++◌, take, drop, slice_index}
use Rattle.byteorder.specs.Endian.{big_from, big_bytes}

-- the octet at a place, and 0 past the end
abbrev pub octet : List ℕ → ℕ → ℕ
octet octets at = slice_index octets at

-- the number of 16 bits at a place
abbrev pub word : List ℕ → ℕ → ℕ
word octets at = big_from at 2 octets

-- the number of 32 bits at a place, as an IPv4 address
abbrev pub quad : List ℕ → ℕ → ℕ
quad octets at = big_from at 4 octets

-- the number of 128 bits at a place, as an IPv6 address
abbrev pub sixteen : List ℕ → ℕ → ℕ
sixteen octets at = big_from at 16 octets

-- `count` octets from a place on, or as many as there are
abbrev pub part : List ℕ → ℕ → ℕ → List ℕ
part octets at count = take count (drop at octets)

-- a number as two octets, four and sixteen
abbrev pub in_word : ℕ → List ℕ
in_word n = big_bytes 2 n

abbrev pub in_quad : ℕ → List ℕ
in_quad n = big_bytes 4 n

abbrev pub in_sixteen : ℕ → List ℕ
in_sixteen n = big_bytes 16 n

-- the octets with a number of 16 bits at a place, and all others as they were
abbrev pub with_word : ℕ → ℕ → List ℕ → List ℕ
with_word at n octets = take at octets ++ (in_word n ++ drop (at + 2) octets)
