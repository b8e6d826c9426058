-- The pseudo headers that transport sums cover beside the payload: a right sum is one of pseudo header and payload.
use Rattle.std.specs.Prelude.{◌≡◌, ℕ, ◌+◌, List, [], ◌∷◌, ◌++◌}
use Rattle.inet_sum.specs.Sum.{words, folded}
use Rattle.octets.specs.Field.{in_word, in_quad, in_sixteen}
use Rattle.octets.specs.declared.address.Addr4.{Addr4}
use Rattle.octets.specs.declared.address.Addr6.{Addr6}

-- over IPv4: source, destination, an octet of 0, the protocol, and the payload's length in two octets (RFC 768;
-- RFC 9293, section 3.1)
abbrev pub pseudo_header4 : Addr4 → Addr4 → ℕ → ℕ → List ℕ
pseudo_header4 src dst protocol len = in_quad src.0 ++ in_quad dst.0 ++ 0 ∷ protocol ∷ in_word len

-- over IPv6: source, destination, the upper protocol's length in four octets, three octets of 0, and the number
-- of the upper protocol (RFC 8200, section 8.1)
abbrev pub pseudo_header6 : Addr6 → Addr6 → ℕ → ℕ → List ℕ
pseudo_header6 src dst protocol len =
    in_sixteen src.0 ++ in_sixteen dst.0 ++ in_quad len ++ 0 ∷ 0 ∷ 0 ∷ protocol ∷ []

-- The transport sum in this payload is right over this pseudo header. Of a whole packet nothing comes later; of a
-- first fragment the later fragments' payloads do, whose words have this sum.
abbrev pub IsRightOver : List ℕ → List ℕ → ℕ → Type 0
IsRightOver pseudo payload later = folded (words pseudo + words payload + later) ≡ 65535
