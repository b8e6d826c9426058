-- The chain of extension headers by its grammar (RFC 8200, section 4): headers with a length octet, one
-- after the other, and then a Fragment Header or the upper protocol.
use Rattle.std.specs.Prelude.{◌≡◌, ◌≢◌, ℕ, ◌+◌, ◌*◌, ◌≤◌, ◌⊎◌, IsTrue, List, [], ◌∷◌, ◌++◌, length, Option, None, Some}
use Rattle.std.specs.Option.{option_or}
use Rattle.std.specs.List.{concat}
use Rattle.octets.specs.Field.{octet}
use Rattle.ip6_packet.specs.declared.chain.Chain.{Chain}
use Rattle.ip6_packet.specs.Chain.{is_sized, route_at, frag_of}

-- a header with a length octet: the number of the next header, the length in units of 8 octets behind the
-- first 8, and the rest
pub record IsSizedHeader (header : List ℕ) : Type 0 where
  pub next : ℕ
  pub units : ℕ
  pub content : List ℕ
  pub spelled : header ≡ next ∷ units ∷ content
  pub long : length header ≡ 8 * units + 8

-- the octets, behind a header that names `number` as the next, are these headers and the rest, which begins
-- with what the last of them names as the next
abbrev pub AreHeaders : ℕ → List ℕ → List (List ℕ) → ℕ → List ℕ → Type 0
AreHeaders number octets [] last rest = (number ≡ last) × (octets ≡ rest)
AreHeaders number octets (header ∷ headers) last rest =
    IsTrue (is_sized number)
    × IsSizedHeader header
    × ((others : List ℕ) × (octets ≡ header ++ others) × AreHeaders (octet header 0) others headers last rest)

-- the place of the first count of segments left that is above 0, which is the fourth octet of a Routing
-- header. The first of the headers stands at a place, behind one that names `number` as the next
abbrev pub first_left : ℕ → ℕ → List (List ℕ) → Option ℕ
first_left place number [] = None
first_left place number (header ∷ headers) =
    option_or (route_at number (place + 3) (octet header 3)) (first_left (place + length header) (octet header 0) headers)

-- the upper protocol stands there
pub record EndsUpper (place last : ℕ) (chain : Chain) : Type 0 where
  pub other : last ≢ 44
  pub upper : chain.upper ≡ last
  pub start : chain.start ≡ place
  pub frag : chain.frag ≡ None

-- a Fragment Header stands there, and behind it the upper protocol, or what it carries a part of. No second
-- one follows it
pub record EndsInFragment (place last : ℕ) (rest : List ℕ) (chain : Chain) : Type 0 where
  pub number : last ≡ 44
  pub whole : 8 ≤ length rest
  pub other : octet rest 0 ≢ 44
  pub upper : chain.upper ≡ octet rest 0
  pub start : chain.start ≡ place + 8
  pub frag : chain.frag ≡ Some (frag_of rest)

-- the octets, which stand at a place of the packet behind a header that names `number` as the next, hold
-- this chain
pub record IsChain (place number : ℕ) (octets : List ℕ) (chain : Chain) : Type 0 where
  pub headers : List (List ℕ)
  pub last : ℕ
  pub rest : List ℕ
  pub are : AreHeaders number octets headers last rest
  pub no_more : ¬ IsTrue (is_sized last)
  pub ends : EndsUpper (place + length (concat headers)) last chain ⊎ EndsInFragment (place + length (concat headers)) last rest chain
  pub left : chain.left ≡ first_left place number headers
