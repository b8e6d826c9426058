-- The headers at the front of octets are one.
use Rattle.std.proofs.Common.{◌≡◌, ℕ, List, inl, inr, arith}
use Rattle.std.proofs.lemmas.Grind.{common_steps}
use Rattle.ip6_packet.specs.declared.head.Head6.{Head6}
use Rattle.ip6_packet.specs.Grammar.{Is6}
use Rattle.ip6_packet.specs.Embedded.{HasHeaders6, LacksHeaders6}

pub same_headers6 : (h g : Head6) (octets : List ℕ) → HasHeaders6 h octets → HasHeaders6 g octets → h ≡ g
same_headers6 h g octets is other = grind (arith, common_steps)

pub lacks_none6 : (h : Head6) (octets : List ℕ) → HasHeaders6 h octets → LacksHeaders6 octets → ⊥
lacks_none6 h octets is (inl short) = omega (arith, is.fixed)
lacks_none6 h octets is (inr (inl other)) = other is.fields.version
lacks_none6 h octets is (inr (inr none)) = let e = is.chain in cc

-- a whole packet has its headers at the front
pub headers_of6 : (h : Head6) (payload octets : List ℕ) → Is6 h payload octets → HasHeaders6 h octets
headers_of6 h payload octets is = record {
  fields = is.fields;
  chain = is.chain;
  ends = is.ends;
  fixed = omega (arith, is.whole);
  stands = omega (arith, is.whole, is.ends);
}
