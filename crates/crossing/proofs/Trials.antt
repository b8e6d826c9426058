-- The definitions, computed on ICMP errors about a UDP packet of the home to 198.51.100.7:53.
use Rattle.std.proofs.Common.{◌≡◌, ℕ, ◌*◌, ◌^◌, ◌∙◌, false, List, [], ◌∷◌, Some, refl, sym}
use Rattle.octets.specs.declared.proto.Proto.TheVariants.{Udp}
use Rattle.octets.specs.declared.address.Addr4.{Addr4}
use Rattle.octets.specs.declared.mtus.Mtus.{Mtus}
use Rattle.icmp_messages.specs.declared.inner4.Inner4.{Inner4}
use Rattle.icmp_messages.specs.declared.table.Rest.TheVariants.{Pointer}
use Rattle.crossing.specs.Nat44.{inner_from}
use Rattle.crossing.specs.Named.{Crossing, Sent, Named, Portion, inner_after, rest_after}

abbrev home : Addr4
home = record { 0 = 0xc0a8010a }

abbrev outside : Addr4
outside = record { 0 = 0xc0000212 }

abbrev far : Addr4
far = record { 0 = 0xc6336407 }

-- the packet in the core, as an error embeds it
abbrev in_core : Inner4
in_core = record {
  head = record { tos = 0; id = 7; df = false; mf = false; offset = 0; ttl = 62; proto = 17; src = outside; dst = far; head_len = 20; total = 30; routed = false };
  payload = 4 ∷ 208 ∷ 0 ∷ 53 ∷ 0 ∷ 10 ∷ 166 ∷ 30 ∷ 104 ∷ 105 ∷ [];
  ports = record { src = 1232; dst = 53 };
  proto = Udp;
}

-- it reaches the host from the host's own address and port, with the UDP sum that the host gave it, and identification 0
pub an_embedded_packet_comes_back : inner_after in_core (inner_from home 5000 in_core)
    ≡ 69 ∷ 0 ∷ 0 ∷ 30 ∷ 0 ∷ 0 ∷ 0 ∷ 0 ∷ 62 ∷ 17 ∷ 144 ∷ 226 ∷ 192 ∷ 168 ∷ 1 ∷ 10 ∷ 198 ∷ 51 ∷ 100 ∷ 7
    ∷ 19 ∷ 136 ∷ 0 ∷ 53 ∷ 0 ∷ 10 ∷ 151 ∷ 198 ∷ 104 ∷ 105 ∷ []
an_embedded_packet_comes_back = refl

-- a pointer to the protocol field is one again, and one to the total length names its first octet
pub a_pointer_comes_back : (mtus : Mtus) → rest_after mtus 30 (9 * 2 ^ 24) Pointer ≡ Some (9 * 2 ^ 24)
a_pointer_comes_back mtus = refl

pub a_pointer_is_coarser : (mtus : Mtus) → rest_after mtus 30 (3 * 2 ^ 24) Pointer ≡ Some (2 * 2 ^ 24)
a_pointer_is_coarser mtus = refl

-- Of a packet that was sent only what was replaced for it makes its name: with the answers of two pieces exchanged, which have other
-- hosts, the law on pieces would be false.
pub one_destination : (x y : Crossing) (one other : Portion) (whole payload : List ℕ) (r : Sent) → Named x one whole r → Named y other payload r → x.replaced.head.dst ≡ y.replaced.head.dst
one_destination x y one other whole payload r is also = sym is.dst ∙ also.dst
