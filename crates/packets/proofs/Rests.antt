-- What four octets of an error become, and transport headers, as they are decided.
use Rattle.std.proofs.Common.{◌≡◌, ◌*◌, ℕ, List, inl, inr, refl, length}
use Rattle.std.specs.Prelude.{Bool}
use Rattle.octets.specs.Field.{word}
use Rattle.octets.specs.declared.proto.Proto.{Proto}
use Rattle.octets.specs.declared.proto.Proto.TheVariants.{Tcp, Udp, Icmp}
use Rattle.l4_headers.specs.Transport.{header_octets, data_offset, LengthsDisagree, IsBadTransport}
use Rattle.icmp_messages.specs.declared.table.Rest.{Rest}
use Rattle.icmp_messages.specs.declared.table.Rest.TheVariants.{Query, Zero, Protocol, Mtu, Pointer}
use Rattle.packets.proofs.Decided.{Either, either, both, neither, equal, less, is_true}

-- the pointer, and a query
pub is_pointer : (r : Rest) → Either (r ≡ Pointer)
is_pointer Pointer = inl refl
is_pointer Query = inr (λ e. cc)
is_pointer Zero = inr (λ e. cc)
is_pointer Protocol = inr (λ e. cc)
is_pointer Mtu = inr (λ e. cc)

pub is_query : (r : Rest) → Either (r ≡ Query)
is_query Query = inl refl
is_query Pointer = inr (λ e. cc)
is_query Zero = inr (λ e. cc)
is_query Protocol = inr (λ e. cc)
is_query Mtu = inr (λ e. cc)

lengths_disagree : (proto : Proto) (payload : List ℕ) → Either (LengthsDisagree proto payload)
lengths_disagree Tcp payload = either (less (data_offset payload) 5) (less (length payload) (4 * data_offset payload))
lengths_disagree Udp payload = neither (equal (word payload 4) (length payload))
lengths_disagree Icmp payload = inr (λ h. h)

-- a transport header that is bad, or isn't
pub bad_transport : (proto : Proto) (payload : List ℕ) (whole : Bool) → Either (IsBadTransport proto payload whole)
bad_transport proto payload whole = either (less (length payload) (header_octets proto)) (both (is_true whole) (lengths_disagree proto payload))
