-- Transport headers by their fields: TCP (RFC 9293 section 3.1), UDP (RFC 768), ICMP (RFC 792, RFC 4443).
use Rattle.std.specs.Prelude.{◌≢◌, ℕ, ◌*◌, ◌/◌, ◌<◌, ◌⊎◌, Bool, IsTrue, ◌==◌, ◌||◌, if◌then◌else◌, List, length, Option, Some, None}
use Rattle.octets.specs.declared.proto.Proto.{Proto}
use Rattle.octets.specs.declared.proto.Proto.TheVariants.{Tcp, Udp, Icmp}
use Rattle.octets.specs.Field.{octet, word, with_word}
use Rattle.l4_headers.specs.declared.ports.Ports.{Ports}
use Rattle.l4_headers.specs.declared.ports.L4.{L4}

-- the octets of a header without options
abbrev pub header_octets : Proto → ℕ
header_octets Tcp = 20
header_octets Udp = 8
header_octets Icmp = 8

-- a TCP header's octets with its options, in units of 4
abbrev pub data_offset : List ℕ → ℕ
data_offset payload = octet payload 12 / 16

-- the lengths of a whole packet's header disagree with the payload
abbrev pub LengthsDisagree : Proto → List ℕ → Type 0
LengthsDisagree Tcp payload = (data_offset payload < 5) ⊎ (length payload < 4 * data_offset payload)
LengthsDisagree Udp payload = word payload 4 ≢ length payload
LengthsDisagree Icmp payload = ⊥

-- The cause BadTransport, for a whole packet or, where `whole` is false, a first fragment: the header doesn't
-- stand there, or the packet is whole and its lengths disagree.
abbrev pub IsBadTransport : Proto → List ℕ → Bool → Type 0
IsBadTransport proto payload whole =
    (length payload < header_octets proto) ⊎ (IsTrue whole × LengthsDisagree proto payload)

-- What the header holds. For ICMP both ports are octets 4 and 5, which are the identifier of a query. Flags
-- are those of TCP: FIN is 1, SYN 2, RST 4.
abbrev pub l4_of : Proto → List ℕ → L4
l4_of Tcp payload =
    record { ports = record { src = word payload 0; dst = word payload 2 }; sum = word payload 16; flags = octet payload 13 }
l4_of Udp payload =
    record { ports = record { src = word payload 0; dst = word payload 2 }; sum = word payload 6; flags = 0 }
l4_of Icmp payload =
    record { ports = record { src = word payload 4; dst = word payload 4 }; sum = word payload 2; flags = 0 }

-- the header of a payload that begins at this offset of the whole one: a later fragment has none
abbrev pub header_at : ℕ → Proto → List ℕ → Option L4
header_at offset proto payload = if offset == 0 then Some (l4_of proto payload) else None

-- An echo request or reply of either ICMP, by its type octet (RFC 792, RFC 4443 section 4). No type of one
-- version is a query of the other.
abbrev pub is_query : List ℕ → Bool
is_query payload =
    octet payload 0 == 8 || octet payload 0 == 0 || octet payload 0 == 128 || octet payload 0 == 129

-- The payload with other ports and another sum, and nothing else changed. A query has its identifier, the
-- source port, in place of ports, and another ICMP message has none.
abbrev pub with_l4 : Proto → List ℕ → Ports → ℕ → List ℕ
with_l4 Tcp payload ports sum = with_word 16 sum (with_word 2 ports.dst (with_word 0 ports.src payload))
with_l4 Udp payload ports sum = with_word 6 sum (with_word 2 ports.dst (with_word 0 ports.src payload))
with_l4 Icmp payload ports sum =
    with_word 2 sum (if is_query payload then with_word 4 ports.src payload else payload)
