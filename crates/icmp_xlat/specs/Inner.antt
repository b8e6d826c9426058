-- The packet that an ICMP error embeds, translated (RFC 7915, sections 4.3 and 5.3): its header by the tables of
-- headers with its TTL or hop limit kept, its ports replaced, and its sum changed by the words that changed, where
-- its two octets stand. Its lengths are the declared ones, also where fewer octets stand.
use Rattle.std.specs.Prelude.{ℕ, ◌+◌, ◌*◌, ◌-◌, ◌≡◌, ◌≤◌, ◌==◌, nat_le, if◌then◌else◌, List, ◌∷◌, ◌++◌, length, drop}
use Rattle.octets.specs.Field.{word, octet, with_word, in_word}
use Rattle.octets.specs.declared.address.Addr4.{Addr4}
use Rattle.octets.specs.declared.address.Addr6.{Addr6}
use Rattle.octets.specs.declared.proto.Proto.{Proto}
use Rattle.octets.specs.declared.proto.Proto.TheVariants.{Tcp, Udp, Icmp}
use Rattle.inet_sum.specs.Sum.{words, adjusted}
use Rattle.ip4_packet.specs.declared.head.Head4.{Head4}
use Rattle.ip4_packet.specs.Written.{written4}
use Rattle.ip6_packet.specs.declared.head.Head6.{Head6}
use Rattle.ip6_packet.specs.Written.{written6}
use Rattle.l4_headers.specs.declared.ports.Ports.{Ports}
use Rattle.l4_headers.specs.Transport.{l4_of, with_l4}
use Rattle.l4_headers.specs.PseudoHeader.{pseudo_header6}
use Rattle.l4_headers.specs.Readdressed.{readdressed_sum}
use Rattle.icmp_messages.specs.declared.inner4.Inner4.{Inner4}
use Rattle.icmp_messages.specs.declared.inner6.Inner6.{Inner6}
use Rattle.icmp_messages.specs.Inner.{IsCarried4, IsCarried6, IsFirst6}
use Rattle.xlat46.specs.Head.{translated as translated46}
use Rattle.xlat46.specs.Whole.{addresses_before as addresses4, addresses_after as addresses_of6}
use Rattle.xlat64.specs.Head.{translated as translated64}
use Rattle.xlat64.specs.Whole.{addresses_before as addresses6, addresses_after as addresses_of4}
use Rattle.l4_headers.specs.declared.ends.Ends.{Ends}

-- what changes in an embedded packet: the sum of the words outside its payload that its sum covers, before and after; its ports;
-- and the type of an echo
pub record Change : Type 0 where
  pub before : ℕ
  pub after : ℕ
  pub ports : Ports
  pub kind : ℕ

-- a TCP header of which at least the ports stand
abbrev pub inner_tcp : List ℕ → Change → List ℕ
inner_tcp payload change =
    if nat_le 18 (length payload)
    then with_l4 Tcp payload change.ports (readdressed_sum Tcp (l4_of Tcp payload) change.before change.after change.ports)
    else with_word 2 change.ports.dst (with_word 0 change.ports.src payload)

-- a UDP header: a missing sum stays missing
abbrev pub inner_udp : List ℕ → Change → List ℕ
inner_udp payload change =
    with_l4 Udp payload change.ports
    (if word payload 6 == 0 then 0 else readdressed_sum Udp (l4_of Udp payload) change.before change.after change.ports)

-- an echo: another type, code 0, its identifier, all of which its sum covers, and what follows
unfoldable pub echo_sum : List ℕ → Change → ℕ
echo_sum payload change =
    adjusted (word payload 2) (change.before + (word payload 0 + word payload 4)) (change.after + (256 * change.kind + change.ports.src))

abbrev pub inner_echo : List ℕ → Change → List ℕ
inner_echo payload change =
    change.kind ∷ 0 ∷ in_word (echo_sum payload change) ++ in_word change.ports.src ++ drop 6 payload

abbrev pub inner_payload : Proto → List ℕ → Change → List ℕ
inner_payload Tcp payload change = inner_tcp payload change
inner_payload Udp payload change = inner_udp payload change
inner_payload Icmp payload change = inner_echo payload change

-- the type of an echo in the other version: request (8, 128) and reply (0, 129)
abbrev pub echo46 : ℕ → ℕ
echo46 kind = if kind == 8 then 128 else 129

abbrev pub echo64 : ℕ → ℕ
echo64 kind = if kind == 128 then 8 else 0

-- What changes outside the payload: the addresses; for an echo, whose sum covers a pseudo header in ICMPv6 alone,
-- that pseudo header, with the declared length.
abbrev pub change46 : Inner4 → Ends Addr6 → Proto → Change
change46 inner ends Icmp = record {
  before = 0;
  after = words (pseudo_header6 ends.inner_src ends.inner_dst 58 (inner.head.total - inner.head.head_len));
  ports = ends.ports;
  kind = echo46 (octet inner.payload 0);
}
change46 inner ends _ = record {
  before = addresses4 inner.head;
  after = addresses_of6 ends.inner_src ends.inner_dst;
  ports = ends.ports;
  kind = 0;
}

abbrev pub change64 : Inner6 → Ends Addr4 → Proto → Change
change64 inner ends Icmp = record {
  before = words (pseudo_header6 inner.head.src inner.head.dst 58 inner.head.length);
  after = 0;
  ports = ends.ports;
  kind = echo64 (octet inner.payload 0);
}
change64 inner ends _ = record {
  before = addresses6 inner.head;
  after = addresses_of4 ends.inner_src ends.inner_dst;
  ports = ends.ports;
  kind = 0;
}

-- the header, with its TTL or hop limit kept; a packet without an identification of its own has 0
abbrev pub inner_head46 : Inner4 → Ends Addr6 → Head6
inner_head46 inner ends = record (translated46 inner.head ends.inner_src ends.inner_dst) { hop = inner.head.ttl }

abbrev pub inner_head64 : Inner6 → Ends Addr4 → Head4
inner_head64 inner ends = record (translated64 inner.head ends.inner_src ends.inner_dst 0) { ttl = inner.head.hop }

-- the embedded packet
abbrev pub inner46 : Inner4 → Ends Addr6 → List ℕ
inner46 inner ends =
    written6 (inner_head46 inner ends) (inner_payload inner.proto inner.payload (change46 inner ends inner.proto))

abbrev pub inner64 : Inner6 → Ends Addr4 → List ℕ
inner64 inner ends =
    written4 (inner_head64 inner ends) (inner_payload inner.proto inner.payload (change64 inner ends inner.proto))

-- what is used of an embedded packet as it was read
pub record Stands4 (inner : Inner4) : Type 0 where
  pub long : 8 ≤ length inner.payload
  pub least : 20 ≤ inner.head.head_len
  pub lengths : inner.head.head_len ≤ inner.head.total
  pub first : inner.head.offset ≡ 0
  pub carried : IsCarried4 inner.proto inner.head.proto inner.payload

pub record Stands6 (inner : Inner6) : Type 0 where
  pub long : 8 ≤ length inner.payload
  pub first : IsFirst6 inner.head.frag
  pub carried : IsCarried6 inner.proto inner.head.upper inner.payload
