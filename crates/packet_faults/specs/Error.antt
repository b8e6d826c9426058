-- The ICMP errors that a node makes of a packet that it can't pass on (RFC 792; RFC 1122, section 3.2.2; RFC 4443,
-- section 2.4).
use Rattle.std.specs.Prelude.{◌≡◌, ◌≢◌, ℕ, ◌+◌, ◌-◌, ◌<◌, ◌⊎◌, false, List, length, take, None}
use Rattle.octets.specs.Field.{octet}
use Rattle.octets.specs.declared.address.Addr4.{Addr4}
use Rattle.octets.specs.declared.address.Addr6.{Addr6}
use Rattle.ip4_packet.specs.declared.head.Head4.{Head4}
use Rattle.ip4_packet.specs.Grammar.{trimmed4}
use Rattle.ip4_packet.specs.Causes.{IsNoDestination4}
use Rattle.ip4_packet.specs.Written.{written4}
use Rattle.ip6_packet.specs.declared.head.Head6.{Head6}
use Rattle.ip6_packet.specs.Fragment.{fragment_offset}
use Rattle.ip6_packet.specs.Grammar.{trimmed6}
use Rattle.ip6_packet.specs.Causes.{IsNoDestination6}
use Rattle.ip6_packet.specs.Written.{written6}
use Rattle.icmp_messages.specs.Message.{message4, message6}
use Rattle.packet_faults.specs.declared.notice.Notice.{Notice}

-- The payload of this protocol is an ICMP error by its type octet, if it has one. ICMPv4: destination
-- unreachable, source quench, redirect, time exceeded, parameter problem (RFC 1122, section 3.2.2).
abbrev pub IsError4 : ℕ → List ℕ → Type 0
IsError4 protocol payload =
    (protocol ≡ 1) × (0 < length payload)
    × ((octet payload 0 ≡ 3)
    ⊎ ((octet payload 0 ≡ 4)
    ⊎ ((octet payload 0 ≡ 5)
    ⊎ ((octet payload 0 ≡ 11)
    ⊎ (octet payload 0 ≡ 12)))))

-- ICMPv6: all types below 128 (RFC 4443, section 2.1)
abbrev pub IsError6 : ℕ → List ℕ → Type 0
IsError6 protocol payload = (protocol ≡ 58) × (0 < length payload) × (octet payload 0 < 128)

-- No error answers a packet with this header and payload: it is an ICMP error itself, or a later fragment, or its
-- source is a group, the broadcast address or the unspecified one.
abbrev pub IsUnanswered4 : Head4 → List ℕ → Type 0
IsUnanswered4 h payload = IsError4 h.proto payload ⊎ ((h.offset ≢ 0) ⊎ IsNoDestination4 h.src.0)

abbrev pub IsUnanswered6 : Head6 → List ℕ → Type 0
IsUnanswered6 h payload = IsError6 h.upper payload ⊎ ((fragment_offset h.frag ≢ 0) ⊎ IsNoDestination6 h.src.0)

-- what an error says: its type, its code, and the four octets behind its sum
abbrev pub notice : ℕ → ℕ → ℕ → Notice
notice kind code rest = record { kind = kind; code = code; rest = rest }

-- The packet that an error embeds: as it was received up to its declared end, cut so that the error has at most
-- 576 octets over IPv4, and at most 1280 over IPv6, its headers of 20 and 8 or of 40 and 8 octets counted.
abbrev pub embedded4 : Head4 → List ℕ → List ℕ
embedded4 h packet = take (576 - (20 + 8)) (trimmed4 h packet)

abbrev pub embedded6 : Head6 → List ℕ → List ℕ
embedded6 h packet = take (1280 - (40 + 8)) (trimmed6 h packet)

-- the header of an error with a message of so many octets, which goes back to the packet's source
abbrev pub error_head4 : Head4 → Addr4 → ℕ → ℕ → Head4
error_head4 h src id len = record {
  tos = 0;
  id = id;
  df = false;
  mf = false;
  offset = 0;
  ttl = 64;
  proto = 1;
  src = src;
  dst = h.src;
  head_len = 20;
  total = 20 + len;
  routed = false;
}

abbrev pub error_head6 : Head6 → Addr6 → ℕ → Head6
error_head6 h src len = record {
  class = 0;
  hop = 64;
  src = src;
  dst = h.src;
  upper = 58;
  start = 40;
  length = len;
  frag = None;
  left = None;
}

-- the error's message, with its sum
abbrev pub error_message4 : Head4 → List ℕ → Notice → List ℕ
error_message4 h packet what =
    message4 (record { kind = what.kind; code = what.code; rest = what.rest; body = embedded4 h packet })

abbrev pub error_message6 : Head6 → List ℕ → Notice → Addr6 → List ℕ
error_message6 h packet what src =
    message6 src h.src (record { kind = what.kind; code = what.code; rest = what.rest; body = embedded6 h packet })

-- the error that answers a packet with this header
abbrev pub error4 : Head4 → List ℕ → Notice → Addr4 → ℕ → List ℕ
error4 h packet what src id =
    written4 (error_head4 h src id (length (error_message4 h packet what))) (error_message4 h packet what)

abbrev pub error6 : Head6 → List ℕ → Notice → Addr6 → List ℕ
error6 h packet what src =
    written6 (error_head6 h src (length (error_message6 h packet what src))) (error_message6 h packet what src)
