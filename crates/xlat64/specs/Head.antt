-- The header of an IPv6 packet translated to IPv4 (RFC 7915, section 5.1), one equation a field. Extension
-- headers but the Fragment Header leave no trace.
use Rattle.std.specs.Prelude.{ℕ, ◌+◌, ◌-◌, ◌%◌, ◌^◌, min, Bool, false, not, ◌==◌, nat_le, if◌then◌else◌, Option, Some, None}
use Rattle.octets.specs.declared.address.Addr4.{Addr4}
use Rattle.ip4_packet.specs.declared.head.Head4.{Head4}
use Rattle.ip6_packet.specs.declared.head.Head6.{Head6}
use Rattle.ip6_packet.specs.declared.head.Frag6.{Frag6}
use Rattle.ip6_packet.specs.Fragment.{more_fragments, fragment_offset}

-- 20 octets of header and the upper payload, at most what the field holds. Only an embedded packet declares more.
abbrev pub total_of : Head6 → ℕ
total_of old = min (20 + old.length) 65535

-- 58, ICMP over IPv6, becomes 1
abbrev pub protocol_of : ℕ → ℕ
protocol_of upper = if upper == 58 then 1 else upper

-- With a Fragment Header: the low 16 bits of its identification, its offset and its flag, and "don't fragment" 0.
-- Without: the identification that is given, and "don't fragment" exactly for a total above 1260 (RFC 7915,
-- section 5.1, where 1260 octets of IPv4 are the 1280 that every IPv6 link carries).
abbrev pub identification : Option Frag6 → ℕ → ℕ
identification (Some frag) id = frag.id % 2 ^ 16
identification None id = id

abbrev pub dont_fragment : Option Frag6 → ℕ → Bool
dont_fragment (Some frag) total = false
dont_fragment None total = not (nat_le total 1260)

abbrev pub translated : Head6 → Addr4 → Addr4 → ℕ → Head4
translated old src dst id = record {
  head_len = 20;
  tos = old.class;
  total = total_of old;
  proto = protocol_of old.upper;
  ttl = old.hop - 1;
  id = identification old.frag id;
  df = dont_fragment old.frag (total_of old);
  mf = more_fragments old.frag;
  offset = fragment_offset old.frag;
  src = src;
  dst = dst;
  routed = false;
}
