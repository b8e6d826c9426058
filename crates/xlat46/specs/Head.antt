-- The header of an IPv4 packet translated to IPv6 (RFC 7915, section 4.1), one equation a field. Options
-- are dropped. The packet is written with flow label 0, and with a payload length that counts a Fragment
-- Header's 8 octets.
use Rattle.std.specs.Prelude.{ℕ, ◌-◌, ◌==◌, if◌then◌else◌, Option, Some, None, is_some}
use Rattle.octets.specs.declared.address.Addr6.{Addr6}
use Rattle.ip4_packet.specs.declared.head.Head4.{Head4}
use Rattle.ip4_packet.specs.Fragment.{is_fragment}
use Rattle.ip6_packet.specs.declared.head.Head6.{Head6}
use Rattle.ip6_packet.specs.declared.head.Frag6.{Frag6}

-- exactly a fragment has a Fragment Header: the identification in the low 16 of 32 bits, offset and more
-- fragments as they were
abbrev pub fragment_header : Head4 → Option Frag6
fragment_header old =
    if is_fragment old then Some (record { offset = old.offset; more = old.mf; id = old.id }) else None

-- 1, ICMP over IPv4, becomes 58
abbrev pub upper_protocol : ℕ → ℕ
upper_protocol protocol = if protocol == 1 then 58 else protocol

abbrev pub translated : Head4 → Addr6 → Addr6 → Head6
translated old src dst = record {
  class = old.tos;
  hop = old.ttl - 1;
  src = src;
  dst = dst;
  upper = upper_protocol old.proto;
  start = if is_some (fragment_header old) then 48 else 40;
  length = old.total - old.head_len;
  frag = fragment_header old;
  left = None;
}
