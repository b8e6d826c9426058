-- The transport sum of the packet that an ICMP error embeds, before and after it is translated. It covers the pseudo header
-- with the declared length, and the whole payload, of which the error may hold the beginning alone.
use Rattle.std.specs.Prelude.{◌≡◌, ◌≢◌, ℕ, ◌+◌, ◌-◌, ◌≤◌, List, length, drop}
use Rattle.octets.specs.Field.{octet, word}
use Rattle.octets.specs.declared.address.Addr4.{Addr4}
use Rattle.octets.specs.declared.proto.Proto.{Proto}
use Rattle.octets.specs.declared.proto.Proto.TheVariants.{Tcp, Udp, Icmp}
use Rattle.inet_sum.specs.Sum.{words, folded}
use Rattle.l4_headers.specs.PseudoHeader.{pseudo_header4, pseudo_header6}
use Rattle.icmp_messages.specs.declared.inner4.Inner4.{Inner4}
use Rattle.icmp_messages.specs.declared.inner6.Inner6.{Inner6}
use Rattle.l4_headers.specs.declared.ends.Ends.{Ends}
use Rattle.icmp_xlat.specs.Inner.{echo64}

-- the words outside the payload: the pseudo header, but for an echo of ICMPv4, whose sum covers none (RFC 792)
abbrev pub outside4 : Inner4 → Proto → ℕ
outside4 inner Tcp = words (pseudo_header4 inner.head.src inner.head.dst inner.head.proto (inner.head.total - inner.head.head_len))
outside4 inner Udp = words (pseudo_header4 inner.head.src inner.head.dst inner.head.proto (inner.head.total - inner.head.head_len))
outside4 inner Icmp = 0

abbrev pub outside6 : Inner6 → ℕ
outside6 inner = words (pseudo_header6 inner.head.src inner.head.dst inner.head.upper inner.head.length)

-- the sum is right, where `later` is the sum of the words that the error doesn't hold
abbrev pub IsRightIn4 : Inner4 → ℕ → Type 0
IsRightIn4 inner later = folded (outside4 inner inner.proto + words inner.payload + later) ≡ 65535

abbrev pub IsRightIn6 : Inner6 → ℕ → Type 0
IsRightIn6 inner later = folded (outside6 inner + words inner.payload + later) ≡ 65535

-- a sum stands in the payload: a TCP header may be cut in front of it, and one of UDP may be missing (RFC 768)
abbrev pub HasSum : Proto → List ℕ → Type 0
HasSum Tcp payload = 18 ≤ length payload
HasSum Udp payload = word payload 6 ≢ 0
HasSum Icmp payload = 8 ≤ length payload

-- All that the sum of an echo of ICMPv4 covers is 0: it is a reply, its identifier is 0, and so is what follows.
abbrev pub IsZeroEcho : Inner6 → Ends Addr4 → ℕ → Type 0
IsZeroEcho inner ends later =
    (inner.proto ≡ Icmp) × (echo64 (octet inner.payload 0) ≡ 0) × (ends.ports.src ≡ 0) × (words (drop 6 inner.payload) + later ≡ 0)
