-- The packet that an ICMP error embeds, without the extension that may follow it (RFC 4884, section 4).
use Rattle.std.specs.Prelude.{ℕ, ◌*◌, ◌/◌, ◌%◌, ◌^◌, not, ◌==◌, ◌||◌, ◌&&◌, if◌then◌else◌, List, take}
use Rattle.icmp_messages.specs.declared.icmp4.Icmp4.{Icmp4}
use Rattle.icmp_messages.specs.declared.icmp6.Icmp6.{Icmp6}

-- The embedded packet of an ICMPv4 error: its body, or as many words of 32 bits as its length octet says, which is
-- the second behind the sum, where it isn't 0. What follows is an extension, and is dropped (RFC 4884).
abbrev pub embedded46 : Icmp4 → List ℕ
embedded46 m =
    let words = m.rest / 2 ^ 16 % 256 in
    if words == 0 then m.body else take (4 * words) m.body

-- The embedded packet of an ICMPv6 error: its body, or of types 1 and 3 as many words of 64 bits as its length octet
-- says, which is the first behind the sum, where it isn't 0. What follows is an extension, and is dropped (RFC 4884).
abbrev pub embedded64 : Icmp6 → List ℕ
embedded64 m =
    let words = m.rest / 2 ^ 24 in
    if (m.kind == 1 || m.kind == 3) && not (words == 0) then take (8 * words) m.body else m.body
