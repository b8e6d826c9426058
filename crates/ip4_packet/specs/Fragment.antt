-- Fragments of an IPv4 packet, by their header (RFC 791, section 3.2).
use Rattle.std.specs.Prelude.{Bool, not, ◌||◌, ◌==◌}
use Rattle.ip4_packet.specs.declared.head.Head4.{Head4}

-- the packet is a fragment: more of them follow, or its payload doesn't begin the packet's
abbrev pub is_fragment : Head4 → Bool
is_fragment h = h.mf || not (h.offset == 0)
