-- What the Fragment Header says of a packet's payload, and what holds where there is none (RFC 8200, section 4.5).
use Rattle.std.specs.Prelude.{◌≢◌, ◌⊎◌, ℕ, Bool, false, IsTrue, Option, Some, None}
use Rattle.ip6_packet.specs.declared.head.Head6.{Head6}
use Rattle.ip6_packet.specs.declared.head.Frag6.{Frag6}

-- where the payload stands in the whole one, in units of 8 octets: not 0 exactly in a later fragment
abbrev pub fragment_offset : Option Frag6 → ℕ
fragment_offset (Some frag) = frag.offset
fragment_offset None = 0

-- more fragments follow
abbrev pub more_fragments : Option Frag6 → Bool
more_fragments (Some frag) = frag.more
more_fragments None = false

-- a fragment, of which there is more than one
abbrev pub IsFragment6 : Head6 → Type 0
IsFragment6 h = IsTrue (more_fragments h.frag) ⊎ (fragment_offset h.frag ≢ 0)
