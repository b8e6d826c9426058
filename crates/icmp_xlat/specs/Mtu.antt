-- The MTU in an ICMP error (after RFC 7915, sections 4.2 and 5.2).
use Rattle.std.specs.Prelude.{ℕ, ◌+◌, ◌-◌, min, max, ◌==◌, nat_lt, if◌then◌else◌, List, [], ◌∷◌}
use Rattle.octets.specs.declared.mtus.Mtus.{Mtus}

-- the plateaus (RFC 1191, section 7, table 7-1), from the greatest down
abbrev pub plateaus : List ℕ
plateaus = 65535 ∷ 32000 ∷ 17914 ∷ 8166 ∷ 4352 ∷ 2002 ∷ 1492 ∷ []

-- the first of them that is less than a packet of this length, and 1280 where none is
abbrev pub plateau_below : List ℕ → ℕ → ℕ
plateau_below [] total = 1280
plateau_below (plateau ∷ lower) total = if nat_lt plateau total then plateau else plateau_below lower total

-- An MTU of ICMPv4 for an embedded packet of this total length. 0 says nothing and is replaced by a plateau. The
-- translated packet is longer by 20 octets; it fits both networks, and no IPv6 link carries less than 1280.
abbrev pub mtu46 : Mtus → ℕ → ℕ → ℕ
mtu46 mtus total mtu =
    let told = if mtu == 0 then plateau_below plateaus total else mtu in
    max 1280 (min (min (told + 20) mtus.mtu6) (mtus.mtu4 + 20))

-- an MTU of ICMPv6, which is read as at least 1280
abbrev pub mtu64 : Mtus → ℕ → ℕ
mtu64 mtus mtu = min (min (max mtu 1280 - 20) mtus.mtu4) (mtus.mtu6 - 20)
