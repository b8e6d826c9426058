-- The MAP address of an IPv4 address and a PSID under one mapping rule (RFC 7597, sections 5.2 and 6;
-- RFC 7599, section 6).
use Rattle.std.specs.Prelude.{ℕ, ◌+◌, ◌-◌, ◌*◌, ◌/◌, ◌%◌, ◌^◌, ◌==◌, if◌then◌else◌}
use Rattle.octets.specs.Bits.{bits_at}

-- the PSID of the sets with offset a and PSID length k in which port x can stand
abbrev pub psid_of : ℕ → ℕ → ℕ → ℕ
psid_of a k x = if k == 0 then 0 else x / 2 ^ (16 - a - k) % 2 ^ k

-- the rule's prefix (its bits and their number n), then o EA bits, which are the suffix of the IPv4
-- address and k bits of PSID; and in the last 48 bits the address itself and the PSID
abbrev pub map_address : ℕ → ℕ → ℕ → ℕ → ℕ → ℕ → ℕ → ℕ
map_address bits n o k suffix addr v = bits + (suffix * 2 ^ k + v) * 2 ^ (128 - n - o) + addr * 2 ^ 16 + v

-- the IPv4 address and the PSID that a MAP address carries in its last 48 bits
abbrev pub carried_addr : ℕ → ℕ
carried_addr s = bits_at 128 s 80 32

abbrev pub carried_psid : ℕ → ℕ
carried_psid s = bits_at 128 s 112 16
