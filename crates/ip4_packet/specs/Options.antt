-- The options behind the first 20 octets of an IPv4 header, from left to right (RFC 791, section 3.1).
use Rattle.std.specs.Prelude.{◌≡◌, ◌≤◌, ℕ, zero, suc, ◌-◌, Bool, false, ◌||◌, ◌&&◌, ◌==◌, nat_lt, nat_le, if◌then◌else◌, List, [], ◌∷◌, length, drop, Option, None, Some}
use Rattle.octets.specs.Field.{octet}

-- a loose or a strict source route
abbrev pub is_source_route : ℕ → Bool
is_source_route kind = kind == 131 || kind == 137

-- octets of the shortest option of a kind: kind and length, of a source route a pointer too
abbrev pub least_length : ℕ → ℕ
least_length kind = if is_source_route kind then 3 else 2

-- a source route that isn't spent: its pointer isn't above its length
abbrev pub is_unspent : ℕ → ℕ → ℕ → Bool
is_unspent kind len pointer = is_source_route kind && nat_le pointer len

-- a finding beside those of what follows
abbrev pub beside : Bool → Option Bool → Option Bool
beside found None = None
beside found (Some later) = Some (found || later)

-- Whether a source route that isn't spent is among the options in these octets, and none where they
-- are no list of options: an option is too short, or passes the end. The first `inside` octets still
-- belong to the option before them. 0 ends the list, 1 is an option of one octet, any other kind has a
-- length octet that counts the whole option.
unfoldable pub routed_in : ℕ → List ℕ → Option Bool
routed_in zero [] = Some false
routed_in (suc inside) [] = None
routed_in (suc inside) (_ ∷ rest) = routed_in inside rest
routed_in zero (kind ∷ []) = if kind == 0 || kind == 1 then Some false else None
routed_in zero (kind ∷ len ∷ rest) =
    if kind == 0 then Some false
    else if kind == 1 then routed_in zero (len ∷ rest)
    else if nat_lt len (least_length kind) then None
    else beside (is_unspent kind len (octet rest 0)) (routed_in (len - 2) rest)

-- an option with a length octet, as long as its kind asks
abbrev pub IsWholeOption : List ℕ → Type 0
IsWholeOption option = (2 ≤ length option) × (least_length (octet option 0) ≤ length option)

-- this option stands at the front of the octets
abbrev pub IsFirstOption : List ℕ → List ℕ → Type 0
IsFirstOption option octets =
    IsWholeOption option
    × (length option ≤ length octets)
    × (routed_in 0 octets
    ≡ beside (is_unspent (octet option 0) (octet option 1) (octet option 2)) (routed_in 0 (drop (length option) octets)))
