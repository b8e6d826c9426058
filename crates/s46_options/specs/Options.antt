-- Options as they stand in a DHCPv6 message (RFC 8415, section 21.1): a code, the number of octets that
-- follow, and these octets.
use Rattle.std.specs.Prelude.{◌≡◌, ℕ, zero, suc, ◌+◌, ◌&&◌, nat_le, Bool, false, List, [], ◌∷◌, ◌++◌, length, drop, if◌then◌else◌}
use Rattle.std.specs.List.{flat_map}
use Rattle.octets.specs.Field.{word, in_word, part}

pub record DhcpOption : Type 0 where
  pub code : ℕ
  pub octets : List ℕ

--  0                   1                   2                   3
-- |             code              |            length             |
-- |                       so many octets ..                       |
abbrev pub spelled : DhcpOption → List ℕ
spelled option = in_word option.code ++ in_word (length option.octets) ++ option.octets

-- options that stand one after another
abbrev pub spelled_all : List DhcpOption → List ℕ
spelled_all options = flat_map spelled options

-- a whole option stands first
abbrev pub starts_whole : List ℕ → Bool
starts_whole octets = nat_le 4 (length octets) && nat_le (4 + word octets 2) (length octets)

abbrev pub first_option : List ℕ → DhcpOption
first_option octets = record { code = word octets 0; octets = part octets 4 (word octets 2) }

-- the whole options that stand first, as many as there are, and the octets that are left
pub record Cut : Type 0 where
  pub options : List DhcpOption
  pub left : List ℕ

abbrev pub behind : DhcpOption → Cut → Cut
behind option cut = record { options = option ∷ cut.options; left = cut.left }

-- at most so many options
unfoldable pub cut_most : ℕ → List ℕ → Cut
cut_most zero octets = record { options = []; left = octets }
cut_most (suc most) octets =
    if starts_whole octets then behind (first_option octets) (cut_most most (drop (4 + word octets 2) octets))
    else record { options = []; left = octets }

-- an option has four octets at least, so there are no more options than octets
abbrev pub cut : List ℕ → Cut
cut octets = cut_most (length octets) octets

-- the octets are these options one after another, and others that begin with no whole option
pub record IsCut (octets : List ℕ) (parts : Cut) : Type 0 where
  pub joined : octets ≡ spelled_all parts.options ++ parts.left
  pub stops : starts_whole parts.left ≡ false
