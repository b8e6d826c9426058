-- The list of options in an IPv4 header, by its grammar (RFC 791, section 3.1).
use Rattle.std.specs.Prelude.{◌≡◌, ℕ, ◌+◌, ◌≤◌, ◌⊎◌, Bool, IsTrue, List, [], ◌∷◌, ◌++◌, length}
use Rattle.std.specs.List.{list_any}
use Rattle.octets.specs.Field.{octet}
use Rattle.ip4_packet.specs.Options.{is_source_route, is_unspent}

-- No-operation: the kind 1 alone
abbrev pub IsNoOperation : List ℕ → Type 0
IsNoOperation option = option ≡ 1 ∷ []

-- any other option: its kind, its length, which counts the octets of kind, length and data, and the data.
-- The data of a source route begin with its pointer
pub record IsSizedOption (option : List ℕ) : Type 0 where
  pub kind : ℕ
  pub content : List ℕ
  pub sized : 2 ≤ kind
  pub spelled : option ≡ kind ∷ (2 + length content) ∷ content
  pub pointed : IsTrue (is_source_route kind) → 1 ≤ length content

abbrev pub IsOption : List ℕ → Type 0
IsOption option = IsNoOperation option ⊎ IsSizedOption option

-- the end of the list: the end of the header, or the kind 0, behind which no option stands
abbrev pub IsListEnd : List ℕ → Type 0
IsListEnd octets = (octets ≡ []) ⊎ ((padding : List ℕ) × (octets ≡ 0 ∷ padding))

-- the octets are these options and the end: the end, or an option and in the octets behind it the others
abbrev pub AreOptions : List ℕ → List (List ℕ) → Type 0
AreOptions octets [] = IsListEnd octets
AreOptions octets (option ∷ options) = (rest : List ℕ) × (octets ≡ option ++ rest) × IsOption option × AreOptions rest options

-- the option is a source route that isn't spent: its pointer isn't above its length
abbrev pub is_unspent_route : List ℕ → Bool
is_unspent_route option = is_unspent (octet option 0) (octet option 1) (octet option 2)

-- the octets are options, and this tells whether a source route that isn't spent is among them
pub record AreRouted (octets : List ℕ) (routed : Bool) : Type 0 where
  pub options : List (List ℕ)
  pub are : AreOptions octets options
  pub told : routed ≡ list_any is_unspent_route options
