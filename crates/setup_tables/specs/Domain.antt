-- What `[domain]` says.
use Rattle.std.specs.Prelude.{◌≡◌, ℕ, List, [], ◌∷◌, codes, true, Some}
use Rattle.toml.specs.Data.{Members}
use Rattle.setup_tables.specs.declared.domain.Required.{Required}
use Rattle.setup_tables.specs.declared.domain.Domain.{Domain}
use Rattle.setup_tables.specs.Keys.{has_only, table_at, number_at, optional_text_at}
use Rattle.setup_tables.specs.Origin.{HasOrigin}
use Rattle.setup_tables.specs.Spelled.{HasAddr4}

-- the names at the top
abbrev pub top_names : List (List ℕ)
top_names = codes "domain" ∷ codes "rule" ∷ codes "edge" ∷ codes "forward" ∷ codes "change" ∷ []

abbrev pub domain_keys : List (List ℕ)
domain_keys = codes "dmr" ∷ codes "relay" ∷ codes "mtu4" ∷ codes "mtu6" ∷ codes "access" ∷ codes "core" ∷ codes "options" ∷ []

-- the keys that must stand in any case: the relay's address and the two MTUs
pub record HasRequired (ms : Members) (found : Required) : Type 0 where
  pub keys : has_only domain_keys ms ≡ true
  pub relay : HasAddr4 (codes "relay") ms found.relay
  pub mtu4 : number_at (codes "mtu4") 1280 9000 ms ≡ Some found.mtus.mtu4
  pub mtu6 : number_at (codes "mtu6") 1280 9000 ms ≡ Some found.mtus.mtu6

-- the document has no unknown name at the top, and its domain says this: those keys, where the default
-- mapping rule and the rules come from, and the names of the captures of the access network and the core,
-- which may be missing
pub record IsDomain (document : Members) (domain : Domain) : Type 0 where
  pub names : has_only top_names document ≡ true
  pub table : Members
  pub there : table_at (codes "domain") document ≡ Some table
  pub required : HasRequired table domain.required
  pub origin : HasOrigin document table domain.origin
  pub access : optional_text_at (codes "access") table ≡ Some domain.access
  pub core : optional_text_at (codes "core") table ≡ Some domain.core
