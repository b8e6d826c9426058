-- The addresses and prefixes whose texts stand at the keys of a table.
use Rattle.std.specs.Prelude.{◌≡◌, ℕ, List, Some}
use Rattle.octets.specs.declared.address.Addr4.{Addr4}
use Rattle.octets.specs.declared.prefix.Prefix4.{Prefix4}
use Rattle.octets.specs.declared.prefix.Prefix6.{Prefix6}
use Rattle.octets.specs.Text4.{IsText4}
use Rattle.octets.specs.PrefixText.{IsPrefixText4, IsPrefixText6}
use Rattle.map_rules.specs.declared.dmr.Dmr.{Dmr}
use Rattle.toml.specs.Data.{Members}
use Rattle.setup_tables.specs.Keys.{text_at}

-- the text at the key spells the address
pub record HasAddr4 (key : List ℕ) (ms : Members) (addr : Addr4) : Type 0 where
  pub text : List ℕ
  pub there : text_at key ms ≡ Some text
  pub spelled : IsText4 text addr.0

-- the text at the key spells the prefix
pub record HasPrefix4 (key : List ℕ) (ms : Members) (prefix : Prefix4) : Type 0 where
  pub text : List ℕ
  pub there : text_at key ms ≡ Some text
  pub spelled : IsPrefixText4 text prefix.bits prefix.len

pub record HasPrefix6 (key : List ℕ) (ms : Members) (prefix : Prefix6) : Type 0 where
  pub text : List ℕ
  pub there : text_at key ms ≡ Some text
  pub spelled : IsPrefixText6 text prefix.bits prefix.len

-- the prefix of the default mapping rule
abbrev pub HasDmr : List ℕ → Members → Dmr → Type 0
HasDmr key ms dmr = HasPrefix6 key ms dmr.prefix
