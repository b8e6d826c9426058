-- Where the default mapping rule and the rules of a configuration come from: from `dmr` and `[[rule]]`, or
-- from the DHCPv6 options that stand in `options` as hexadecimal text (RFC 7598).
use Rattle.std.specs.Prelude.{◌≡◌, ◌≤◌, ◌⊎◌, ℕ, List, codes, length, false, Some, None, Result, Ok, Err}
use Rattle.toml.specs.Data.{Members}
use Rattle.s46_options.specs.declared.item.Item.{Item}
use Rattle.s46_options.specs.declared.fault.OptionFault.{OptionFault}
use Rattle.s46_options.specs.declared.digits.HexFault.TheVariants.{At}
use Rattle.s46_options.specs.Digits.{hex_of, fault_place}
use Rattle.s46_options.specs.Faults.{fault_of}
use Rattle.s46_options.specs.Reading.{ReadsContainer}
use Rattle.setup_tables.specs.declared.rule.RuleLine.{RuleLine}
use Rattle.setup_tables.specs.declared.origin.Given.{Given}
use Rattle.setup_tables.specs.declared.origin.Origin.{Origin}
use Rattle.setup_tables.specs.declared.origin.Origin.TheVariants as origin
use Rattle.setup_tables.specs.declared.fault.SetupCause.{SetupCause}
use Rattle.setup_tables.specs.declared.fault.SetupCause.TheVariants.{BadHex, BadContainer}
use Rattle.setup_tables.specs.declared.fault.SetupFault.{SetupFault}
use Rattle.setup_tables.specs.declared.fault.SetupFault.TheVariants.{Refused}
use Rattle.setup_tables.specs.Lines.{lines_in, dmr_in}
use Rattle.setup_tables.specs.Keys.{has_key, text_at}
use Rattle.setup_tables.specs.Spelled.{HasDmr}

-- the items say this default mapping rule and these rules
pub record SaysItems (items : List Item) (given : Given) : Type 0 where
  pub dmr : dmr_in items ≡ Some given.dmr.prefix
  pub lines : given.lines ≡ lines_in items

-- the text is a container of such items
pub record SaysContainer (text : List ℕ) (given : Given) : Type 0 where
  pub octets : List ℕ
  pub spelled : hex_of text ≡ Ok octets
  pub sound : fault_of octets ≡ None
  pub items : List Item
  pub read : ReadsContainer octets items
  pub says : SaysItems items given

-- the text is no octets, or its octets are no container: the cause and its place
pub record HasBadHex (text : List ℕ) (cause : SetupCause) (i : ℕ) : Type 0 where
  pub cause_is : cause ≡ BadHex
  pub spelled : hex_of text ≡ Err (At i)

pub record HasBadContainer (text : List ℕ) (cause : SetupCause) (i : ℕ) : Type 0 where
  pub cause_is : cause ≡ BadContainer
  pub octets : List ℕ
  pub fault : OptionFault
  pub spelled : hex_of text ≡ Ok octets
  pub refused : fault_of octets ≡ Some fault
  pub place : i ≡ fault_place fault (length octets)

-- what a text at `options` says
abbrev pub SaysOptions : List ℕ → Origin → Type 0
SaysOptions text (origin.Keys dmr) = ⊥
SaysOptions text (origin.Container given) = SaysContainer text given
SaysOptions text (origin.Refused cause i) = HasBadHex text cause i ⊎ HasBadContainer text cause i

-- `options` stands there, and neither `dmr` nor `[[rule]]` beside it
pub record HasOptions (document table : Members) (from : Origin) : Type 0 where
  pub text : List ℕ
  pub there : text_at (codes "options") table ≡ Some text
  pub no_dmr : has_key (codes "dmr") table ≡ false
  pub no_rules : has_key (codes "rule") document ≡ false
  pub says : SaysOptions text from

-- there are no options, and `dmr` spells the default mapping rule
abbrev pub HasKeys : Members → Origin → Type 0
HasKeys table (origin.Keys dmr) = (has_key (codes "options") table ≡ false) × HasDmr (codes "dmr") table dmr
HasKeys table (origin.Container given) = ⊥
HasKeys table (origin.Refused cause i) = ⊥

abbrev pub HasOrigin : Members → Members → Origin → Type 0
HasOrigin document table from = HasKeys table from ⊎ HasOptions document table from

-- at most 256 rules
abbrev pub HasFew : Origin → Type 0
HasFew (origin.Keys dmr) = Unit {0}
HasFew (origin.Container given) = length given.lines ≤ 256
HasFew (origin.Refused cause i) = Unit {0}

-- the default mapping rule and the lines, with those of `[[rule]]` where there are no options
abbrev pub given_by : Origin → List RuleLine → Result Given SetupFault
given_by (origin.Keys dmr) lines = Ok (record { dmr = dmr; lines = lines })
given_by (origin.Container given) lines = Ok given
given_by (origin.Refused cause i) lines = Err (Refused cause i)
