-- What `[[rule]]` says.
use Rattle.std.specs.Prelude.{◌≡◌, ℕ, List, [], ◌∷◌, codes, true, false, Some}
use Rattle.toml.specs.Data.{Data, Members}
use Rattle.setup_tables.specs.declared.rule.RuleLine.{RuleLine}
use Rattle.setup_tables.specs.Answer.{OfTable}
use Rattle.setup_tables.specs.Keys.{has_only, number_at, number_or, flag_or}
use Rattle.setup_tables.specs.Spelled.{HasPrefix4, HasPrefix6}

abbrev pub rule_keys : List (List ℕ)
rule_keys = codes "prefix6" ∷ codes "prefix4" ∷ codes "ea" ∷ codes "offset" ∷ codes "forward" ∷ []

-- the table says this: the two prefixes, the number of EA bits, the offset, which is 6 where it is missing,
-- and whether the rule forwards, which is false where it is missing
pub record IsRuleTable (ms : Members) (rule : RuleLine) : Type 0 where
  pub keys : has_only rule_keys ms ≡ true
  pub prefix6 : HasPrefix6 (codes "prefix6") ms rule.prefix6
  pub prefix4 : HasPrefix4 (codes "prefix4") ms rule.prefix4
  pub ea : number_at (codes "ea") 0 255 ms ≡ Some rule.ea
  pub offset : number_or 6 (codes "offset") 255 ms ≡ Some rule.offset
  pub forward : flag_or false (codes "forward") ms ≡ Some rule.forward

abbrev pub IsRule : Data → RuleLine → Type 0
IsRule = OfTable IsRuleTable
