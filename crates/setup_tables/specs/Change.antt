-- What `[[change]]` says.
use Rattle.std.specs.Prelude.{◌≡◌, ℕ, ◌-◌, ◌^◌, List, [], ◌∷◌, codes, nat_eq, true, false, if◌then◌else◌, Option, Some, None, option_and_then}
use Rattle.std.specs.Cmp.Lexicographic.{pointwise}
use Rattle.toml.specs.Data.{Data, Members, get_member}
use Rattle.octets.specs.declared.prefix.Prefix6.{Prefix6}
use Rattle.setup_tables.specs.declared.rule.RuleLine.{RuleLine}
use Rattle.setup_tables.specs.declared.change.Verb.{Verb}
use Rattle.setup_tables.specs.declared.change.Verb.TheVariants as verb
use Rattle.setup_tables.specs.declared.change.Action.{Action}
use Rattle.setup_tables.specs.declared.change.Action.TheVariants as action
use Rattle.setup_tables.specs.declared.change.ChangeText.{ChangeText}
use Rattle.setup_tables.specs.Answer.{OfTable}
use Rattle.setup_tables.specs.Keys.{has_only, text_at, number_at, flag_or}
use Rattle.setup_tables.specs.Rule.{IsRule}
use Rattle.setup_tables.specs.Spelled.{HasPrefix6}

-- what a word says to do
abbrev pub verb_of : List ℕ → Option Verb
verb_of word =
    if pointwise nat_eq word (codes "add") then Some verb.Add
    else (if pointwise nat_eq word (codes "remove") then Some verb.Remove
    else (if pointwise nat_eq word (codes "replace") then Some verb.Replace
    else None))

-- what the word at `action` says to do
abbrev pub verb_at : Members → Option Verb
verb_at ms = option_and_then verb_of (text_at (codes "action") ms)

-- the keys beside each word
abbrev pub add_keys : List (List ℕ)
add_keys = codes "at" ∷ codes "action" ∷ codes "live" ∷ codes "rule" ∷ []

abbrev pub remove_keys : List (List ℕ)
remove_keys = codes "at" ∷ codes "action" ∷ codes "live" ∷ codes "prefix6" ∷ []

abbrev pub replace_keys : List (List ℕ)
replace_keys = codes "at" ∷ codes "action" ∷ codes "live" ∷ codes "prefix6" ∷ codes "rule" ∷ []

-- the table at `rule` says this rule
pub record HasRule (ms : Members) (rule : RuleLine) : Type 0 where
  pub value : Data
  pub there : get_member (codes "rule") ms ≡ Some value
  pub says : IsRule value rule

-- the table adds this rule
pub record Adds (ms : Members) (line : RuleLine) : Type 0 where
  pub word : verb_at ms ≡ Some verb.Add
  pub keys : has_only add_keys ms ≡ true
  pub rule : HasRule ms line

-- it removes the rule with this IPv6 prefix
pub record Removes (ms : Members) (named : Prefix6) : Type 0 where
  pub word : verb_at ms ≡ Some verb.Remove
  pub keys : has_only remove_keys ms ≡ true
  pub prefix : HasPrefix6 (codes "prefix6") ms named

-- it puts a rule for the one with this IPv6 prefix
pub record Replaces (ms : Members) (named : Prefix6) (line : RuleLine) : Type 0 where
  pub word : verb_at ms ≡ Some verb.Replace
  pub keys : has_only replace_keys ms ≡ true
  pub prefix : HasPrefix6 (codes "prefix6") ms named
  pub rule : HasRule ms line

abbrev pub HasAction : Members → Action → Type 0
HasAction ms (action.Add rule) = Adds ms rule
HasAction ms (action.Remove prefix) = Removes ms prefix
HasAction ms (action.Replace prefix rule) = Replaces ms prefix rule

-- the greatest time of a change, in microseconds
abbrev pub most_at : ℕ
most_at = 2 ^ 52 - 1

-- the table says this: when, whether while packets are worked on, which is false where it is missing, and what
pub record IsChangeTable (ms : Members) (change : ChangeText) : Type 0 where
  pub at : number_at (codes "at") 0 most_at ms ≡ Some change.at
  pub live : flag_or false (codes "live") ms ≡ Some change.live
  pub action : HasAction ms change.action

abbrev pub IsChange : Data → ChangeText → Type 0
IsChange = OfTable IsChangeTable
