-- The changes of a configuration, each by the rules that stand before it.
use Rattle.std.specs.Prelude.{◌≡◌, ℕ, ◌-◌, suc, nat_lt, Bool, false, List, [], ◌∷◌, length, Option, None, option_map, slice_get, Result, Ok}
use Rattle.std.specs.Option.{option_map_or}
use Rattle.map_rules.specs.declared.rule.Rule.{Rule}
use Rattle.map_rules.specs.declared.dmr.Dmr.{Dmr}
use Rattle.rule_book.specs.declared.change.Change.{Change}
use Rattle.rule_book.specs.declared.change.Change.TheVariants as change
use Rattle.rule_book.specs.Change.{rules_after, change_refusal}
use Rattle.setup_tables.specs.declared.change.Action.{Action}
use Rattle.setup_tables.specs.declared.change.Action.TheVariants as action
use Rattle.setup_tables.specs.declared.change.ChangeText.{ChangeText}
use Rattle.mapt_setup.specs.declared.moves.MoveLine.{MoveLine}
use Rattle.setup_tables.specs.declared.fault.SetupCause.TheVariants.{ChangeOrder, ChangeRefused}
use Rattle.setup_tables.specs.declared.fault.SetupFault.{SetupFault}
use Rattle.setup_tables.specs.declared.fault.SetupFault.TheVariants.{Refused}
use Rattle.setup_tables.specs.Answer.{◌>>=◌, the, barring, exactly}
use Rattle.mapt_setup.specs.Beside.{first_after}
use Rattle.mapt_setup.specs.Shapes.{HasParts}

-- a change comes before the one that is listed before it
abbrev pub is_early : List ChangeText → ChangeText → Bool
is_early earlier text = option_map_or (λ (before : ChangeText). nat_lt text.at before.at) (slice_get earlier (length earlier - 1)) false

-- the first that does
abbrev pub order_fault : List ChangeText → Option SetupFault
order_fault texts = option_map (Refused ChangeOrder) (first_after is_early texts)

-- the change that an action names: its rule has the parts that the action names
abbrev pub HasChange : Action → Change → Type 0
HasChange (action.Add line) (change.Add rule) = HasParts line rule
HasChange (action.Remove prefix) (change.Remove other) = other ≡ prefix
HasChange (action.Replace prefix line) (change.Replace other rule) = (other ≡ prefix) × HasParts line rule
HasChange (action.Add line) (change.Remove other) = ⊥
HasChange (action.Add line) (change.Replace other rule) = ⊥
HasChange (action.Remove prefix) (change.Add rule) = ⊥
HasChange (action.Remove prefix) (change.Replace other rule) = ⊥
HasChange (action.Replace prefix line) (change.Add rule) = ⊥
HasChange (action.Replace prefix line) (change.Remove other) = ⊥

-- a text's change, which these rules and this default mapping rule accept
pub record IsMove (rules : List Rule) (dmr : Dmr) (text : ChangeText) (move : MoveLine) : Type 0 where
  pub at : move.at ≡ text.at
  pub live : move.live ≡ text.live
  pub change : HasChange text.action move.change
  pub accepted : change_refusal move.change rules dmr ≡ None

-- the changes of these texts, from this place on, each accepted by the rules after those before it
abbrev pub moves_from : ℕ → Dmr → List Rule → List ChangeText → Result (List MoveLine) SetupFault → Type 0
moves_from place dmr rules [] = exactly (Ok [])
moves_from place dmr rules (text ∷ texts) = do
  move ← the (IsMove rules dmr text) (Refused ChangeRefused place)
  moves ← moves_from (suc place) dmr (rules_after move.change rules) texts
  exactly (Ok (move ∷ moves))

-- the changes of these texts, which stand in the order of their times
unfoldable pub changes_of : Dmr → List Rule → List ChangeText → Result (List MoveLine) SetupFault → Type 0
changes_of dmr rules texts = barring (order_fault texts) (moves_from 0 dmr rules texts)
