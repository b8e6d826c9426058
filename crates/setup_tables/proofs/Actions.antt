-- Tables of changes that say nothing.
use Rattle.std.proofs.Common.{◌≡◌, Some, None, sym, ◌∙◌}
use Rattle.std.proofs.lemmas.Option.{none-some, same_Some}
use Rattle.toml.specs.Data.{Members}
use Rattle.octets.specs.declared.prefix.Prefix6.{Prefix6}
use Rattle.setup_tables.specs.declared.rule.RuleLine.{RuleLine}
use Rattle.setup_tables.specs.declared.change.Verb.{Verb}
use Rattle.setup_tables.specs.declared.change.Verb.TheVariants as verb
use Rattle.setup_tables.specs.declared.change.Action.TheVariants as action
use Rattle.setup_tables.specs.Answer.{HasNone}
use Rattle.setup_tables.specs.Change.{verb_at, Adds, Removes, Replaces, HasAction}

pub add≢remove : verb.Add ≡ verb.Remove → ⊥
add≢remove e = cc

pub add≢replace : verb.Add ≡ verb.Replace → ⊥
add≢replace e = cc

pub remove≢replace : verb.Remove ≡ verb.Replace → ⊥
remove≢replace e = cc

-- what was found twice at one place is one word
once : (ms : Members) (x y : Verb) → verb_at ms ≡ Some x → verb_at ms ≡ Some y → x ≡ y
once ms x y h g = same_Some x y (sym h ∙ g)

-- a table whose word is `add` says nothing where it adds nothing, and so on
pub adds_nothing : (ms : Members) → verb_at ms ≡ Some verb.Add → ((line : RuleLine) → Adds ms line → ⊥) → HasNone HasAction ms
adds_nothing ms word none (action.Add line) h = none line h
adds_nothing ms word none (action.Remove named) h = add≢remove (once ms _ _ word h.word)
adds_nothing ms word none (action.Replace named line) h = add≢replace (once ms _ _ word h.word)

pub removes_nothing : (ms : Members) → verb_at ms ≡ Some verb.Remove → ((named : Prefix6) → Removes ms named → ⊥) → HasNone HasAction ms
removes_nothing ms word none (action.Add line) h = add≢remove (once ms _ _ h.word word)
removes_nothing ms word none (action.Remove named) h = none named h
removes_nothing ms word none (action.Replace named line) h = remove≢replace (once ms _ _ word h.word)

pub replaces_nothing : (ms : Members) → verb_at ms ≡ Some verb.Replace → ((named : Prefix6) (line : RuleLine) → Replaces ms named line → ⊥) → HasNone HasAction ms
replaces_nothing ms word none (action.Add line) h = add≢replace (once ms _ _ h.word word)
replaces_nothing ms word none (action.Remove named) h = remove≢replace (once ms _ _ h.word word)
replaces_nothing ms word none (action.Replace named line) h = none named line h

pub says_no_action : (ms : Members) → None ≡ verb_at ms → HasNone HasAction ms
says_no_action ms none (action.Add line) h = none-some verb.Add (none ∙ h.word)
says_no_action ms none (action.Remove named) h = none-some verb.Remove (none ∙ h.word)
says_no_action ms none (action.Replace named line) h = none-some verb.Replace (none ∙ h.word)
