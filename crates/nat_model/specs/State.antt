-- What the machine knows, and what it is told at a step.
use Rattle.std.specs.Prelude.{ℕ, List}
use Rattle.octets.specs.declared.prefix.Prefix6.{Prefix6}
use Rattle.map_rules.specs.declared.rule.Rule.{Rule}
use Rattle.map_rules.specs.declared.dmr.Dmr.{Dmr}
use Rattle.rule_book.specs.declared.book.Book.{Book}
use Rattle.rule_book.specs.Book.{rules_of, dmr_of, generation_of}
use Rattle.rule_book.specs.Holder.{Holder, holder_of}
use Rattle.frag_table.specs.declared.note.Note.{Note}
use Rattle.nat_model.specs.declared.answer.Answer.{Answer}
use Rattle.nat_model.specs.declared.binding.Binding.{Binding}
use Rattle.std.specs.Prelude.{Option}

-- the rules of one generation, the default mapping rule, and the generation's number
pub record Generation : Type 0 where
  pub rules : List Rule
  pub dmr : Dmr
  pub number : ℕ

-- those of a book
abbrev pub generation_in : Book → Generation
generation_in book = record { rules = rules_of book; dmr = dmr_of book; number = generation_of book }

-- a state: the rules that it goes by, the greatest time that was seen, in microseconds, the bindings in the order
-- in which they were made, and the notes on fragments
pub record NatState : Type 0 where
  pub book : Generation
  pub clock : ℕ
  pub bindings : List Binding
  pub notes : List Note

-- what a step is told beside the ask: the rules that are seen, the time, and the step's place
pub record Moment : Type 0 where
  pub seen : Generation
  pub now : ℕ
  pub place : ℕ

-- the state after a step, and its answer
pub record NatStep : Type 0 where
  pub after : NatState
  pub answer : Answer

-- a machine: the prefix of its edge, its state, and how many steps it made
pub record NatMachine : Type 0 where
  pub prefix : Prefix6
  pub state : NatState
  pub steps : ℕ

-- what the edge with this prefix holds by the state's rules
abbrev pub holder_at : Prefix6 → NatState → Option Holder
holder_at prefix s = holder_of s.book.rules prefix

-- the state of these parts
abbrev pub state_at : Generation → ℕ → List Binding → List Note → NatState
state_at book clock bs notes = record { book = book; clock = clock; bindings = bs; notes = notes }
