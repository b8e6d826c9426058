-- The history of an edge: its steps in their order, each with who asked, when, what, and what was answered. The machine that
-- made them is a parameter, which `nat` is an instance of.
use Rattle.std.specs.Prelude.{◌≡◌, ℕ, suc, max, ◌==◌, List, [], ◌∷◌, Option, IsSome, unwrap_or}
use Rattle.std.specs.List.{find}
use Rattle.std.specs.Coded.{Coded-set, coded_ℕ, ×_prop, Unit-prop}
use mathlib.Core.Bool.{Bool-set}
use Rattle.octets.specs.declared.prefix.Prefix6.{Prefix6}
use Rattle.nat_model.specs.contracts.answer.Answer as answer_row
use Rattle.nat_model.specs.declared.answer.Answer.{Answer}
use Rattle.nat_model.specs.declared.binding.Binding.{Binding}
use Rattle.nat_model.specs.declared.ask.Ask.{Ask}
use Rattle.nat_model.specs.declared.entry.Entry.{Entry}
use Rattle.nat_model.specs.State.{Generation, NatState, NatStep, Moment}

-- a machine: what a step of an edge with a prefix leaves and answers, from a state, by what it is told and asked
abbrev pub Stepping : Type 0
Stepping = Prefix6 → NatState → Moment → Ask → NatStep

-- where an edge begins: its prefix, the rules of its first generation, and the bindings that it keeps from the start
pub record EdgeStart : Type 0 where
  pub prefix : Prefix6
  pub book : Generation
  pub kept : List Binding

-- the state before the first step
abbrev pub first_state : EdgeStart → NatState
first_state start = record { book = start.book; clock = 0; bindings = start.kept; notes = [] }

-- how far a history has come: the number of its entries, the generation that the last of them used, and the state
pub record Reached : Type 0 where
  pub place : ℕ
  pub used : ℕ
  pub state : NatState

-- before the first entry it is the generation of the start
abbrev pub outset : EdgeStart → Reached
outset start = record { place = 0; used = start.book.number; state = first_state start }

-- the rules of a generation, among those that were used
abbrev pub book_of : ℕ → List Generation → Option Generation
book_of number books = find (λ b. b.number == number) books

-- the machine's step at an entry: with the rules of the generation that the entry used, at the entry's place
abbrev pub entry_step : Stepping → Prefix6 → List Generation → Reached → Entry → NatStep
entry_step step prefix books r e =
    step prefix r.state (record { seen = unwrap_or (book_of e.mark.used books) r.state.book; now = e.now; place = r.place }) e.ask

-- one entry further
abbrev pub further : Stepping → Prefix6 → List Generation → Reached → Entry → Reached
further step prefix books r e =
    record { place = suc r.place; used = e.mark.used; state = (entry_step step prefix books r e).after }

-- how far these entries lead
abbrev pub replay_from : Stepping → Prefix6 → List Generation → Reached → List Entry → Reached
replay_from step prefix books r [] = r
replay_from step prefix books r (e ∷ entries) = replay_from step prefix books (further step prefix books r e) entries

-- an entry has the machine's answer, it used the greater of the generation that it saw and the one used before, and
-- the rules of that generation are among those that were used
pub record IsGoodEntry (step : Stepping) (prefix : Prefix6) (books : List Generation) (r : Reached) (e : Entry) : Type 0 where
  pub answer : e.answer ≡ (entry_step step prefix books r e).answer
  pub used : e.mark.used ≡ max e.mark.seen r.used
  pub book : IsSome (book_of e.mark.used books)

-- each of these entries is good after those before it
abbrev pub AreGoodFrom : Stepping → Prefix6 → List Generation → Reached → List Entry → Type 0
AreGoodFrom step prefix books r [] = Unit {0}
AreGoodFrom step prefix books r (e ∷ entries) =
    IsGoodEntry step prefix books r e × AreGoodFrom step prefix books (further step prefix books r e) entries

-- the state after a whole history
abbrev pub replay : Stepping → EdgeStart → List Generation → List Entry → NatState
replay step start books entries = (replay_from step start.prefix books (outset start) entries).state

-- a good history
abbrev pub IsGood : Stepping → EdgeStart → List Generation → List Entry → Type 0
IsGood step start books entries = AreGoodFrom step start.prefix books (outset start) entries

answer-set : IsSet Answer
answer-set = Coded-set answer_row.the_row.coded

IsGoodEntry-prop : (step : Stepping) (prefix : Prefix6) (books : List Generation) (r : Reached) (e : Entry)
    → IsProp (IsGoodEntry step prefix books r e)
IsGoodEntry-prop step prefix books r e p q = λ i. record {
  answer = answer-set _ _ p.answer q.answer i;
  used = Coded-set coded_ℕ _ _ p.used q.used i;
  book = Bool-set _ _ p.book q.book i;
}

-- a history is good in at most one way
pub AreGoodFrom-prop : (step : Stepping) (prefix : Prefix6) (books : List Generation) (r : Reached) (entries : List Entry)
    → IsProp (AreGoodFrom step prefix books r entries)
AreGoodFrom-prop step prefix books r [] = Unit-prop
AreGoodFrom-prop step prefix books r (e ∷ entries) =
    ×_prop (IsGoodEntry-prop step prefix books r e) (AreGoodFrom-prop step prefix books (further step prefix books r e) entries)

pub IsGood-prop : (step : Stepping) (start : EdgeStart) (books : List Generation) (entries : List Entry)
    → IsProp (IsGood step start books entries)
IsGood-prop step start books entries = AreGoodFrom-prop step start.prefix books (outset start) entries
