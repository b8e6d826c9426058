-- The rules of each generation of a valid setup are those of a book.
use Rattle.std.proofs.Common.{◌≡◌, ℕ, zero, suc, List, [], ◌∷◌, None}
use Rattle.std.specs.Prelude.{take}
use Rattle.std.specs.Option.{option_or}
use Rattle.map_rules.specs.declared.rule.Rule.{Rule}
use Rattle.map_rules.specs.declared.dmr.Dmr.{Dmr}
use Rattle.rule_book.specs.declared.change.Change.{Change}
use Rattle.rule_book.specs.Book.{rules_of, dmr_of}
use Rattle.rule_book.specs.Change.{rules_after, no_such, already, misfit_of, change_refusal}
use Rattle.rule_book.specs.Refusal.{too_many, overlap_of}
use Rattle.rule_book.specs.Valid.{IsValid}
use Rattle.rule_book.proofs.Sound.{or-None, valid-unless_refused}
use Rattle.mapt_setup.specs.declared.moves.MoveLine.{MoveLine}
use Rattle.mapt_setup.specs.declared.setup.Setup.{Setup}
use Rattle.mapt_setup.specs.Generation.{rules_after_all}
use Rattle.mapt_setup.specs.Valid.{AreAccepted, IsValidSetup}
use Rattle.journeys.specs.Derived.{relay_node}
use Rattle.journeys.specs.Rank.{IsBook}
use Rattle.journeys.specs.Depth.{HasBooks}

-- after a change that is accepted
valid_after : (change : Change) (rules : List Rule) (dmr : Dmr) → change_refusal change rules dmr ≡ None → IsValid (rules_after change rules) dmr
valid_after change rules dmr accepted =
    let both = or-None (misfit_of change rules) (overlap_of (rules_after change rules) dmr) accepted in
    let few = or-None (too_many (rules_after change rules)) (option_or (no_such change rules) (already change rules)) both.0 in
    valid-unless_refused (rules_after change rules) dmr (rw few.0 both.1)

-- and after so many of them
valid_all : (dmr : Dmr) (moves : List MoveLine) (rules : List Rule) → AreAccepted dmr rules moves → IsValid rules dmr → (n : ℕ)
    → IsValid (rules_after_all (take n moves) rules) dmr
valid_all dmr [] rules accepted valid zero = valid
valid_all dmr [] rules accepted valid (suc n) = valid
valid_all dmr (move ∷ moves) rules accepted valid zero = valid
valid_all dmr (move ∷ moves) rules accepted valid (suc n) =
    valid_all dmr moves (rules_after move.change rules) accepted.1 (valid_after move.change rules dmr accepted.0) n

pub is_book : (setup : Setup) (rec seen : ℕ) → IsValidSetup setup → HasBooks setup → IsBook (relay_node setup rec seen)
is_book setup rec seen valid books = (
  valid_all (dmr_of setup.book) setup.changes (rules_of setup.book) valid.changes.accepted books.first seen,
  books.fit seen,
)
